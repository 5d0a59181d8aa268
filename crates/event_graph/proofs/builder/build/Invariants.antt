use Rattle.std.proofs.Common.{◌≡◌, ◌<◌, ◌≤◌, ℕ, None, length, sum_by, vec_capacity, vec_len, get_or, take}
use Rattle.event_graph.specs.EventGraph.{all_events}
use Rattle.event_graph.specs.NextEvent.{HasLast}
use Rattle.event_graph.proofs.builder.build.Given as goal

abbrev pub invariant-loop-core : goal.invariant-loop-core
invariant-loop-core g l =
    (vec_len l.last ≡ l._core) × ((core : ℕ) → core < length l.last.items → get_or l.last.items core None ≡ None)
    × (l.cores ≤ vec_capacity l.last)

abbrev pub invariant-loop-entry : goal.invariant-loop-entry
invariant-loop-entry g l =
    (vec_len l.last ≡ l.cores)
    × HasLast l.last.items l.events.items
    × (l.events.items ≡ all_events (g.X.Expand.pieces l.expansion) (take l.entry-index l.entries))
    × (sum_by (λ e. length (g.X.Expand.pieces l.expansion e)) l.entries ≤ vec_capacity l.events)
