use Rattle.std.proofs.Common.{◌≡◌, ◌++◌, ◌+◌, vec_capacity, vec_len}
use Rattle.event_graph.specs.NextEvent.{HasLast}
use Rattle.event_graph.proofs.AccessSteps.{events_below}
use Rattle.event_graph.proofs.builder.add_access.Given as goal

abbrev pub invariant-loop-place : goal.invariant-loop-place
invariant-loop-place g l =
    (l.events.items ≡ l.initial.events.items ++ events_below l.initial.events.items l.entry (g.X.Expand.pieces l.expansion l.entry) l.place)
    × (vec_len l.events ≡ vec_len l.initial.events + l.place)
    × HasLast l.last.items l.events.items
    × (vec_len l.last ≡ vec_len l.initial.last)
    × (vec_capacity l.events ≡ vec_capacity l.initial.events)
