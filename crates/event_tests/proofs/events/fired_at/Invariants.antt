-- the firings so far are of the first events
use Rattle.std.proofs.Common.{◌≡◌, map, take}
use Rattle.event_tests.proofs.events.fired_at.Given as goal

abbrev pub invariant-loop-k : goal.invariant-loop-k
invariant-loop-k g l = map (λ f. f.number) l.fired.items ≡ map (λ e. e.number) (take l.k l.events)
