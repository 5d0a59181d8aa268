-- The keys by word come nearer to the arrivals, or grow fewer.
use Rattle.weave_core.specs.Stubs.{IsFloorCurrent, IsKeyed, slack}
use Rattle.weave_core.proofs.incoming.settle_by_word.Given as goal

abbrev pub invariant-loop-key : goal.invariant-loop-key
invariant-loop-key l = record {
  keyed : IsKeyed l.stubs l.floor l.by_floor l.by_word;
  current : IsFloorCurrent l.stubs l.floor l.by_floor;
}

abbrev pub decreases-loop-key : goal.decreases-loop-key
decreases-loop-key l = slack l.stubs l.floor l.by_word.keys
