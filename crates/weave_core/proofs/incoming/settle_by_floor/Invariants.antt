-- The keys by reach grow fewer.
use Rattle.std.proofs.Common.{length}
use Rattle.weave_core.specs.Stubs.{IsKeyed}
use Rattle.weave_core.proofs.incoming.settle_by_floor.Given as goal

abbrev pub invariant-loop-key : goal.invariant-loop-key
invariant-loop-key l = IsKeyed l.stubs l.floor l.by_floor l.by_word

abbrev pub decreases-loop-key : goal.decreases-loop-key
decreases-loop-key l = length l.by_floor.keys
