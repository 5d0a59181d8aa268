-- The places so far.
use Rattle.std.proofs.Common.{◌≡◌, length}
use Rattle.weave_core.proofs.Readied.{IsFilled}
use Rattle.weave_core.proofs.waiting.Waiting.begin.Given as goal

abbrev pub invariant-loop-place : goal.invariant-loop-place
invariant-loop-place l = record {
  room : l.ready.room ≡ length l.waits.items;
  filled : IsFilled l.starts.items l.waits.items l.ready.keys l.place;
}
