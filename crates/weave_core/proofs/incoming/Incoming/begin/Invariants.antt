-- The stubs so far.
use Rattle.std.proofs.Common.{◌≡◌, length}
use Rattle.weave_core.proofs.Filled.{IsFilling}
use Rattle.weave_core.proofs.incoming.Incoming.begin.Given as goal

abbrev pub invariant-loop-place : goal.invariant-loop-place
invariant-loop-place l = record {
  room : l.by_floor.room ≡ length l.stubs.items;
  filling : IsFilling l.stubs.items l.by_floor.keys l.place;
}
