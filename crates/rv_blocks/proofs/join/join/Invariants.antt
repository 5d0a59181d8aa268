-- the slots from here on are joined, and the others are as they were made
use Rattle.std.proofs.Common.{◌≡◌, ◌≤◌, length}
use Rattle.rv_blocks.specs.Slots.{left_at, AreCountedFrom, AreMeant}
use Rattle.rv_blocks.proofs.join.join.Given as goal

abbrev pub invariant-loop-behind : goal.invariant-loop-behind
invariant-loop-behind l = record {
  within : l.behind ≤ length l.slots;
  left : l.left ≡ left_at l.slots l.behind;
  few : l.left ≤ 128;
  meant : AreMeant l.image l.first l.slots;
  counted : AreCountedFrom l.behind l.slots;
  length : length l.slots ≡ length l.fn.slots;
}

abbrev pub decreases-loop-behind : goal.decreases-loop-behind
decreases-loop-behind l = l.behind
