-- the slots so far are meant, and there is room for the others
use Rattle.std.proofs.Common.{◌≤◌, ◌<◌, ◌-◌, length, vec_capacity}
use Rattle.rv_blocks.specs.Slots.{AreMeantSoFar}
use Rattle.rv_blocks.proofs.making.fill.Given as goal

abbrev pub invariant-loop-slots : goal.invariant-loop-slots
invariant-loop-slots l = record {
  meant : AreMeantSoFar l.image (record { first = l.first; count = l.count }) l.slots.items;
  length : length l.slots.items < l.count;
  room : l.count ≤ vec_capacity l.slots;
}

abbrev pub decreases-loop-slots : goal.decreases-loop-slots
decreases-loop-slots l = l.count - length l.slots.items
