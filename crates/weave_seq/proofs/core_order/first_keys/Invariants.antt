-- The first events of the cores so far have their keys, and there is room for one more of each core.
use Rattle.std.proofs.Common.{◌≤◌, length}
use Rattle.weave_seq.proofs.CoreKeys.{AreKeysBelow}
use Rattle.weave_seq.proofs.core_order.first_keys.Given as goal

abbrev pub invariant-loop-number : goal.invariant-loop-number
invariant-loop-number l = record {
  keys : AreKeysBelow l.events l.number-index l.ready.list;
  few : length l.ready.list ≤ l.number-index;
  room : length l.first ≤ l.ready.room;
}
