-- The events from here on are linked, and each core has the first of them.
use Rattle.std.proofs.Common.{◌≡◌, ◌≤◌, length}
use Rattle.weave_seq.specs.ByCore.{AreFirstFrom, AreFollowedFrom}
use Rattle.weave_seq.proofs.core_order.link.Given as goal

abbrev pub invariant-loop-from : goal.invariant-loop-from
invariant-loop-from l = record {
  within : l.from ≤ length l.events;
  first : AreFirstFrom l.events l.from l.first;
  cores : length l.first ≡ length l.fn.first;
  following : AreFollowedFrom l.events l.from l.following;
  size : length l.following ≡ length l.events;
}

abbrev pub decreases-loop-from : goal.decreases-loop-from
decreases-loop-from l = l.from
