use Rattle.std.proofs.Common.{◌≤◌, vec_capacity}
use Rattle.weave_run.specs.Dealing.{AreEmptyRooms}
use Rattle.weave_run.proofs.dealt.rooms.Given as goal

abbrev pub invariant-loop-domain : goal.invariant-loop-domain
invariant-loop-domain g l = record {
  empty : AreEmptyRooms l._domain l.fn.count l.rooms.items;
  room : l.fn.domains ≤ vec_capacity l.rooms;
}
