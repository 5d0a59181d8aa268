use Rattle.std.proofs.Common.{◌≤◌, length, vec_capacity}
use Rattle.weave_run.proofs.Gatherings.{IsDealtSo}
use Rattle.weave_run.proofs.dealt.deal.Given as goal

abbrev pub invariant-loop-index : goal.invariant-loop-index
invariant-loop-index g l = record {
  so_far : IsDealtSo l.fn.places l.fn.comps l.list.items l.rooms l.index (length l.fn.rooms);
  room : length l.fn.places ≤ vec_capacity l.list;
}
