use Rattle.std.proofs.Common.{◌≡◌, ◌≤◌, List, length, vec_capacity}
use Rattle.weave_run.specs.Dealing.{AreDealt, items_of}
use Rattle.weave_run.proofs.Gatherings.{IsGathered}
use Rattle.weave_run.proofs.dealt.gather.Given as goal

abbrev pub invariant-loop-index : goal.invariant-loop-index
invariant-loop-index g l = record {
  so_far : (comps : List g.row.C.Denot) → length comps ≡ length l.fn.places → AreDealt l.fn.places comps (items_of l.fn.lists) → IsGathered l.fn.places comps l.list.items l.lists l.index;
  size : length l.list.items ≡ l.index;
  room : length l.fn.places ≤ vec_capacity l.list;
  count : length l.lists ≡ length l.fn.lists;
}
