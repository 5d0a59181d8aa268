-- The nodes are minima but for the one above where the walk stands.
use Rattle.std.proofs.Common.{◌≡◌, ◌*◌, ◌<◌, drop, length, get_or}
use Rattle.std.specs.Prelude.{slice_set}
use Rattle.core_queue.proofs.Walks.{AreMinimaBut}
use Rattle.core_queue.proofs.minima.set_leaf.Given as goal

abbrev pub invariant-loop-at : goal.invariant-loop-at
invariant-loop-at l = record {
  some : 0 < l.at;
  within : l.at < 2 * l.leaves;
  all : length l.nodes ≡ 2 * l.leaves;
  here : l.least ≡ get_or l.nodes l.at 0;
  minima : AreMinimaBut l.leaves l.at l.nodes;
  set : drop l.leaves l.nodes ≡ slice_set (drop l.leaves l.fn.nodes) l.leaf l.word;
}

abbrev pub decreases-loop-at : goal.decreases-loop-at
decreases-loop-at l = l.at
