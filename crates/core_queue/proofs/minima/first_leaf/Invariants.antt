-- The walk stands at the first node of its level that has the least.
use Rattle.std.proofs.Common.{◌^◌}
use Rattle.core_queue.proofs.Walks.{IsFirst}
use Rattle.core_queue.proofs.minima.first_leaf.Given as goal

abbrev pub invariant-loop : goal.invariant-loop
invariant-loop l = IsFirst l.nodes (2 ^ l.counter) l.at
