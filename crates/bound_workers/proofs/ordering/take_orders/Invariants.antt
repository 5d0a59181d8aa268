-- the first were taken out, and the jobs that are left follow
use Rattle.std.proofs.Common.{All, ◌≡◌, ◌+◌, ◌≤◌, ◌++◌, length, map, vec_capacity}
use Rattle.bound_workers.specs.Works.{IsOrder}
use Rattle.bound_workers.specs.declared.work.Work.TheVariants.{Order}
use Rattle.bound_workers.proofs.ordering.take_orders.Given as goal

abbrev pub decreases-loop-jobs : goal.decreases-loop-jobs
decreases-loop-jobs g l = length l.jobs.items

abbrev pub invariant-loop-jobs : goal.invariant-loop-jobs
invariant-loop-jobs g l = record {
  taken : map (λ x. Order x) l.orders.items ++ l.jobs.items ≡ l.fn.jobs.items;
  kind : All (λ w. IsOrder w) l.jobs.items;
  room : length l.orders.items + length l.jobs.items ≤ vec_capacity l.orders;
}
