-- the first jobs are there, and those that are left follow
use Rattle.std.proofs.Common.{◌≡◌, ◌+◌, ◌≤◌, ◌++◌, length, map, vec_capacity}
use Rattle.bound_workers.specs.declared.work.Work.TheVariants.{Order}
use Rattle.bound_workers.proofs.ordering.jobs_of.Given as goal

abbrev pub decreases-loop-jobs : goal.decreases-loop-jobs
decreases-loop-jobs g l = length l.orders.items

abbrev pub invariant-loop-jobs : goal.invariant-loop-jobs
invariant-loop-jobs g l = record {
  jobs : l.jobs.items ++ map (λ x. Order x) l.orders.items ≡ map (λ x. Order x) l.fn.orders.items;
  room : length l.jobs.items + length l.orders.items ≤ vec_capacity l.jobs;
  kept : vec_capacity l.orders ≡ vec_capacity l.fn.orders;
}
