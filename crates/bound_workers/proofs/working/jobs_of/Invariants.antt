-- the first jobs are there, and those that are left follow
use Rattle.std.proofs.Common.{◌≡◌, ◌+◌, ◌≤◌, ◌++◌, length, map, vec_capacity}
use Rattle.bound_workers.specs.declared.work.Work.TheVariants.{Cores}
use Rattle.bound_workers.proofs.working.jobs_of.Given as goal

abbrev pub decreases-loop-jobs : goal.decreases-loop-jobs
decreases-loop-jobs g l = length l.shares.items

abbrev pub invariant-loop-jobs : goal.invariant-loop-jobs
invariant-loop-jobs g l = record {
  jobs : l.jobs.items ++ map (λ x. Cores x) l.shares.items ≡ map (λ x. Cores x) l.fn.shares.items;
  room : length l.jobs.items + length l.shares.items ≤ vec_capacity l.jobs;
}
