-- the first were taken out, and the jobs that are left follow
use Rattle.std.proofs.Common.{All, ◌≡◌, ◌+◌, ◌≤◌, ◌++◌, length, map, vec_capacity}
use Rattle.bound_workers.specs.Works.{AreCores}
use Rattle.bound_workers.specs.declared.work.Work.TheVariants.{Cores}
use Rattle.bound_workers.proofs.working.take_shares.Given as goal

abbrev pub decreases-loop-jobs : goal.decreases-loop-jobs
decreases-loop-jobs g l = length l.jobs.items

abbrev pub invariant-loop-jobs : goal.invariant-loop-jobs
invariant-loop-jobs g l = record {
  taken : map (λ x. Cores x) l.shares.items ++ l.jobs.items ≡ l.fn.jobs.items;
  kind : All (λ w. AreCores w) l.jobs.items;
  room : length l.shares.items + length l.jobs.items ≤ vec_capacity l.shares;
}
