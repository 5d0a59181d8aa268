-- The first shares are carried, and those that are left follow.
use Rattle.std.proofs.Common.{◌≡◌, ◌+◌, ◌≤◌, ◌++◌, length, map, vec_capacity}
use Rattle.bound_workers.proofs.weaving.give.Given as goal

abbrev pub decreases-loop-jobs : goal.decreases-loop-jobs
decreases-loop-jobs g l = length l.shares.items

abbrev pub invariant-loop-jobs : goal.invariant-loop-jobs
invariant-loop-jobs g l = record {
  jobs : l.jobs.items ++ map g.J.Carries.of l.shares.items ≡ map g.J.Carries.of l.fn.shares.items;
  room : length l.jobs.items + length l.shares.items ≤ vec_capacity l.jobs;
  kept : vec_capacity l.shares ≡ vec_capacity l.fn.shares;
  jobs_room : vec_capacity l.jobs ≡ vec_capacity l.fn.jobs;
}
