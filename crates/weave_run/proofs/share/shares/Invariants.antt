-- The shares of the workers so far.
use Rattle.std.proofs.Common.{◌≤◌, vec_capacity}
use Rattle.std.specs.Arc.{arc_value}
use Rattle.weave_run.specs.Shares.{AreShares}
use Rattle.weave_run.proofs.share.shares.Given as goal

abbrev pub invariant-loop-worker : goal.invariant-loop-worker
invariant-loop-worker g l = record {
  so_far : AreShares l.fn.plan (arc_value l.fn.crossings) l.worker l.shares.items;
  room : l.fn.workers ≤ vec_capacity l.shares;
}
