use Rattle.std.proofs.Common.{◌≡◌, ◌≤◌, All, length, vec_capacity}
use Rattle.bound_workers.specs.Team.{IsFree}
use Rattle.bound_workers.proofs.hiring.teams.Given as goal

abbrev pub invariant-loop : goal.invariant-loop
invariant-loop l = record {
  count : length l.teams.items ≡ l.counter;
  free : All (IsFree l.fn.cores) l.teams.items;
  room : l.fn.workers ≤ vec_capacity l.teams;
  within : l.counter ≤ l.fn.workers;
}
