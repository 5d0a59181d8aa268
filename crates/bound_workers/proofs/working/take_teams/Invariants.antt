-- the cores of the first shares were taken
use Rattle.std.proofs.Common.{◌≡◌, ◌+◌, ◌≤◌, ◌++◌, length, map, vec_capacity}
use Rattle.bound_workers.proofs.working.take_teams.Given as goal

abbrev pub decreases-loop-shares : goal.decreases-loop-shares
decreases-loop-shares g l = length l.shares.items

abbrev pub invariant-loop-shares : goal.invariant-loop-shares
invariant-loop-shares g l = record {
  teams : l.teams.items ++ map (λ s. s.team) l.shares.items ≡ map (λ s. s.team) l.fn.shares.items;
  room : length l.teams.items + length l.shares.items ≤ vec_capacity l.teams;
}
