-- the shares so far have the first workers' cores, and all are of this interval
use Rattle.std.proofs.Common.{◌≡◌, ◌+◌, ◌≤◌, ◌++◌, All, length, map, vec_capacity}
use Rattle.std.specs.Arc.{arc_value}
use Rattle.bound_workers.proofs.working.shares_of.Given as goal

abbrev pub decreases-loop-teams : goal.decreases-loop-teams
decreases-loop-teams g l = length l.teams.items

abbrev pub invariant-loop-teams : goal.invariant-loop-teams
invariant-loop-teams g l = record {
  teams : map (λ s. s.team) l.shares.items ++ l.teams.items ≡ l.fn.teams.items;
  tables : All (λ s. arc_value s.table ≡ arc_value l.fn.table) l.shares.items;
  programs : All (λ s. s.program.now ≡ l.fn.program) l.shares.items;
  nets : All (λ s. s.net.now ≡ l.fn.net) l.shares.items;
  memories : All (λ s. s.memory.now ≡ l.fn.memory) l.shares.items;
  ends : All (λ s. s.end ≡ l.fn.end) l.shares.items;
  count : length l.shares.items + length l.teams.items ≡ length l.fn.teams.items;
  room : length l.fn.teams.items ≤ vec_capacity l.shares;
  kept : vec_capacity l.teams ≡ vec_capacity l.fn.teams;
}
