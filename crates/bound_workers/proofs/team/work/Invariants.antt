-- those that ran are behind those that are left
use Rattle.std.proofs.Common.{◌-◌, ◌≤◌, length}
use Rattle.noc_mesh.specs.NetTiming.{net_time}
use Rattle.bound_workers.specs.Member.{ArePlacesFor}
use Rattle.bound_workers.proofs.Rows.{RanSoFar}
use Rattle.bound_workers.proofs.team.work.Given as goal

abbrev pub invariant-loop : goal.invariant-loop
invariant-loop g l = record {
  so_far : RanSoFar (λ e. net_time l.fn.net.path e) l.fn.program l.fn.end l.fn.table l.fn.team.queue.items (length l.fn.team.queue.items - l.counter) l.team.queue.items;
  places : ArePlacesFor l.fn.table.cores l.places;
  within : l.counter ≤ length l.fn.team.queue.items;
}
