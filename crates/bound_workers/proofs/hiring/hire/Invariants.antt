-- the cores that are left, and what each worker has of the others
use Rattle.std.proofs.Common.{◌≡◌, length, vec_len}
use Rattle.dealing.specs.Workers.{tools_of}
use Rattle.bound_workers.specs.Shares.{mates}
use Rattle.bound_workers.proofs.Shares.{HiredSoFar}
use Rattle.bound_workers.proofs.hiring.hire.Given as goal

abbrev pub decreases-loop-core : goal.decreases-loop-core
decreases-loop-core l = vec_len l.cores

abbrev pub invariant-loop-core : goal.invariant-loop-core
invariant-loop-core l = record {
  so_far : HiredSoFar (mates l.fn.cores.items l.fn.seats.items l.fn.records.items) l.cores.items l.seats.items l.records.items (length l.fn.teams) l.teams;
  places : tools_of l.teams ≡ tools_of l.fn.teams;
}
