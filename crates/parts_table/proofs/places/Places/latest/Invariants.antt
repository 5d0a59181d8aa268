use Rattle.std.proofs.Common.{length}
use Rattle.mesi_dir.specs.CoreSets.{cores_in}
use Rattle.parts_table.specs.Places.{time_at}
use Rattle.parts_table.proofs.CoreLoops.{IsLatest}
use Rattle.parts_table.proofs.places.Places.latest.Given as goal

abbrev pub invariant-loop-core : goal.invariant-loop-core
invariant-loop-core l = IsLatest (time_at l.fn.self) l.fn.time (cores_in l.fn.cores.words) (cores_in l.cores.words) l.time

abbrev pub decreases-loop-core : goal.decreases-loop-core
decreases-loop-core l = length (cores_in l.cores.words)
