use Rattle.std.proofs.Common.{length}
use Rattle.mesi_dir.specs.CoreSets.{cores_in}
use Rattle.parts_table.proofs.L1Loops.{IsTaking}
use Rattle.parts_table.proofs.station.Station.take_l1s.Given as goal

abbrev pub invariant-loop-core : goal.invariant-loop-core
invariant-loop-core g l = IsTaking l.fn.self l.self l.places l.fn._home l.fn._number l.fn.table.cores (cores_in l.fn.cores.words) (cores_in l.left.words)

abbrev pub decreases-loop-core : goal.decreases-loop-core
decreases-loop-core g l = length (cores_in l.left.words)
