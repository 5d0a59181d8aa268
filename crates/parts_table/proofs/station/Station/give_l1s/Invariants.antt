use Rattle.std.proofs.Common.{length}
use Rattle.mesi_dir.specs.CoreSets.{cores_in}
use Rattle.parts_table.proofs.L1Loops.{IsGiving}
use Rattle.parts_table.proofs.station.Station.give_l1s.Given as goal

abbrev pub invariant-loop-core : goal.invariant-loop-core
invariant-loop-core l = IsGiving l.fn.self l.self l.places (cores_in l.left.words)

abbrev pub decreases-loop-core : goal.decreases-loop-core
decreases-loop-core l = length (cores_in l.left.words)
