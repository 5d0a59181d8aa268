use Rattle.std.proofs.Common.{length}
use Rattle.mesi_dir.specs.CoreSets.{cores_in}
use Rattle.parts_table.proofs.TouchedCores.{AreKnown}
use Rattle.parts_table.proofs.shared.cores_touched.Given as goal

abbrev pub invariant-loop-other : goal.invariant-loop-other
invariant-loop-other l = AreKnown l.fn.core l.fn.table.cores (cores_in l.initial.others.words) (cores_in l.others.words) (cores_in l.cores.words)

abbrev pub decreases-loop-other : goal.decreases-loop-other
decreases-loop-other l = length (cores_in l.others.words)
