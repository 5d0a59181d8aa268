use Rattle.std.proofs.Common.{◌≡◌, ◌≤◌, length, vec_capacity}
use Rattle.mesi_dir.specs.CoreSets.{cores_in}
use Rattle.parts_table.proofs.CoreLoops.{AreRaised}
use Rattle.parts_table.proofs.places.Places.raise.Given as goal

abbrev pub invariant-loop-core : goal.invariant-loop-core
invariant-loop-core l = record {
  raised : AreRaised l.fn.self.times l.fn.time (cores_in l.fn.cores.words) (cores_in l.cores.words) l.self-inside.times.items;
  l1s : l.self-inside.l1s.items ≡ l.fn.self.l1s;
  spares : length l.self-inside.spares.items ≡ l.fn.self.filled;
  many : length l.self-inside.times.items ≡ length l.self-inside.l1s.items;
  room : 256 ≤ vec_capacity l.self-inside.spares;
}

abbrev pub decreases-loop-core : goal.decreases-loop-core
decreases-loop-core l = length (cores_in l.cores.words)
