use Rattle.std.proofs.Common.{◌≡◌, length}
use Rattle.home.specs.HomeState.{KeepsLine}
use Rattle.mesi_dir.specs.CoreSets.{cores_in}
use Rattle.shard.specs.BankSteps.{bank_with, AreKnown}
use Rattle.shard.specs.SharedStep.{shared_by}
use Rattle.shard.proofs.shared.others.share.Given as goal

abbrev pub decreases-loop-core : goal.decreases-loop-core
decreases-loop-core l = length (cores_in l.cores.words)

abbrev pub invariant-loop-core : goal.invariant-loop-core
invariant-loop-core l = record {
  kept : KeepsLine l.home l.line;
  known : AreKnown (cores_in l.cores.words) l.l1s;
  cores : length l.l1s ≡ length l.initial.l1s;
  after : shared_by l.line (cores_in l.cores.words) (bank_with l.home l.l1s) ≡ shared_by l.line (cores_in l.initial.cores.words) (bank_with l.initial.home l.initial.l1s);
}
