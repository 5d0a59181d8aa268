use Rattle.std.proofs.Common.{◌≡◌, length}
use Rattle.mesi_dir.specs.CoreSets.{cores_in}
use Rattle.shard.specs.BankSteps.{bank_with, AreKnown}
use Rattle.shard.specs.Seen.{no_home}
use Rattle.shard.specs.SharedStep.{instructions_given_up_by}
use Rattle.shard.proofs.shared.others.give_up_instructions.Given as goal

abbrev pub decreases-loop-core : goal.decreases-loop-core
decreases-loop-core l = length (cores_in l.cores.words)

abbrev pub invariant-loop-core : goal.invariant-loop-core
invariant-loop-core l = record {
  known : AreKnown (cores_in l.cores.words) l.l1s;
  cores : length l.l1s ≡ length l.initial.l1s;
  after : instructions_given_up_by l.line (cores_in l.cores.words) (bank_with no_home l.l1s) ≡ instructions_given_up_by l.line (cores_in l.initial.cores.words) (bank_with no_home l.initial.l1s);
}
