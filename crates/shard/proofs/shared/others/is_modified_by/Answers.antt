use Rattle.std.proofs.Common.{refl, sym, ap, ◌∙◌}
use Rattle.mesi_dir.specs.CoreSets.{cores_in}
use Rattle.shard.specs.BankSteps.{bank_with}
use Rattle.shard.specs.Coherence.{is_modified}
use Rattle.shard.specs.Seen.{no_home}
use Rattle.shard.proofs.BankSteps.{known_rest, letter_old, modified_rest}
use Rattle.shard.proofs.shared.others.is_modified_by.Goals as goal

pub loop-core-preserved : goal.loop-core-preserved
loop-core-preserved c =
    let is = c.in-Some.ensures.some.1 in
    record {
      known = known_rest (cores_in c.loop-core.cores.words) (cores_in c.take_first.new.self.words) c.in-Some.core c.args.l1s.now c.args.l1s.now is refl c.loop-core.invariant.known;
      after = modified_rest (bank_with no_home c.args.l1s.now) c.args.line c.in-Some.core (cores_in c.loop-core.cores.words) (cores_in c.take_first.new.self.words) _ is
          (sym (ap is_modified c.letter_at.ensures) ∙ letter_old c.letter_at.result c.in_default-letter_at.not-M) c.loop-core.invariant.after;
    }
