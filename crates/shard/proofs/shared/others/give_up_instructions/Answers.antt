use Rattle.std.proofs.Common.{◌∙◌}
use Rattle.mesi_dir.specs.CoreSets.{cores_in}
use Rattle.shard.specs.BankSteps.{bank_with}
use Rattle.shard.specs.Seen.{no_home}
use Rattle.shard.proofs.BankSteps.{instructions_more, known_rest}
use Rattle.shard.proofs.shared.others.give_up_instructions.Goals as goal

pub loop-core-preserved : goal.loop-core-preserved
loop-core-preserved c =
    let is = c.in-Some.ensures.some.1 in
    let at = c.give_up_instruction_at in
    record {
      known = known_rest (cores_in c.loop-core.cores.words) (cores_in c.take_first.new.self.words) c.in-Some.core c.loop-core.l1s at.new.l1s is at.ensures.cores c.loop-core.invariant.known;
      cores = at.ensures.cores ∙ c.loop-core.invariant.cores;
      after = instructions_more c.args.line c.in-Some.core (cores_in c.loop-core.cores.words) (cores_in c.take_first.new.self.words) (bank_with no_home c.loop-core.l1s) (bank_with no_home at.new.l1s) _ is at.ensures.after c.loop-core.invariant.after;
    }
