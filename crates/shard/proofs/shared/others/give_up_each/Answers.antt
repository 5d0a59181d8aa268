use Rattle.std.proofs.Common.{◌∙◌}
use Rattle.mesi_dir.specs.CoreSets.{cores_in}
use Rattle.shard.specs.BankSteps.{bank_with}
use Rattle.shard.proofs.BankSteps.{given_more, known_rest}
use Rattle.shard.proofs.shared.others.give_up_each.Goals as goal

pub loop-core-preserved : goal.loop-core-preserved
loop-core-preserved c =
    let is = c.in-Some.ensures.some.1 in
    record {
      kept = c.give_up_at.ensures.kept;
      known = known_rest (cores_in c.loop-core.cores.words) (cores_in c.take_first.new.self.words) c.in-Some.core c.loop-core.l1s c.give_up_at.new.l1s is c.give_up_at.ensures.cores c.loop-core.invariant.known;
      cores = c.give_up_at.ensures.cores ∙ c.loop-core.invariant.cores;
      after = given_more c.args.line c.in-Some.core (cores_in c.loop-core.cores.words) (cores_in c.take_first.new.self.words) (bank_with c.loop-core.home c.loop-core.l1s) (bank_with c.give_up_at.new.home c.give_up_at.new.l1s) _ is c.give_up_at.ensures.after c.loop-core.invariant.after;
    }
