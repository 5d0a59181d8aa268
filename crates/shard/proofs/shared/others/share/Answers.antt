use Rattle.std.proofs.Common.{◌∙◌}
use Rattle.mesi_dir.specs.CoreSets.{cores_in}
use Rattle.shard.specs.BankSteps.{bank_with}
use Rattle.shard.proofs.BankSteps.{shared_more, known_rest}
use Rattle.shard.proofs.shared.others.share.Goals as goal

pub loop-core-preserved : goal.loop-core-preserved
loop-core-preserved c =
    let is = c.in-Some.ensures.some.1 in
    record {
      kept = c.share_at.ensures.kept;
      known = known_rest (cores_in c.loop-core.cores.words) (cores_in c.take_first.new.self.words) c.in-Some.core c.loop-core.l1s c.share_at.new.l1s is c.share_at.ensures.cores c.loop-core.invariant.known;
      cores = c.share_at.ensures.cores ∙ c.loop-core.invariant.cores;
      after = shared_more c.args.line c.in-Some.core (cores_in c.loop-core.cores.words) (cores_in c.take_first.new.self.words) (bank_with c.loop-core.home c.loop-core.l1s) (bank_with c.share_at.new.home c.share_at.new.l1s) _ is c.share_at.ensures.after c.loop-core.invariant.after;
    }
