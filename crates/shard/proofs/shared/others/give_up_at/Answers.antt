use Rattle.shard.proofs.BankSteps.{kept_still}
use Rattle.shard.proofs.shared.others.give_up_at.Goals as goal

pub returns-clause-kept : goal.returns-clause-kept
returns-clause-kept c = kept_still c.args.home.now c.collect.new.home c.args.line _ c.collect.ensures.after c.collect.ensures.long c.requires.kept
