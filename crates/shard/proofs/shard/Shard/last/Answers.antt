use Rattle.shard.specs.BankSteps.{bank_with}
use Rattle.shard.proofs.ShardSeen.{last_is}
use Rattle.shard.proofs.shard.Shard.last.Goals as goal

pub returns : goal.returns
returns c = last_is (bank_with c.self.inside.home c.self.inside.l1s.items) c.self.inside.last c.args.self.now c.self.view_is
