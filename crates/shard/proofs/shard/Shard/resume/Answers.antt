use Rattle.shard.specs.BankSteps.{bank_with}
use Rattle.shard.proofs.ShardSeen.{resumed_is}
use Rattle.shard.proofs.shard.Shard.resume.Goals as goal

pub returns : goal.returns
returns c = resumed_is (bank_with c.self.inside.home c.self.inside.l1s.items) c.self.inside.last c.args.last c.args.self.now c.self.view_is
