use Rattle.std.proofs.Common.{ap, ◌∙◌}
use Rattle.shard.proofs.ShardSeen.{new_shard_is}
use Rattle.shard.proofs.shard.Shard.new.Goals as goal

pub invariant_of-result : goal.invariant_of-result
invariant_of-result c =
    (new_shard_is c.args.machine.now c.args.number c.args.image.now c.requires.machine c.requires.number c.requires.base c.requires.size c.in_ok-home.home c.in_ok-l1s.l1s.items c.from.result c.in_ok-home.ensures c.in_ok-l1s.ensures c.from.ensures).1

pub returns : goal.returns
returns c =
    (new_shard_is c.args.machine.now c.args.number c.args.image.now c.requires.machine c.requires.number c.requires.base c.requires.size c.in_ok-home.home c.in_ok-l1s.l1s.items c.from.result c.in_ok-home.ensures c.in_ok-l1s.ensures c.from.ensures).0
