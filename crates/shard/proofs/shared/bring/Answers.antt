use Rattle.shard.proofs.shared.bring.Goals as goal

pub take_part-requires : goal.take_part-requires
take_part-requires c = c.make_way-coming.ensures.can.few

pub returns-clause-after : goal.returns-clause-after
returns-clause-after c =
    c.make_way-coming.ensures.rest c.bring_own.new.home c.take_part.new.home c.bring_own.new.l1s c.bring_own.ensures.after c.take_part.ensures
