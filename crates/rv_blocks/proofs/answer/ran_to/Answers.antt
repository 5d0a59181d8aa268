use Rattle.rv_blocks.proofs.answer.ran_to.Goals as goal

pub met-met-requires-clause-rs1 : goal.met-met-requires-clause-rs1
met-met-requires-clause-rs1 g c = (c.requires.slots.fit c.args.rest.place c.slot_at-slot.result.now c.slot_at-slot.ensures).rs1

pub met-met-requires-clause-rs2 : goal.met-met-requires-clause-rs2
met-met-requires-clause-rs2 g c = (c.requires.slots.fit c.args.rest.place c.slot_at-slot.result.now c.slot_at-slot.ensures).rs2

pub met-met-requires-clause-accesses : goal.met-met-requires-clause-accesses
met-met-requires-clause-accesses g c = c.requires.slots.access c.args.rest.place c.slot_at-slot.result.now c.slot_at-slot.ensures
