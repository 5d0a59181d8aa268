use Rattle.rv_blocks.proofs.answer.met_at.Goals as goal

pub met-requires-clause-rs1 : goal.met-requires-clause-rs1
met-requires-clause-rs1 g c = (c.requires.slots.fit c.args.halt.now.gone.place c.slot_at-slot.result.now c.slot_at-slot.ensures).rs1

pub met-requires-clause-rs2 : goal.met-requires-clause-rs2
met-requires-clause-rs2 g c = (c.requires.slots.fit c.args.halt.now.gone.place c.slot_at-slot.result.now c.slot_at-slot.ensures).rs2
