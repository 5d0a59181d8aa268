use Rattle.std.proofs.Common.{◌∙◌, sym}
use Rattle.rv_blocks.specs.Slots.{Stretch}
use Rattle.rv_blocks.proofs.Standing.{accesses_for, found_at, stands_for}
use Rattle.rv_blocks.proofs.making.slot_at_place.Goals as goal

pub returns-in-Instruction : goal.returns-in-Instruction
returns-in-Instruction c =
    let image = c.args.image.now in
    let stretch : Stretch = record { first = c.args.first; count = c.args.count } in
    let slot = c.slot_of.result in
    let fetched = sym c.fetch.ensures.value ∙ c.in-Instruction.is in
    (c.slot_of.ensures.fit, stands_for image stretch c.args.place _ slot fetched c.slot_of.ensures.does, accesses_for image stretch c.args.place _ slot fetched c.slot_of.ensures.accesses, found_at image stretch c.args.place _ slot fetched)
