use Rattle.std.proofs.Common.{◌≡◌, ℕ, subst, sym}
use Rattle.rv_core.specs.CoreState.{CoreState}
use Rattle.rv_core.specs.Effect.{effect}
use Rattle.rv_core.specs.Executions.{at}
use Rattle.rv_blocks.specs.declared.slot.Op.TheVariants as op
use Rattle.rv_blocks.specs.declared.slot.Slot.{Slot}
use Rattle.rv_blocks.specs.Slots.{Stretch, address_of, stores_by}
use Rattle.rv_blocks.proofs.Accesses.{stored}
use Rattle.rv_blocks.proofs.dense.store.Goals as goal

pub returns-clause-accesses : goal.returns-clause-accesses
returns-clause-accesses c core registers =
    let stretch : Stretch = record { first = c.args._first; count = c.args._count } in
    let i = c.args.inst.now in
    let from : CoreState = at core registers (address_of stretch c.args._place) in
    let slot_with : ℕ → Slot = λ value. record { op = op.Store; name = i.name; rd = 0; rs1 = i.rs1; rs2 = i.rs2; left = 1; value = value } in
    subst (λ value. effect i.name i from ≡ stores_by (slot_with value) from) (sym c.immediate.ensures) (stored i.name c.requires.name i from)
