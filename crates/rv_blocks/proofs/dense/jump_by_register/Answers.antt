use Rattle.std.proofs.Common.{◌≡◌, ℕ, ◌+◌, ◌%◌, ◌^◌, ◌*◌, ◌≤◌, Option, arith, refl, subst, sym}
use Rattle.std.specs.Prelude.{slice_index, IfSome}
use Rattle.rv_decode.specs.declared.name.Name.{Name}
use Rattle.rv_decode.specs.declared.name.Name.TheVariants as name
use Rattle.rv_core.specs.CoreState.{CoreState}
use Rattle.rv_core.specs.Effect.{effect, even, immediate_number}
use Rattle.rv_blocks.specs.declared.slot.Op.TheVariants as op
use Rattle.rv_blocks.specs.declared.slot.Slot.{Slot}
use Rattle.rv_core.specs.Executions.{at}
use Rattle.rv_blocks.specs.Slots.{Placed, Stretch, address_of, does, links_to, place_within}
use Rattle.rv_blocks.proofs.Standing.{links_stand}
use Rattle.rv_blocks.proofs.dense.jump_by_register.Goals as goal

pub returns-clause-does : goal.returns-clause-does
unfolding effect does
returns-clause-does c core registers =
    let stretch : Stretch = record { first = c.args._first; count = c.args._count } in
    let place = c.args._place in
    let i = c.args.inst.now in
    let from : CoreState = at core registers (address_of stretch place) in
    let s : Placed = record { registers = registers; place = place } in
    let slot_with : ℕ → Slot = λ value. record { op = op.Jalr; name = name.Jalr; rd = i.rd; rs1 = i.rs1; rs2 = 0; left = 1; value = value } in
    let target_with : ℕ → ℕ = λ value. even ((slice_index registers i.rs1 + value) % 2 ^ 64) in
    let Q : Name → Option Placed → Type 0 = λ n o. IfSome o (λ after. effect n i from ≡ at core after.registers (address_of stretch after.place)) in
    let V : ℕ → Type 0 = λ value. Q i.name (links_to stretch (slot_with value) (target_with value) s) in
    let number = immediate_number i in
    let P : Name → Type 0 = λ n. Q n (links_to stretch (slot_with number) (target_with number) s) in
    let room : stretch.first + 4 * (place + 1) ≤ 2 ^ 48 = omega (arith, c.requires.place, c.requires.memory) in
    subst V (sym c.immediate.ensures) (subst P (sym c.requires.name)
    (links_stand (place_within stretch (target_with number)) stretch place core registers (slot_with number) (target_with number) c.requires.aligned room refl))
