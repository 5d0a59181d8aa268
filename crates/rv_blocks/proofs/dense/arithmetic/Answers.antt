use Rattle.std.proofs.Common.{◌≡◌, ℕ, ◌∙◌, Option, arith, subst, sym}
use Rattle.std.specs.Prelude.{IfSome}
use Rattle.rv_decode.specs.declared.name.Name.{Name}
use Rattle.rv_core.specs.Effect.{effect, immediate_number}
use Rattle.rv_blocks.specs.declared.slot.Op.TheVariants as op
use Rattle.rv_blocks.specs.declared.slot.Slot.{Slot}
use Rattle.rv_core.specs.Executions.{at}
use Rattle.rv_blocks.specs.Slots.{Placed, Stretch, address_of, does, name_of}
use Rattle.rv_blocks.proofs.Accesses.{no_access}
use Rattle.rv_blocks.proofs.Standing.{computed, nothing_written, sets_stand}
use Rattle.rv_blocks.proofs.dense.arithmetic.Goals as goal

pub nothing-requires-clause-nothing : goal.nothing-requires-clause-nothing
nothing-requires-clause-nothing c core registers =
    let stretch : Stretch = record { first = c.args.first; count = c.args.count } in
    let i = c.args.inst.now in
    let r = computed i.name c.requires.name stretch op.Other 1 i core registers c.args.place in
    r.1 ∙ nothing_written stretch c.args.place core registers i.rd r.0 (omega (arith, c.if-inst-eq0.true)) (omega (arith, c.requires.place, c.requires.memory))

pub returns-clause-does : goal.returns-clause-does
returns-clause-does c core registers =
    let stretch : Stretch = record { first = c.args.first; count = c.args.count } in
    let place = c.args.place in
    let i = c.args.inst.now in
    let slot_with : ℕ → Slot = λ value. record { op = c.op_of.result; name = i.name; rd = i.rd; rs1 = i.rs1; rs2 = i.rs2; left = 1; value = value } in
    let s : Placed = record { registers = registers; place = place } in
    let Q : Option Placed → Type 0 = λ o. IfSome o (λ next. effect i.name i (at core registers (address_of stretch place)) ≡ at core next.registers (address_of stretch next.place)) in
    let P : Name → Type 0 = λ n. Q (does n stretch (slot_with (immediate_number i)) s) in
    let V : ℕ → Type 0 = λ value. Q (does (name_of (slot_with value)) stretch (slot_with value) s) in
    let r = computed i.name c.requires.name stretch c.op_of.result 1 i core registers place in
    subst V (sym c.immediate.ensures) (subst P (sym c.op_of.ensures.name) (subst Q (sym r.2) (r.1 ∙ sets_stand stretch place core registers i.rd r.0 (omega (arith, c.requires.place, c.requires.memory)))))

pub returns-clause-accesses : goal.returns-clause-accesses
returns-clause-accesses c core registers = no_access c.op_of.result c.op_of.ensures.access _ _ _
