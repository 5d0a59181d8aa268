use Rattle.std.proofs.Common.{◌≡◌, ◌∙◌, Some, ap, arith, subst, sym, true≢false}
use Rattle.std.specs.Prelude.{IfSome}
use Rattle.rv_decode.specs.declared.name.Name.{Name}
use Rattle.rv_core.specs.CoreState.{CoreState}
use Rattle.rv_core.specs.Effect.{effect, relative}
use Rattle.rv_blocks.specs.declared.slot.Slot.{Slot}
use Rattle.rv_core.specs.Executions.{at}
use Rattle.rv_blocks.specs.Slots.{Placed, Stretch, address_of, does, is_setting, place_within}
use Rattle.rv_blocks.proofs.Accesses.{no_access}
use Rattle.rv_blocks.proofs.Standing.{branch_ends, branch_stands}
use Rattle.rv_blocks.proofs.dense.branch.Goals as goal

pub returns-in-Some-clause-fit : goal.returns-in-Some-clause-fit
returns-in-Some-clause-fit c = record {
  rd = omega arith;
  rs1 = c.requires.rs1;
  rs2 = c.requires.rs2;
  writes = λ holds. absurd (true≢false (sym holds ∙ ap is_setting c.op_of.ensures.name ∙ branch_ends c.args.inst.now.name c.requires.name));
  leads = λ holds. c.in-Some.ensures.within;
  falls = λ holds. c.requires.place;
  accessed = λ holds. c.requires.place;
}

pub returns-in-Some-clause-does : goal.returns-in-Some-clause-does
returns-in-Some-clause-does c core registers =
    let stretch : Stretch = record { first = c.args.first; count = c.args.count } in
    let place = c.args.place in
    let i = c.args.inst.now in
    let next = c.in-Some.next in
    let from : CoreState = at core registers (address_of stretch place) in
    let slot : Slot = record { op = c.op_of.result; name = i.name; rd = 0; rs1 = i.rs1; rs2 = i.rs2; left = 1; value = next } in
    let s : Placed = record { registers = registers; place = place } in
    let P : Name → Type 0 = λ n. IfSome (does n stretch slot s) (λ after. effect i.name i from ≡ at core after.registers (address_of stretch after.place)) in
    let within : place_within stretch (relative i from) ≡ Some next =
    subst (λ target. place_within stretch target ≡ Some next) c.relative.ensures (sym c.in-Some.ensures.value) in
    subst P (sym c.op_of.ensures.name)
    (branch_stands i.name c.requires.name stretch place core registers i c.op_of.result next c.requires.aligned (omega (arith, c.requires.place, c.requires.memory)) within)

pub returns-in-Some-clause-accesses : goal.returns-in-Some-clause-accesses
returns-in-Some-clause-accesses c core registers = no_access c.op_of.result c.op_of.ensures.access _ _ _
