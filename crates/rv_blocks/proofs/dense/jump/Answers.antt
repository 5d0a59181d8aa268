use Rattle.std.proofs.Common.{◌≡◌, ◌+◌, Some, arith, subst, sym}
use Rattle.rv_decode.specs.declared.name.Name.{Name}
use Rattle.rv_core.specs.CoreState.{CoreState}
use Rattle.rv_core.specs.Effect.{effect, relative, with_register}
use Rattle.rv_core.specs.Executions.{at}
use Rattle.rv_blocks.specs.Slots.{Stretch, address_of, does, place_within}
use Rattle.rv_blocks.proofs.Standing.{jumps_stand}
use Rattle.rv_blocks.proofs.dense.jump.Goals as goal

pub returns-in-Some-clause-does : goal.returns-in-Some-clause-does
unfolding effect does
returns-in-Some-clause-does c core registers =
    let stretch : Stretch = record { first = c.args.first; count = c.args.count } in
    let place = c.args.place in
    let i = c.args.inst.now in
    let next = c.in-Some.next in
    let from : CoreState = at core registers (address_of stretch place) in
    let to : CoreState = at core (with_register registers i.rd (address_of stretch (place + 1))) (address_of stretch next) in
    let P : Name → Type 0 = λ n. effect n i from ≡ to in
    let within : place_within stretch (relative i from) ≡ Some next =
    subst (λ target. place_within stretch target ≡ Some next) c.relative.ensures (sym c.in-Some.ensures.value) in
    subst P (sym c.requires.name) (jumps_stand stretch place core registers i.rd (relative i from) next c.requires.aligned (omega (arith, c.requires.place, c.requires.memory)) within)
