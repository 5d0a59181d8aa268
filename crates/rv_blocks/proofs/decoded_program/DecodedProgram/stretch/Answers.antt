use Rattle.std.proofs.Common.{◌≡◌, ◌∙◌, List, ◌+◌, ◌*◌, ◌-◌, ◌<◌, length, ap, arith, subst, sym}
use Rattle.elf_load.specs.MemoryImage.{MemoryImage}
use Rattle.rv_blocks.specs.declared.slot.Slot.{Slot}
use Rattle.rv_blocks.specs.Falling.{FallsThrough}
use Rattle.rv_blocks.specs.Slots.{Stretch, left_at}
use Rattle.rv_blocks.proofs.Falling.{block_costs, block_falls, block_within}
use Rattle.rv_blocks.proofs.Standing.{stands_at}
use Rattle.rv_blocks.proofs.decoded_program.DecodedProgram.stretch.Goals as goal

pub returns-in-Some-clause-some : goal.returns-in-Some-clause-some
returns-in-Some-clause-some c =
    let inside = c.self.inside in
    let some = block_costs inside.image.now inside.first inside.slots.items c.self.invariant.1 c.in-Some.place (omega (arith, c.in-Some.ensures.within, c.len.ensures, c.deref.ensures.len)) in
    omega (arith, some, c.cost_at.ensures, ap (λ (slots : List Slot). left_at slots c.in-Some.place) c.deref.ensures.value)

pub returns-in-Some-clause-within : goal.returns-in-Some-clause-within
returns-in-Some-clause-within c = λ several.
    let inside = c.self.inside in
    let stretch : Stretch = record { first = inside.first; count = c.len.result } in
    let place = c.in-Some.place in
    let here : c.args.pc ≡ inside.first + 4 * place = stands_at stretch c.args.pc place (sym c.place_of.ensures.value ∙ c.in-Some.is) in
    let left : c.cost_at.result ≡ left_at inside.slots.items place = c.cost_at.ensures ∙ ap (λ (slots : List Slot). left_at slots place) c.deref.ensures.value in
    let last : place + (c.cost_at.result - 1) < length inside.slots.items =
    block_within inside.image.now inside.first inside.slots.items c.self.invariant.1 (c.cost_at.result - 1) place (omega (arith, several, left)) in
    omega (arith, here, last, several, c.self.invariant.1.memory)

pub returns-in-Some-clause-falls : goal.returns-in-Some-clause-falls
returns-in-Some-clause-falls c = λ i more.
    let inside = c.self.inside in
    let stretch : Stretch = record { first = inside.first; count = c.len.result } in
    let place = c.in-Some.place in
    let here : c.args.pc ≡ inside.first + 4 * place = stands_at stretch c.args.pc place (sym c.place_of.ensures.value ∙ c.in-Some.is) in
    let same : inside.first + 4 * (place + i) ≡ c.args.pc + 4 * i = omega (arith, here) in
    subst (λ (m : MemoryImage). FallsThrough m (c.args.pc + 4 * i)) c.self.view_is
    (subst (λ p. FallsThrough inside.image.now p) same (block_falls inside.image.now inside.first inside.slots.items c.self.invariant.1 i place (omega (arith, more, c.cost_at.ensures, ap (λ (slots : List Slot). left_at slots place) c.deref.ensures.value))))
