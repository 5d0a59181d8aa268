use Rattle.std.proofs.Common.{◌≡◌, ℕ, ◌+◌, ◌-◌, ◌<◌, ◌∙◌, length, ap, arith, subst, sym}
use Rattle.std.specs.Prelude.{if◌then◌else◌}
use Rattle.rv_blocks.specs.Slots.{Stretch, is_plain, left_at, name_of, AreCountedFrom}
use Rattle.rv_blocks.proofs.Joining.{set_counted, set_meant}
use Rattle.rv_blocks.proofs.join.join_before.Goals as goal

pub returns-clause-meant : goal.returns-clause-meant
returns-clause-meant c =
    let slots = c.args.slots.now in
    let k = c.args.behind - 1 in
    let within : k < length slots = omega (arith, c.requires.some, c.requires.within) in
    let stretch : Stretch = record { first = c.args._first; count = length slots } in
    let own = c.joined-slot.ensures.meant c.args._image.now stretch k (c.requires.meant k c.slot_at.result.now c.slot_at.ensures) in
    set_meant slots k c.joined-slot.result within c.args._image.now c.args._first own c.requires.meant

pub returns-clause-counted : goal.returns-clause-counted
returns-clause-counted c =
    let slots = c.args.slots.now in
    let k = c.args.behind - 1 in
    let slot = c.joined-slot.result in
    let within : k < length slots = omega (arith, c.requires.some, c.requires.within) in
    let again : k + 1 ≡ c.args.behind = omega (arith, c.requires.some) in
    let P : ℕ → Type 0 = λ n. slot.left ≡ (if is_plain (name_of slot) then 1 + n else 1) in
    let own : P (left_at slots (k + 1)) = subst P (c.requires.left ∙ ap (left_at slots) (sym again)) c.joined-slot.ensures.counted in
    set_counted slots k slot within own (subst (λ n. AreCountedFrom n slots) (sym again) c.requires.counted)
