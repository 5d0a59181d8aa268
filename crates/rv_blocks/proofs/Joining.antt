-- A slot is joined to the block behind it.
use Rattle.std.proofs.Common.{◌≡◌, ◌≢◌, ℕ, ◌+◌, ◌≤◌, ◌<◌, List, length, set, ap, sym, arith, subst}
use Rattle.std.specs.Prelude.{if◌then◌else◌}
use Rattle.std.proofs.lemmas.List.{length-set}
use Rattle.std.proofs.lemmas.Option.{slice_get_past, slice_get_within}
use Rattle.elf_load.specs.MemoryImage.{MemoryImage}
use Rattle.rv_blocks.specs.declared.slot.Slot.{Slot}
use Rattle.rv_blocks.specs.Slots.{Stretch, is_plain, left_at, left_of, name_of, AreCountedFrom, AreMeant, AreMeantSoFar, IsCounted, IsMeant}
use Rattle.rv_blocks.proofs.Lists.{each_after_set, get-set_other, get-set_same}

-- no slot stands behind the last
pub none_behind : (slots : List Slot) → left_at slots (length slots) ≡ 0
none_behind slots = ap left_of (slice_get_past slots (length slots) (omega arith))

pub none_counted : (slots : List Slot) → AreCountedFrom (length slots) slots
none_counted slots place slot from here = let within = slice_get_within slots place slot here in absurd (omega (arith, from, within))

module _ (slots : List Slot) (k : ℕ) (slot : Slot) (within : k < length slots) where
  pub set_meant : (image : MemoryImage) (first : ℕ) → IsMeant image (record { first = first; count = length slots }) k slot → AreMeant image first slots → AreMeant image first (set slots k slot)
  set_meant image first own meant =
      let P : ℕ → Type 0 = λ count. AreMeantSoFar image (record { first = first; count = count }) (set slots k slot) in
      let stretch : Stretch = record { first = first; count = length slots } in
      subst P (sym (length-set slots k slot)) (each_after_set (IsMeant image stretch) slots k slot within own (λ j other apart here. meant j other here))

  pub set_left : left_at (set slots k slot) k ≡ slot.left
  set_left = ap left_of (get-set_same slots k slot within)

  -- the slots behind cost what they did
  behind : (j : ℕ) → k ≤ j → left_at (set slots k slot) (j + 1) ≡ left_at slots (j + 1)
  behind j from = let apart : j + 1 ≢ k = λ same. absurd (omega (arith, same, from)) in ap left_of (get-set_other slots k (j + 1) slot apart)

  pub set_counted : slot.left ≡ (if is_plain (name_of slot) then 1 + left_at slots (k + 1) else 1) → AreCountedFrom (k + 1) slots → AreCountedFrom k (set slots k slot)
  set_counted own counted place found from here =
      let Q : ℕ → Slot → Type 0 = λ j x. k ≤ j → IsCounted (set slots k slot) j x in
      let R : Slot → ℕ → Type 0 = λ x after. x.left ≡ (if is_plain (name_of x) then 1 + after else 1) in
      each_after_set Q slots k slot within
      (λ at. subst (R slot) (sym (behind k at)) own)
      (λ j x apart there at. subst (R x) (sym (behind j at)) (counted j x (omega (arith, apart, at)) there))
      place found here from
