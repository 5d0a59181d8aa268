-- A slot that goes on is one instruction more, and what it costs is what is left of its block.
use Rattle.std.proofs.Common.{get_or, ◌≡◌, ℕ, zero, suc, ◌+◌, ◌-◌, ◌*◌, ◌<◌, ◌≤◌, Bool, true, false, List, Option, Some, None, inr, length, refl, ap, sym, ◌∙◌, arith, subst, IsTrue}
use Rattle.std.specs.Prelude.{if◌then◌else◌, slice_get, IfSome}
use Rattle.std.proofs.lemmas.Option.{slice_get-get_or}
use Rattle.elf_load.specs.MemoryImage.{MemoryImage}
use Rattle.rv_core.specs.Step.{executed}
use Rattle.rv_blocks.specs.declared.slot.Slot.{Slot}
use Rattle.rv_core.specs.Executions.{at, Leads, LeadsTo, LiesIn}
use Rattle.rv_blocks.specs.Slots.{Placed, Stretch, does, is_plain, left_at, left_of, name_of, AreSlots, Ends}

cost_on : (test : Bool) (m n : ℕ) → IsTrue test → (if test then m else n) ≡ m
cost_on true m n holds = refl
cost_on false m n holds = cc

cost_off : (test : Bool) (m n : ℕ) → test ≡ false → (if test then m else n) ≡ n
cost_off true m n fails = cc
cost_off false m n fails = refl

cost_some : (test : Bool) (m : ℕ) → 1 ≤ (if test then 1 + m else 1)
cost_some true m = omega arith
cost_some false m = omega arith

module _ (image : MemoryImage) (first : ℕ) (slots : List Slot) (are : AreSlots image first slots) (place : ℕ) (slot : Slot) (here : slice_get slots place ≡ Some slot) where
  pub costs : left_at slots place ≡ slot.left
  costs = ap left_of here

  pub costs_some : 1 ≤ left_at slots place
  costs_some = subst (λ n. 1 ≤ n) (sym (costs ∙ are.counted place slot here)) (cost_some (is_plain (name_of slot)) (left_at slots (place + 1)))

  pub costs_more : IsTrue (is_plain (name_of slot)) → left_at slots place ≡ 1 + left_at slots (place + 1)
  costs_more plain = costs ∙ are.counted place slot here ∙ cost_on (is_plain (name_of slot)) (1 + left_at slots (place + 1)) 1 plain

  pub costs_last : is_plain (name_of slot) ≡ false → left_at slots place ≡ 1
  costs_last ends = costs ∙ are.counted place slot here ∙ cost_off (is_plain (name_of slot)) (1 + left_at slots (place + 1)) 1 ends

  pub leads_by : (y z : List ℕ) (next : ℕ)
      → Some (record { registers = z; place = next }) ≡ does (name_of slot) (record { first = first; count = length slots }) slot (record { registers = y; place = place })
      → Leads image y (first + 4 * place) z (first + 4 * next)
  leads_by y z next value core =
      let stretch : Stretch = record { first = first; count = length slots } in
      let P : Option Placed → Type 0 = λ o. IfSome o (λ after. executed image (at core y (first + 4 * place)) ≡ at core after.registers (first + 4 * after.place)) in
      subst P (sym value) (are.stand place slot here core y)

  pub one_further : (line : Option ℕ) (n : ℕ) (x y z : List ℕ) (pc next : ℕ) → LeadsTo line n image x pc y (first + 4 * place) → LiesIn line (first + 4 * place)
      → Some (record { registers = z; place = next }) ≡ does (name_of slot) (record { first = first; count = length slots }) slot (record { registers = y; place = place })
      → LeadsTo line (suc n) image x pc z (first + 4 * next)
  one_further line n x y z pc next led lies value = (y, (first + 4 * place, (led, lies, leads_by y z next value)))

  -- one instruction more, where so much of a budget is not spent
  pub leads_further : (line : Option ℕ) (budget unspent rest : ℕ) (x y z : List ℕ) (pc next : ℕ) → unspent ≡ 1 + rest → unspent ≤ budget
      → LeadsTo line (budget - unspent) image x pc y (first + 4 * place) → LiesIn line (first + 4 * place)
      → Some (record { registers = z; place = next }) ≡ does (name_of slot) (record { first = first; count = length slots }) slot (record { registers = y; place = place })
      → LeadsTo line (budget - rest) image x pc z (first + 4 * next)
  leads_further line budget unspent rest x y z pc next more paid led lies value =
      let again : suc (budget - unspent) ≡ budget - rest = omega (arith, more, paid) in
      subst (λ n. LeadsTo line n image x pc z (first + 4 * next)) again (one_further line (budget - unspent) x y z pc next led lies value)

  pub walks_on : (line : Option ℕ) (most left : ℕ) (x y z : List ℕ) (pc next : ℕ) → 0 < left → left ≤ most
      → LeadsTo line (most - left) image x pc y (first + 4 * place) → LiesIn line (first + 4 * place)
      → Some (record { registers = z; place = next }) ≡ does (name_of slot) (record { first = first; count = length slots }) slot (record { registers = y; place = place })
      → LeadsTo line (most - (left - 1)) image x pc z (first + 4 * next)
  walks_on line most left x y z pc next some few led lies value =
      let P : ℕ → Type 0 = λ n. LeadsTo line n image x pc z (first + 4 * next) in
      let again : suc (most - left) ≡ most - (left - 1) = omega (arith, some, few) in
      subst P again (one_further line (most - left) x y z pc next led lies value)

  -- a loop ends where the slot does nothing
  pub ends_apart : (x y : List ℕ) (cost left : ℕ) → y ≡ x
      → None ≡ does (name_of slot) (record { first = first; count = length slots }) slot (record { registers = x; place = place })
      → 0 < left → Ends first slots cost left (record { registers = y; place = place })
  ends_apart x y cost left same none some =
      let stretch : Stretch = record { first = first; count = length slots } in
      let Nothing : List ℕ → Slot → Type 0 = λ r s. does (name_of s) stretch s (record { registers = r; place = place }) ≡ None in
      let apart : Nothing y slot = subst (λ r. Nothing r slot) (sym same) (sym none) in
      inr (some, subst (λ (o : Option Slot). IfSome o (Nothing y)) (sym here) apart)

-- each slot has a cost
pub place_costs : (image : MemoryImage) (first : ℕ) (slots : List Slot) → AreSlots image first slots → (place : ℕ) (other : Slot) → place < length slots → 1 ≤ left_at slots place
place_costs image first slots are place other within = costs_some image first slots are place (get_or slots place other) (slice_get-get_or slots place other within)

-- instructions behind others
pub led_together : (line : Option ℕ) (image : MemoryImage) (x y z : List ℕ) (pc pc_between pc_after : ℕ) (m n : ℕ) → LeadsTo line m image x pc y pc_between → LeadsTo line n image y pc_between z pc_after
    → LeadsTo line (n + m) image x pc z pc_after
led_together line image x y z pc pc_between pc_after m zero before after =
    let P : List ℕ → ℕ → Type 0 = λ r p. LeadsTo line m image x pc r p in
    let same : P z pc_after = subst (λ r. P r pc_after) (sym after.0) (subst (P y) (sym after.1) before) in
    let count : m ≡ 0 + m = omega arith in
    subst (λ k. LeadsTo line k image x pc z pc_after) count same
led_together line image x y z pc pc_between pc_after m (suc n) before (r, (p, (led, lies, leads))) =
    let count : suc (n + m) ≡ suc n + m = omega arith in
    subst (λ k. LeadsTo line k image x pc z pc_after) count (r, (p, (led_together line image x y r pc pc_between p m n before led, lies, leads)))

-- ---- what is answered

-- the instructions led there, by other names of the same numbers
pub led_as : (line : Option ℕ) (image seen : MemoryImage) (n count : ℕ) (x z : List ℕ) (from pc to pc_after : ℕ) → image ≡ seen → count ≡ n → pc ≡ from → pc_after ≡ to
    → LeadsTo line n image x from z to → LeadsTo line count seen x pc z pc_after
led_as line image seen n count x z from pc to pc_after same_image same_count same_from same_to led =
    subst (λ i. LeadsTo line count i x pc z pc_after) same_image
    (subst (λ k. LeadsTo line k image x pc z pc_after) (sym same_count)
    (subst (λ p. LeadsTo line n image x p z pc_after) (sym same_from) (subst (λ p. LeadsTo line n image x from z p) (sym same_to) led)))
