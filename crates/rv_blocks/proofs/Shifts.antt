-- The lowest bytes of a number by two shifts, and the same sign-extended.
use Rattle.std.proofs.Common.{◌≡◌, ℕ, suc, ◌+◌, ◌-◌, ◌*◌, ◌/◌, ◌%◌, ◌^◌, ◌<◌, ◌≤◌, Bool, true, false, nat_lt, refl, ap, ◌∙◌, arith, rules, w64, to_z, of_z, ℤ, pos, negsuc}
use Rattle.std.specs.Prelude.{if◌then◌else◌}
use Rattle.std.proofs.lemmas.Bool.{ltb-false, ltb-true}
use Rattle.std.proofs.lemmas.Int.{of_z-to_z}
use Rattle.std.proofs.Math.Nat.{div-le_self}
use Rattle.rv_decode.specs.declared.name.Name.{Name}
use Rattle.rv_decode.specs.declared.name.Name.TheVariants as name
use Rattle.rv_core.specs.Accesses.{sign_extended_bytes}
use Rattle.rv_blocks.specs.Slots.{width_of}
use lib.Signed.{shr_z}

-- a load or a store has 1, 2, 4 or 8 bytes
pub each_width : (P : ℕ → Type 0) → P 1 → P 2 → P 4 → P 8 → (n : Name) → P (width_of n)
each_width P one two four eight name.Lb = one
each_width P one two four eight name.Lbu = one
each_width P one two four eight name.Sb = one
each_width P one two four eight name.Lh = two
each_width P one two four eight name.Lhu = two
each_width P one two four eight name.Sh = two
each_width P one two four eight name.Lw = four
each_width P one two four eight name.Lwu = four
each_width P one two four eight name.Sw = four
each_width P one two four eight _ = eight

-- the shifts that do not copy the highest bit
abbrev Zeros : (number width : ℕ) → Type 0
Zeros number width = number * 2 ^ (64 - 8 * width) % 2 ^ 64 / 2 ^ (64 - 8 * width) ≡ (number % 2 ^ (8 * width) + 2 ^ (8 * width) * 0) % 2 ^ 64

pub zeros : (number : ℕ) → number < 2 ^ 64 → (n : Name) → Zeros number (width_of n)
zeros number fits n = each_width (Zeros number) (omega (arith, fits)) (omega (arith, fits)) (omega (arith, fits)) (omega (arith, fits)) n

-- a shift to the right that copies the highest bit, by whether that is 0
copied_by : (test : Bool) (h d : ℕ) → of_z w64 (shr_z (if test then pos h else negsuc (2 ^ 64 - suc h)) d) ≡ (if test then h / d else 2 ^ 64 - suc ((2 ^ 64 - suc h) / d))
copied_by true h d = refl
copied_by false h d = refl

copied : (h d : ℕ) → of_z w64 (shr_z (to_z w64 h) d) ≡ (if nat_lt h (2 ^ 63) then h / d else 2 ^ 64 - suc ((2 ^ 64 - suc h) / d))
copied h d = copied_by (nat_lt h (2 ^ 63)) h d

copied_fits : (test : Bool) (h d : ℕ) → h < 2 ^ 64 → (if test then h / d else 2 ^ 64 - suc ((2 ^ 64 - suc h) / d)) < 2 ^ 64
copied_fits true h d fits = omega (arith, div-le_self h d)
copied_fits false h d fits = omega arith

-- of a number that was cast to a signed one and back
pub copied_cast : (z : ℤ) (h d : ℕ) → h < 2 ^ 64 → z ≡ to_z w64 h
    → of_z w64 (to_z w64 (of_z w64 (shr_z (to_z w64 (of_z w64 z)) d))) ≡ (if nat_lt h (2 ^ 63) then h / d else 2 ^ 64 - suc ((2 ^ 64 - suc h) / d))
copied_cast z h d fits is =
    let back : of_z w64 z ≡ h = ap (of_z w64) is ∙ of_z-to_z w64 h fits in
    let inner : of_z w64 (shr_z (to_z w64 (of_z w64 z)) d) ≡ (if nat_lt h (2 ^ 63) then h / d else 2 ^ 64 - suc ((2 ^ 64 - suc h) / d)) =
    ap (λ n. of_z w64 (shr_z (to_z w64 n) d)) back ∙ copied h d in
    ap (λ n. of_z w64 (to_z w64 n)) inner ∙ of_z-to_z w64 _ (copied_fits (nat_lt h (2 ^ 63)) h d fits)

-- two choices by tests that agree
alike_by : (test : Bool) (h half n middle x y u v : ℕ) → nat_lt h half ≡ test → (h < half → n < middle) → (half ≤ h → middle ≤ n) → (h < half → x ≡ u) → (half ≤ h → y ≡ v)
    → (if test then x else y) ≡ (if nat_lt n middle then u else v)
alike_by true h half n middle x y u v e below above low high =
    let less : h < half = ltb-true _ _ e in
    let here : n < middle = below less in
    let second : nat_lt n middle ≡ true = search rules in
    rw second (low less)
alike_by false h half n middle x y u v e below above low high =
    let more : half ≤ h = ltb-false _ _ e in
    let here : middle ≤ n = above more in
    let second : nat_lt n middle ≡ false = search rules in
    rw second (high more)

module _ (number width : ℕ) where
  -- the number's lowest bytes as the highest of 64 bits, and as they are
  abbrev high : ℕ
  high = number * 2 ^ (64 - 8 * width) % 2 ^ 64

  abbrev low : ℕ
  low = (number % 2 ^ (8 * width) + 2 ^ (8 * width) * 0) % 2 ^ 64

  abbrev Signs : Type 0
  Signs = (if nat_lt high (2 ^ 63) then high / 2 ^ (64 - 8 * width) else 2 ^ 64 - suc ((2 ^ 64 - suc high) / 2 ^ (64 - 8 * width))) ≡ sign_extended_bytes width low

  signs_of : (high < 2 ^ 63 → low < 2 ^ (8 * width - 1)) → (2 ^ 63 ≤ high → 2 ^ (8 * width - 1) ≤ low)
      → (high < 2 ^ 63 → high / 2 ^ (64 - 8 * width) ≡ low)
      → (2 ^ 63 ≤ high → 2 ^ 64 - suc ((2 ^ 64 - suc high) / 2 ^ (64 - 8 * width)) ≡ (low + (2 ^ 64 - 2 ^ (8 * width))) % 2 ^ 64)
      → Signs
  unfolding sign_extended_bytes
  signs_of below above positive negative = alike_by (nat_lt high (2 ^ 63)) high (2 ^ 63) low (2 ^ (8 * width - 1)) _ _ _ _ refl below above positive negative

pub signs : (number : ℕ) → number < 2 ^ 64 → (n : Name) → Signs number (width_of n)
signs number fits n =
    each_width (Signs number) (signs_of number 1 (λ l. omega arith) (λ l. omega arith) (λ l. omega arith) (λ l. omega arith))
    (signs_of number 2 (λ l. omega arith) (λ l. omega arith) (λ l. omega arith) (λ l. omega arith))
    (signs_of number 4 (λ l. omega arith) (λ l. omega arith) (λ l. omega arith) (λ l. omega arith))
    (signs_of number 8 (λ l. omega arith) (λ l. omega arith) (λ l. omega arith) (λ l. omega arith)) n
