-- A word is its six fields, and a test of stated bits is a test of each field.
use Rattle.std.proofs.Common.{◌≡◌, ℕ, ◌+◌, ◌-◌, ◌*◌, ◌/◌, ◌^◌, ◌<◌, Bool, true, false, ◌&&◌, ◌==◌, if◌then◌else◌, refl, sym, ap, ap₂, ◌∙◌, arith, eq-eqb, eqb-true, bit_and, bit_or, Decides, min, max, cond, mod-eq_of_lt}
use Rattle.std.proofs.lemmas.Nat.{and_shr, and_mod, and_mask, and_le_r, mod_below, pow_pos, or_disjoint}
use Rattle.std.proofs.lemmas.Nat.Bits.{bit_at_and, bit_at_or, bit_at-zero, same_from_bits}
use Rattle.std.specs.Int.{bit_at}
use Rattle.std.proofs.lemmas.Bool.Decides.{same_from_decides, Decides-eqb}
use Rattle.rv_decode.specs.InstructionWord.{bits_of}

-- the number with only the bits of a mask, without a `&` where the mask has no bit or each
abbrev pub masked : ℕ → ℕ → ℕ → ℕ
masked width mask x = if mask == 0 then 0 else (if mask == 2 ^ width - 1 then x else bit_and x mask)

-- whether a word of these fields has the value's bits where the mask says
abbrev pub states : (mask value opcode rd funct3 rs1 rs2 funct7 : ℕ) → Bool
states mask value opcode rd funct3 rs1 rs2 funct7 =
    (masked 7 (bits_of 6 0 mask) opcode == bits_of 6 0 value) && ((masked 3 (bits_of 14 12 mask) funct3 == bits_of 14 12 value) && ((masked 7 (bits_of 31 25 mask) funct7 == bits_of 31 25 value) && ((masked 5 (bits_of 11 7 mask) rd == bits_of 11 7 value) && ((masked 5 (bits_of 19 15 mask) rs1 == bits_of 19 15 value) && (masked 5 (bits_of 24 20 mask) rs2 == bits_of 24 20 value)))))

pub word_by_fields : (x : ℕ) → x < 2 ^ 32 → x ≡ bits_of 6 0 x + bits_of 11 7 x * 2 ^ 7 + bits_of 14 12 x * 2 ^ 12 + bits_of 19 15 x * 2 ^ 15 + bits_of 24 20 x * 2 ^ 20 + bits_of 31 25 x * 2 ^ 25
word_by_fields x h = omega arith

pub bits_of_below : (high low x : ℕ) → bits_of high low x < 2 ^ (high + 1 - low)
bits_of_below high low x = mod_below (x / 2 ^ low) (2 ^ (high + 1 - low)) (pow_pos (high + 1 - low))

pub bits_of-and : (high low x y : ℕ) → bits_of high low (bit_and x y) ≡ bit_and (bits_of high low x) (bits_of high low y)
bits_of-and high low x y = rw (and_shr x y low, and_mod (x / 2 ^ low) (y / 2 ^ low) (high + 1 - low)) refl

masked_by_test : (width mask x : ℕ) (a b : Bool) → x < 2 ^ width → (a ≡ true → mask ≡ 0) → (b ≡ true → mask ≡ 2 ^ width - 1) → bit_and x mask ≡ cond a 0 (cond b x (bit_and x mask))
masked_by_test width mask x true b h p q = let e : mask ≡ 0 = p refl in omega (arith, and_le_r x mask)
masked_by_test width mask x false true h p q = ap (bit_and x) (q refl) ∙ and_mask x width ∙ mod-eq_of_lt h
masked_by_test width mask x false false h p q = refl

pub and-masked : (width mask x : ℕ) → x < 2 ^ width → bit_and x mask ≡ masked width mask x
and-masked width mask x h = masked_by_test width mask x (mask == 0) (mask == 2 ^ width - 1) h (eqb-true mask 0) (eqb-true mask (2 ^ width - 1))

-- the field of a word under a mask
pub field-and : (high low mask x : ℕ) → bits_of high low (bit_and x mask) ≡ masked (high + 1 - low) (bits_of high low mask) (bits_of high low x)
field-and high low mask x = bits_of-and high low x mask ∙ and-masked (high + 1 - low) (bits_of high low mask) (bits_of high low x) (bits_of_below high low x)

-- two words whose six fields are equal are one
same_fields : (x y : ℕ) → x < 2 ^ 32 → y < 2 ^ 32 → bits_of 6 0 x ≡ bits_of 6 0 y → bits_of 11 7 x ≡ bits_of 11 7 y → bits_of 19 15 x ≡ bits_of 19 15 y → bits_of 24 20 x ≡ bits_of 24 20 y → bits_of 31 25 x ≡ bits_of 31 25 y → bits_of 14 12 x ≡ bits_of 14 12 y → x ≡ y
same_fields x y hx hy a b c d e f = word_by_fields x hx ∙ rw (a, b, c, d, e, f) (sym (word_by_fields y hy))

-- six tests at once
all_six : (a b c d e f : Bool) (P : Type 0) → (a && (b && (c && (d && (e && f))))) ≡ true → (a ≡ true → b ≡ true → c ≡ true → d ≡ true → e ≡ true → f ≡ true → P) → P
all_six true true true true true f P e k = k refl refl refl refl refl e
all_six true true true true false f P e k = cc
all_six true true true false _ f P e k = cc
all_six true true false _ _ f P e k = cc
all_six true false _ _ _ f P e k = cc
all_six false _ _ _ _ f P e k = cc

-- what the test of each field says
abbrev Field : ℕ → ℕ → ℕ → ℕ → ℕ → Type 0
Field high low mask value word = masked (high + 1 - low) (bits_of high low mask) (bits_of high low word) ≡ bits_of high low value

fields_from_word : (high low mask value word : ℕ) → bit_and word mask ≡ value → Field high low mask value word
fields_from_word high low mask value word e = sym (field-and high low mask word) ∙ ap (bits_of high low) e

and_below : (mask word : ℕ) → mask < 2 ^ 32 → bit_and word mask < 2 ^ 32
and_below mask word h = omega (arith, and_le_r word mask)

word_from_fields : (mask value word : ℕ) → mask < 2 ^ 32 → value < 2 ^ 32 → Field 6 0 mask value word → Field 11 7 mask value word → Field 19 15 mask value word → Field 24 20 mask value word → Field 31 25 mask value word → Field 14 12 mask value word → bit_and word mask ≡ value
word_from_fields mask value word hm hv a b c d e f =
    same_fields (bit_and word mask) value (and_below mask word hm) hv
    (field-and 6 0 mask word ∙ a)
    (field-and 11 7 mask word ∙ b)
    (field-and 19 15 mask word ∙ c)
    (field-and 24 20 mask word ∙ d)
    (field-and 31 25 mask word ∙ e)
    (field-and 14 12 mask word ∙ f)

-- a word's test of stated bits, field by field
abbrev pub states_word : ℕ → ℕ → ℕ → Bool
states_word mask value word =
    states mask value (bits_of 6 0 word) (bits_of 11 7 word) (bits_of 14 12 word) (bits_of 19 15 word) (bits_of 24 20 word) (bits_of 31 25 word)

six_true : (a b c d e f : Bool) → a ≡ true → b ≡ true → c ≡ true → d ≡ true → e ≡ true → f ≡ true → (a && (b && (c && (d && (e && f))))) ≡ true
six_true a b c d e f p q r s t u = rw (p, q, r, s, t, u) refl

Decides-states : (mask value word : ℕ) → mask < 2 ^ 32 → value < 2 ^ 32 → Decides (states_word mask value word) (bit_and word mask ≡ value)
Decides-states mask value word hm hv = (
  λ t. all_six _ _ _ _ _ _ (bit_and word mask ≡ value) t (λ a b c d e f.
      word_from_fields mask value word hm hv (eqb-true _ _ a) (eqb-true _ _ d) (eqb-true _ _ e) (eqb-true _ _ f) (eqb-true _ _ c) (eqb-true _ _ b)),
  λ e. six_true _ _ _ _ _ _
      (eq-eqb _ _ (fields_from_word 6 0 mask value word e))
      (eq-eqb _ _ (fields_from_word 14 12 mask value word e))
      (eq-eqb _ _ (fields_from_word 31 25 mask value word e))
      (eq-eqb _ _ (fields_from_word 11 7 mask value word e))
      (eq-eqb _ _ (fields_from_word 19 15 mask value word e))
      (eq-eqb _ _ (fields_from_word 24 20 mask value word e)),
)

pub and-states : (mask value word : ℕ) → mask < 2 ^ 32 → value < 2 ^ 32 → (bit_and word mask == value) ≡ states_word mask value word
and-states mask value word hm hv =
    same_from_decides (bit_and word mask == value) (states_word mask value word) (Decides-eqb (bit_and word mask) value) (Decides-states mask value word hm hv)

-- ---- bits under a mask that is the sum of two with no bit in common

and-or : (x a b : ℕ) → bit_and x (bit_or a b) ≡ bit_or (bit_and x a) (bit_and x b)
and-or x a b = same_from_bits _ _ (λ i.
    let l : bit_at (bit_and x (bit_or a b)) i ≡ min (bit_at x i) (max (bit_at a i) (bit_at b i)) = bit_at_and x (bit_or a b) i ∙ ap (min (bit_at x i)) (bit_at_or a b i) in
    let r : bit_at (bit_or (bit_and x a) (bit_and x b)) i ≡ max (min (bit_at x i) (bit_at a i)) (min (bit_at x i) (bit_at b i)) = bit_at_or (bit_and x a) (bit_and x b) i ∙ ap₂ max (bit_at_and x a i) (bit_at_and x b i) in
    l ∙ min-max (bit_at x i) (bit_at a i) (bit_at b i) ∙ sym r)
  where
    min-max : (x a b : ℕ) → min x (max a b) ≡ max (min x a) (min x b)
    min-max x a b = omega arith

module _ (M O : ℕ) (apart : bit_and M O ≡ 0) where
  no_bit : (i : ℕ) → min (bit_at M i) (bit_at O i) ≡ 0
  no_bit i = sym (bit_at_and M O i) ∙ ap (λ x. bit_at x i) apart ∙ bit_at-zero i

  bit_within : (a m i : ℕ) → bit_and a m ≡ a → bit_at a i ≡ min (bit_at a i) (bit_at m i)
  bit_within a m i p = sym (ap (λ x. bit_at x i) p) ∙ bit_at_and a m i

  -- numbers with bits of M alone and of O alone have none in common, so their sum has the bits of both
  sum_of_parts : (a b : ℕ) → bit_and a M ≡ a → bit_and b O ≡ b → bit_or a b ≡ a + b
  sum_of_parts a b p q = or_disjoint a b (same_from_bits _ _ (λ i.
      bit_at_and a b i ∙ none (bit_at a i) (bit_at b i) (bit_at M i) (bit_at O i) (bit_within a M i p) (bit_within b O i q) (no_bit i) ∙ sym (bit_at-zero i)))
    where
      none : (a b m o : ℕ) → a ≡ min a m → b ≡ min b o → min m o ≡ 0 → min a b ≡ 0
      none a b m o ea eb e0 = omega arith

  pub first_part : (a b : ℕ) → bit_and a M ≡ a → bit_and b O ≡ b → bit_and (a + b) M ≡ a
  first_part a b p q = ap (λ x. bit_and x M) (sym (sum_of_parts a b p q)) ∙ same_from_bits _ _ (λ i.
      bit_at_and (bit_or a b) M i ∙ ap (λ x. min x (bit_at M i)) (bit_at_or a b i) ∙ kept (bit_at a i) (bit_at b i) (bit_at M i) (bit_at O i) (bit_within a M i p) (bit_within b O i q) (no_bit i))
    where
      kept : (a b m o : ℕ) → a ≡ min a m → b ≡ min b o → min m o ≡ 0 → min (max a b) m ≡ a
      kept a b m o ea eb e0 = omega arith

  and_twice : (x m : ℕ) → bit_and (bit_and x m) m ≡ bit_and x m
  and_twice x m = same_from_bits _ _ (λ i.
      bit_at_and (bit_and x m) m i ∙ ap (λ y. min y (bit_at m i)) (bit_at_and x m i) ∙ once (bit_at x i) (bit_at m i) ∙ sym (bit_at_and x m i))
    where
      once : (a m : ℕ) → min (min a m) m ≡ min a m
      once a m = omega arith

  all_of : (m : ℕ) → bit_and m m ≡ m
  all_of m = same_from_bits _ _ (λ i. bit_at_and m m i ∙ same (bit_at m i))
    where
      same : (a : ℕ) → min a a ≡ a
      same a = omega arith

  -- a number under the sum of the masks
  pub and-sum : (x : ℕ) → bit_and x (M + O) ≡ bit_and x M + bit_and x O
  and-sum x = ap (bit_and x) (sym (sum_of_parts M O (all_of M) (all_of O))) ∙ and-or x M O ∙ sum_of_parts (bit_and x M) (bit_and x O) (and_twice x M) (and_twice x O)

  -- such sums are equal only where the parts are
  pub parts_of_sums : (x a b : ℕ) → bit_and a M ≡ a → bit_and b O ≡ b → bit_and x (M + O) ≡ a + b → (bit_and x M ≡ a) × (bit_and x O ≡ b)
  parts_of_sums x a b p q e =
      let s : bit_and x M + bit_and x O ≡ a + b = sym (and-sum x) ∙ e in
      let l : bit_and x M ≡ a = sym (first_part (bit_and x M) (bit_and x O) (and_twice x M) (and_twice x O)) ∙ ap (λ y. bit_and y M) s ∙ first_part a b p q in
      (l, omega arith)
