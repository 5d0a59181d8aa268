-- The bits of masks: which both of two have, whether there is one, and how many there are.
use Rattle.std.proofs.Common.{◌≡◌, ℕ, zero, suc, ◌+◌, ◌*◌, ◌/◌, ◌%◌, ◌^◌, ◌<◌, ◌≤◌, Bool, true, false, cond, ◌&&◌, eqb, not, min, List, [], ◌∷◌, length, get_or, refl, sym, ap, ap₂, ◌∙◌, subst, arith, inl, inr, w64, Fits, bit_and, bit_or}
use lib.Lanes.{Each1}
use lib.Count.{ones, ones_in, ones_step}
use Rattle.std.specs.Int.{bit_at, trailing_zeros}
use Rattle.std.specs.Int.Bits.{or_zero_r}
use Rattle.std.specs.List.{range_with_len}
use Rattle.std.specs.Prelude.{◌⊎◌, count_by}
use Rattle.std.specs.Simd.Lanes.{zip2, fold_l}
use Rattle.std.proofs.lemmas.Bool.{eq-eqb, ne_eqb, cases_eq}
use Rattle.std.proofs.lemmas.Nat.{le_or_l, le_or_r}
use Rattle.std.proofs.lemmas.Nat.Bits.{bit_at-zero, bit_at-lt, bit_at_lowest, bit_at-suc, bit_at_and, bit_at-trailing_zeros}
use Rattle.std.proofs.lemmas.List.Folds.{list_any_at, list_any_none}
use Rattle.std.proofs.lemmas.List.Recursion.{is_count_by}
use Rattle.std.proofs.lemmas.List.FromFn.{length-range_with_len, get_or-range_with_len}
use Rattle.std.proofs.lemmas.Simd.{Each1-get_or}
use Rattle.lanes.specs.Masks.{has_bit, has_some_bit, bit_count}

-- ---- both

one_of : (x y : ℕ) → x < 2 → y < 2 → eqb (min x y) 1 ≡ (eqb x 1 && eqb y 1)
one_of zero zero l m = refl
one_of zero (suc zero) l m = refl
one_of zero (suc (suc y)) l m = absurd (omega arith)
one_of (suc zero) zero l m = refl
one_of (suc zero) (suc zero) l m = refl
one_of (suc zero) (suc (suc y)) l m = absurd (omega arith)
one_of (suc (suc x)) y l m = absurd (omega arith)

word_and : (a b i : ℕ) → eqb (bit_at (bit_and a b) i) 1 ≡ (eqb (bit_at a i) 1 && eqb (bit_at b i) 1)
word_and a b i = ap (λ (x : ℕ). eqb x 1) (bit_at_and a b i) ∙ one_of (bit_at a i) (bit_at b i) (bit_at-lt a i) (bit_at-lt b i)

none_there : (i : ℕ) → eqb (bit_at 0 i) 1 ≡ (eqb (bit_at 0 i) 1 && eqb (bit_at 0 i) 1)
none_there i = rw (bit_at-zero i) refl

words_and : (xs ys : List ℕ) (k i : ℕ) → length xs ≡ length ys → eqb (bit_at (get_or (zip2 bit_and xs ys) k 0) i) 1 ≡ (eqb (bit_at (get_or xs k 0) i) 1 && eqb (bit_at (get_or ys k 0) i) 1)
words_and [] [] k i e = none_there i
words_and [] (y ∷ ys) k i e = absurd (omega arith)
words_and (x ∷ xs) [] k i e = absurd (omega arith)
words_and (x ∷ xs) (y ∷ ys) zero i e = word_and x y i
words_and (x ∷ xs) (y ∷ ys) (suc k) i e = words_and xs ys k i (omega arith)

pub both_have : (a b : List ℕ) → length a ≡ length b → (place : ℕ) → has_bit (zip2 bit_and a b) place ≡ (has_bit a place && has_bit b place)
unfolding has_bit
both_have a b e place = words_and a b (place / 64) (place % 64) e

-- ---- one

at_place : (a : List ℕ) (k i : ℕ) → i < 64 → has_bit a (64 * k + i) ≡ eqb (bit_at (get_or a k 0) i) 1
unfolding has_bit
at_place a k i l =
    let q : (64 * k + i) / 64 ≡ k = omega arith in
    let r : (64 * k + i) % 64 ≡ i = omega arith in
    ap₂ (λ (x y : ℕ). eqb (bit_at (get_or a x 0) y) 1) q r

no_more : (n : ℕ) → 0 + n ≡ n
no_more n = omega arith

-- a word that is not 0 has a bit
some_here : (a : List ℕ) (k : ℕ) → k < 4 → 0 < get_or a k 0 → get_or a k 0 < 2 ^ 64 → has_some_bit a ≡ true
unfolding has_some_bit
some_here a k within some fits =
    let t = bit_at-trailing_zeros w64 (get_or a k 0) some fits in
    let i : ℕ = trailing_zeros w64 (get_or a k 0) in
    let below : i < 64 = t.0 in
    let here : has_bit a (64 * k + i) ≡ true = at_place a k i below ∙ eq-eqb (bit_at (get_or a k 0) i) 1 t.1 in
    let there : 64 * k + i < 256 = omega arith in
    list_any_at (has_bit a) (range_with_len 0 256) (64 * k + i) 0 (omega (arith, length-range_with_len 0 256, there))
    (ap (has_bit a) (get_or-range_with_len 0 256 (64 * k + i) 0 there ∙ no_more (64 * k + i)) ∙ here)

no_bit : (a : List ℕ) → ((k : ℕ) → get_or a k 0 ≡ 0) → (place : ℕ) → has_bit a place ≡ false
unfolding has_bit
no_bit a zeros place = rw (zeros (place / 64), bit_at-zero (place % 64)) refl

none_here : (a : List ℕ) → ((k : ℕ) → get_or a k 0 ≡ 0) → has_some_bit a ≡ false
unfolding has_some_bit
none_here a zeros = list_any_none (has_bit a) (range_with_len 0 256) (λ i d l. no_bit a zeros (get_or (range_with_len 0 256) i d))

base_le : (xs : List ℕ) (s : ℕ) → s ≤ fold_l bit_or s xs
base_le [] s = omega arith
base_le (x ∷ xs) s = omega (arith, le_or_l s x, base_le xs (bit_or s x))

item_le : (xs : List ℕ) (s k : ℕ) → get_or xs k 0 ≤ fold_l bit_or s xs
item_le [] s k = omega arith
item_le (x ∷ xs) s zero = omega (arith, le_or_r s x, base_le xs (bit_or s x))
item_le (x ∷ xs) s (suc k) = item_le xs (bit_or s x) k

-- where some words have a bit between them, one of them has
abbrev SomeWord : (xs : List ℕ) → Type 0
SomeWord xs = (k : ℕ) × (k < length xs) × (0 < get_or xs k 0)

some_word : (xs : List ℕ) (s : ℕ) → 0 < fold_l bit_or s xs → (0 < s) ⊎ SomeWord xs
some_word [] s h = inl h
some_word (x ∷ xs) s h =
    elim (some_word xs (bit_or s x) h) as (λ _. (0 < s) ⊎ SomeWord (x ∷ xs)) [
      | inl l ↦ elim (cases_eq x 0) as (λ _. (0 < s) ⊎ SomeWord (x ∷ xs)) [
        | inl e ↦ inl (subst (λ (n : ℕ). 0 < n) (ap (bit_or s) e ∙ or_zero_r s) l)
        | inr e ↦ inr (0, omega arith, omega (arith, e))
      ]
      | inr w ↦ inr (suc w.0, omega (arith, w.1), w.2)
    ]

pub fits_at : (a : List ℕ) → Each1 (Fits w64) a → (k : ℕ) → k < length a → get_or a k 0 < 2 ^ 64
fits_at a all k l =
    let f : Fits w64 (get_or a k 0) = Each1-get_or (Fits w64) a k 0 l all in
    omega (arith, f)

pub has_some : (a : List ℕ) → length a ≡ 4 → ((k : ℕ) → k < 4 → get_or a k 0 < 2 ^ 64) → not (eqb (fold_l bit_or 0 a) 0) ≡ has_some_bit a
has_some a long fits =
    elim (cases_eq (fold_l bit_or 0 a) 0) as (λ _. not (eqb (fold_l bit_or 0 a) 0) ≡ has_some_bit a) [
      | inl e ↦ ap not (eq-eqb (fold_l bit_or 0 a) 0 e) ∙ sym (none_here a (λ k. omega (arith, e, item_le a 0 k)))
      | inr e ↦ ap not (ne_eqb (fold_l bit_or 0 a) 0 e)
          ∙ sym (elim (some_word a 0 (omega (arith, e))) as (λ _. has_some_bit a ≡ true) [
            | inl l ↦ absurd (omega arith)
            | inr w ↦ some_here a w.0 (omega (arith, w.1, long)) w.2 (fits w.0 (omega (arith, w.1, long)))
          ])
    ]

-- ---- how many

half_lt : (d : ℕ) {n : ℕ} → n < 2 ^ suc d → n / 2 < 2 ^ d
half_lt d {n} h = omega (arith, h)

next : (n x y : ℕ) → y ≡ suc x → eqb (bit_at (n / 2) x) 1 ≡ eqb (bit_at n y) 1
next n x y e = sym (ap (λ (i : ℕ). eqb (bit_at n i) 1) e ∙ ap (λ (b : ℕ). eqb b 1) (bit_at-suc n x))

none_of_zero : ones 0 ≡ 0
unfolding ones ones_in
none_of_zero = refl

abbrev counted : (ℕ → Bool) → List ℕ → ℕ
counted p [] = 0
counted p (x ∷ xs) = cond (p x) (1 + counted p xs) (counted p xs)

as_counted : (p : ℕ → Bool) (xs : List ℕ) → counted p xs ≡ count_by p xs
as_counted p xs = is_count_by (counted p) p refl (λ x xs. refl) xs

same_count : (p q : ℕ → Bool) (n a b : ℕ) → ((i x y : ℕ) → i < n → x ≡ a + i → y ≡ b + i → p x ≡ q y) → counted p (range_with_len a n) ≡ counted q (range_with_len b n)
same_count p q zero a b same = refl
same_count p q (suc n) a b same =
    ap₂ (λ (t : Bool) (r : ℕ). cond t (1 + r) r) (same 0 a b (omega arith) (omega arith) (omega arith))
    (same_count p q n (a + 1) (b + 1) (λ i x y l e f. same (i + 1) x y (omega arith) (omega (arith, e)) (omega (arith, f))))

in_parts : (p : ℕ → Bool) (m n k a b : ℕ) → k ≡ m + n → b ≡ a + m → counted p (range_with_len a k) ≡ counted p (range_with_len a m) + counted p (range_with_len b n)
in_parts p zero n k a b e f =
    let kn : k ≡ n = omega arith in
    let ba : b ≡ a = omega arith in
    ap₂ (λ (x y : ℕ). counted p (range_with_len x y)) (sym ba) kn ∙ sym (no_more (counted p (range_with_len b n)))
in_parts p (suc m) n zero a b e f = absurd (omega arith)
in_parts p (suc m) n (suc k) a b e f =
    let rest = in_parts p m n k (a + 1) b (omega arith) (omega arith) in
    elim (p a) as (λ t. cond t (1 + counted p (range_with_len (a + 1) k)) (counted p (range_with_len (a + 1) k))
    ≡ cond t (1 + counted p (range_with_len (a + 1) m)) (counted p (range_with_len (a + 1) m)) + counted p (range_with_len b n)) [
      | true ↦ omega (arith, rest)
      | false ↦ rest
    ]

first_bit : (n r : ℕ) → n % 2 + r ≡ cond (eqb (n % 2) 1) (1 + r) r
first_bit n r =
    elim (cases_eq (n % 2) 1) as (λ _. n % 2 + r ≡ cond (eqb (n % 2) 1) (1 + r) r) [
      | inl e ↦ ap (λ (x : ℕ). x + r) e ∙ sym (ap (λ (t : Bool). cond t (1 + r) r) (eq-eqb (n % 2) 1 e))
      | inr e ↦
          let z : n % 2 + r ≡ r = omega (arith, e) in
          z ∙ sym (ap (λ (t : Bool). cond t (1 + r) r) (ne_eqb (n % 2) 1 e))
    ]

word_bits : (d n : ℕ) → n < 2 ^ d → ones n ≡ counted (λ i. eqb (bit_at n i) 1) (range_with_len 0 d)
word_bits zero n h =
    let z : n ≡ 0 = omega (arith, h) in
    ap ones z ∙ none_of_zero
word_bits (suc d) n h =
    let half : n / 2 < 2 ^ d = half_lt d h in
    ones_step n
    ∙ (ap (λ (r : ℕ). n % 2 + r) (word_bits d (n / 2) half)
    ∙ (first_bit n (counted (λ i. eqb (bit_at (n / 2) i) 1) (range_with_len 0 d))
    ∙ ap₂ (λ (t : Bool) (r : ℕ). cond t (1 + r) r) (ap (λ (x : ℕ). eqb x 1) (sym (bit_at_lowest n)))
    (same_count (λ i. eqb (bit_at (n / 2) i) 1) (λ i. eqb (bit_at n i) 1) d 0 1 (λ i x y l e f. next n x y (omega (arith, e, f))))))

four_parts : {w x y z a b c d all two three : ℕ} → a ≡ w → b ≡ x → c ≡ y → d ≡ z → all ≡ a + three → three ≡ b + two → two ≡ c + d → w + x + y + z ≡ all
four_parts p0 p1 p2 p3 c0 c1 c2 = omega (arith, p0, p1, p2, p3, c0, c1, c2)

in_word : (k at x y i : ℕ) → at ≡ 64 * k → x ≡ at + i → y ≡ 0 + i → x ≡ 64 * k + y
in_word k at x y i e f g = omega (arith, e, f, g)

module _ (a : List ℕ) where
  part : (k at : ℕ) → at ≡ 64 * k → get_or a k 0 < 2 ^ 64 → counted (has_bit a) (range_with_len at 64) ≡ ones (get_or a k 0)
  part k at e fits =
      same_count (has_bit a) (λ i. eqb (bit_at (get_or a k 0) i) 1) 64 at 0 (λ i x y m f g. ap (has_bit a) (in_word k at x y i e f g) ∙ at_place a k y (omega (arith, m, g)))
      ∙ sym (word_bits 64 (get_or a k 0) fits)

  pub has_bits : get_or a 0 0 < 2 ^ 64 → get_or a 1 0 < 2 ^ 64 → get_or a 2 0 < 2 ^ 64 → get_or a 3 0 < 2 ^ 64
      → ones (get_or a 0 0) + ones (get_or a 1 0) + ones (get_or a 2 0) + ones (get_or a 3 0) ≡ bit_count a
  unfolding bit_count
  has_bits f0 f1 f2 f3 =
      let all = as_counted (has_bit a) (range_with_len 0 256) in
      let p0 = part 0 0 refl f0 in
      let p1 = part 1 64 refl f1 in
      let p2 = part 2 128 refl f2 in
      let p3 = part 3 192 refl f3 in
      let c0 = in_parts (has_bit a) 64 192 256 0 64 refl refl in
      let c1 = in_parts (has_bit a) 64 128 192 64 128 refl refl in
      let c2 = in_parts (has_bit a) 64 64 128 128 192 refl refl in
      four_parts p0 p1 p2 p3 c0 c1 c2 ∙ all
