-- The rows of a family, searched: a test of the family's bits, and a search for the number among its
-- names.
use Rattle.std.proofs.Common.{◌≡◌, ℕ, ◌+◌, ◌-◌, ◌*◌, ◌/◌, ◌%◌, ◌^◌, ◌<◌, ◌≤◌, Bool, true, false, ◌&&◌, ◌==◌, cond, List, [], ◌∷◌, map, find, Option, Some, None, option_map, refl, sym, ap, ap₂, ◌∙◌, arith, bit_and, nat_lt, nat_le, ltb-true, mod-eq_of_lt}
use Rattle.std.specs.List.{list_all}
use Rattle.std.proofs.lemmas.Nat.{shl-shr}
use Rattle.std.proofs.lemmas.Nat.Bits.{and_high}
use Rattle.std.proofs.lemmas.Bool.Decides.{same_from_decides, Decides-eqb, Decides-and}
use Rattle.rv_decode.specs.InstructionWord.{bits_of, ones}
use Rattle.rv_decode.specs.InstructionTable.{Family, row_at, matches}
use Rattle.rv_decode.specs.declared.name.Name.{Name}
use Rattle.rv_decode.proofs.WordLemmas.{and-sum, parts_of_sums}

pub and-ones : (high low x : ℕ) → low ≤ high → bit_and x (ones high low) ≡ bits_of high low x * 2 ^ low
and-ones high low x h =
    let e : (high + 1 - low) + low ≡ high + 1 = omega arith in
    ap (λ k. bit_and x (2 ^ k - 2 ^ low)) (sym e) ∙ and_high x (high + 1 - low) low

number_within : (high low n : ℕ) → low ≤ high → n < 2 ^ (high + 1 - low) → bit_and (n * 2 ^ low) (ones high low) ≡ n * 2 ^ low
number_within high low n h b = and-ones high low (n * 2 ^ low) h ∙ ap (λ x. x % 2 ^ (high + 1 - low) * 2 ^ low) (shl-shr n low) ∙ ap (λ x. x * 2 ^ low) (mod-eq_of_lt b)

same_number : (low m n : ℕ) → m * 2 ^ low ≡ n * 2 ^ low → m ≡ n
same_number low m n e = sym (shl-shr m low) ∙ ap (λ x. x / 2 ^ low) e ∙ shl-shr n low

-- what makes a family's rows differ in its own bits alone
abbrev pub is_family : Family → Bool
is_family f = nat_le f.low f.high && ((bit_and f.mask (ones f.high f.low) == 0) && ((bit_and f.value f.mask == f.value) && list_all (λ entry. nat_lt entry.0 (2 ^ (f.high + 1 - f.low))) f.names))

module _ (f : Family) (ordered : f.low ≤ f.high) (apart : bit_and f.mask (ones f.high f.low) ≡ 0) (within : bit_and f.value f.mask ≡ f.value) where
  both_parts : (entry : ℕ × Name) (word : ℕ) → entry.0 < 2 ^ (f.high + 1 - f.low) → bit_and word f.mask ≡ f.value → entry.0 ≡ bits_of f.high f.low word → bit_and word (row_at f entry).mask ≡ (row_at f entry).value
  both_parts entry word b e n =
      and-sum f.mask (ones f.high f.low) apart word ∙ ap₂ (λ x y. x + y) e (and-ones f.high f.low word ordered ∙ ap (λ x. x * 2 ^ f.low) (sym n))

  each_part : (entry : ℕ × Name) (word : ℕ) → entry.0 < 2 ^ (f.high + 1 - f.low) → bit_and word (row_at f entry).mask ≡ (row_at f entry).value → (bit_and word f.mask ≡ f.value) × (entry.0 ≡ bits_of f.high f.low word)
  each_part entry word b e =
      let two = parts_of_sums f.mask (ones f.high f.low) apart word f.value (entry.0 * 2 ^ f.low) within (number_within f.high f.low entry.0 ordered b) e in
      (two.0, same_number f.low entry.0 (bits_of f.high f.low word) (sym two.1 ∙ and-ones f.high f.low word ordered))

  matches-row_at : (entry : ℕ × Name) (word : ℕ) → entry.0 < 2 ^ (f.high + 1 - f.low) → matches (row_at f entry) word ≡ ((bit_and word f.mask == f.value) && (entry.0 == bits_of f.high f.low word))
  matches-row_at entry word b = same_from_decides _ _
      (Decides-eqb (bit_and word (row_at f entry).mask) (row_at f entry).value)
      (let both = Decides-and (bit_and word f.mask == f.value) (entry.0 == bits_of f.high f.low word) (Decides-eqb (bit_and word f.mask) f.value) (Decides-eqb entry.0 (bits_of f.high f.low word)) in
      (λ t. let two = both.0 t in both_parts entry word b two.0 two.1, λ e. both.1 (each_part entry word b e)))

first_test : {A B : Type 0} (g : A → B) (x : A) (o : Option A) (t e : Bool) → cond (t && e) (Some (g x)) (cond t (option_map g o) None) ≡ cond t (option_map g (cond e (Some x) o)) None
first_test g x o true true = refl
first_test g x o true false = refl
first_test g x o false e = refl

pub both_true : (a b : Bool) → (a && b) ≡ true → (a ≡ true) × (b ≡ true)
both_true true b e = (refl, e)
both_true false b e = cc

module _ (f : Family) (ordered : f.low ≤ f.high) (apart : bit_and f.mask (ones f.high f.low) ≡ 0) (within : bit_and f.value f.mask ≡ f.value) (word : ℕ) where
  -- the first of these rows that matches
  pub find-rows : (names : List (ℕ × Name)) → list_all (λ entry. nat_lt entry.0 (2 ^ (f.high + 1 - f.low))) names ≡ true → find (λ row. matches row word) (map (row_at f) names) ≡ cond (bit_and word f.mask == f.value) (option_map (row_at f) (find (λ entry. entry.0 == bits_of f.high f.low word) names)) None
  find-rows [] t = none_either (bit_and word f.mask == f.value)
    where
      none_either : (b : Bool) → None ≡ cond b (option_map (row_at f) None) None
      none_either true = refl
      none_either false = refl
  find-rows (entry ∷ names) t =
      let two = both_true (nat_lt entry.0 (2 ^ (f.high + 1 - f.low))) (list_all (λ entry. nat_lt entry.0 (2 ^ (f.high + 1 - f.low))) names) t in
      let here : matches (row_at f entry) word ≡ ((bit_and word f.mask == f.value) && (entry.0 == bits_of f.high f.low word)) = matches-row_at f ordered apart within entry word (ltb-true _ _ two.0) in
      ap₂ (λ b o. cond b (Some (row_at f entry)) o) here (find-rows names two.1)
      ∙ first_test (row_at f) entry (find (λ entry. entry.0 == bits_of f.high f.low word) names) (bit_and word f.mask == f.value) (entry.0 == bits_of f.high f.low word)
