-- What an entry added to a list in ascending order does to it, part by part.
use Rattle.std.proofs.Common.{◌≡◌, ◌≢◌, ℕ, suc, ◌+◌, ◌<◌, ◌≤◌, List, [], ◌∷◌, ◌++◌, Some, MatchOption, inl, inr, refl, sym, ◌∙◌, ap₂, subst, arith}
use Rattle.std.proofs.lemmas.Bool.{cases_lt}
use Rattle.std.proofs.lemmas.Bool.Decides.{nat_tests}
use Rattle.std.proofs.lemmas.List.Sums.{sum_by-cons}
use Rattle.sparse_table.specs.Sparse.{value_in, with_entry, entries_from, first_number, RiseFrom, sum_of}

module _ {T : Type 0} where
  -- all numbers are less than this one
  abbrev pub AreBelow : (limit : ℕ) → List (ℕ × T) → Type 0
  AreBelow limit [] = Unit {0}
  AreBelow limit (first ∷ rest) = (first.0 < limit) × AreBelow limit rest

  pub below_more : (limit more : ℕ) (xs : List (ℕ × T)) → limit ≤ more → AreBelow limit xs → AreBelow more xs
  below_more limit more [] le below = tt
  below_more limit more (x ∷ xs) le below = (omega (arith, below.0), below_more limit more xs le below.1)

  pub rise_less : (least less : ℕ) (xs : List (ℕ × T)) → less ≤ least → RiseFrom least xs → RiseFrom less xs
  rise_less least less [] le rise = tt
  rise_less least less (x ∷ xs) le rise = (omega (arith, rise.0), rise.1)

  pub rise-append : (least limit : ℕ) (xs ys : List (ℕ × T)) → least ≤ limit → RiseFrom least xs → AreBelow limit xs → RiseFrom limit ys → RiseFrom least (xs ++ ys)
  rise-append least limit [] ys le rise below more = rise_less limit least ys le more
  rise-append least limit (x ∷ xs) ys le rise below more = (rise.0, rise-append (suc x.0) limit xs ys (omega (arith, below.0)) rise.1 below.1 more)

  -- a number past all those of the first part is looked for in the second
  pub value_past : (none : T) (number : ℕ) (xs ys : List (ℕ × T)) → AreBelow number xs → value_in none (xs ++ ys) number ≡ value_in none ys number
  value_past none number [] ys below = refl
  value_past none number (x ∷ xs) ys below = grind (arith, nat_tests, below.0, value_past none number xs ys below.1)

  pub with_past : (number : ℕ) (value : T) (xs ys : List (ℕ × T)) → AreBelow number xs → with_entry number value (xs ++ ys) ≡ xs ++ with_entry number value ys
  with_past number value [] ys below = refl
  with_past number value (x ∷ xs) ys below = grind (arith, nat_tests, below.0, with_past number value xs ys below.1)

  pub from_past : (number : ℕ) (xs ys : List (ℕ × T)) → AreBelow number xs → entries_from number (xs ++ ys) ≡ entries_from number ys
  from_past number [] ys below = refl
  from_past number (x ∷ xs) ys below = grind (arith, nat_tests, below.0, from_past number xs ys below.1)

  pub none_past : (number : ℕ) (xs : List (ℕ × T)) → AreBelow number xs → entries_from number xs ≡ []
  none_past number [] below = refl
  none_past number (x ∷ xs) below = grind (arith, nat_tests, below.0, none_past number xs below.1)

  pub below-append : (limit : ℕ) (xs ys : List (ℕ × T)) → AreBelow limit xs → AreBelow limit ys → AreBelow limit (xs ++ ys)
  below-append limit [] ys below more = more
  below-append limit (x ∷ xs) ys below more = (below.0, below-append limit xs ys below.1 more)

  -- a number before all those of a list is not in it
  pub value_before : (none : T) (number least : ℕ) (xs : List (ℕ × T)) → number < least → RiseFrom least xs → value_in none xs number ≡ none
  value_before none number least [] lt rise = refl
  value_before none number least (x ∷ xs) lt rise = grind (arith, nat_tests, rise.0, value_before none number (suc x.0) xs (omega (arith, rise.0)) rise.1)

  pub with_before : (number : ℕ) (value : T) (least : ℕ) (xs : List (ℕ × T)) → number < least → RiseFrom least xs → with_entry number value xs ≡ (number, value) ∷ xs
  with_before number value least [] lt rise = refl
  with_before number value least (x ∷ xs) lt rise = grind (arith, nat_tests, rise.0)

  pub from_before : (number least : ℕ) (xs : List (ℕ × T)) → number ≤ least → RiseFrom least xs → entries_from number xs ≡ xs
  from_before number least [] le rise = refl
  from_before number least (x ∷ xs) le rise = grind (arith, nat_tests, rise.0)

  -- and if it is before all those of the second part, it is looked for in the first
  pub value_first : (none : T) (number least : ℕ) (xs ys : List (ℕ × T)) → number < least → RiseFrom least ys → value_in none (xs ++ ys) number ≡ value_in none xs number
  value_first none number least [] ys lt rise = value_before none number least ys lt rise
  value_first none number least (x ∷ xs) ys lt rise = grind (arith, nat_tests, value_first none number least xs ys lt rise)

  pub with_first : (number : ℕ) (value : T) (least : ℕ) (xs ys : List (ℕ × T)) → number < least → RiseFrom least ys → with_entry number value (xs ++ ys) ≡ with_entry number value xs ++ ys
  with_first number value least [] ys lt rise = with_before number value least ys lt rise
  with_first number value least (x ∷ xs) ys lt rise = grind (arith, nat_tests, with_first number value least xs ys lt rise)

  -- a number has the value that it was given
  pub gives_back : (none : T) (number : ℕ) (value : T) (xs : List (ℕ × T)) → value_in none (with_entry number value xs) number ≡ value
  gives_back none number value [] = grind (arith, nat_tests)
  gives_back none number value (x ∷ xs) = grind (arith, nat_tests, gives_back none number value xs)

  pub others_stay : (none : T) (number : ℕ) (value : T) (other : ℕ) (xs : List (ℕ × T)) → other ≢ number → value_in none (with_entry number value xs) other ≡ value_in none xs other
  others_stay none number value other [] ne = grind (arith, nat_tests)
  others_stay none number value other (x ∷ xs) ne = grind (arith, nat_tests, others_stay none number value other xs ne)

  pub stays_rising : (least number : ℕ) (value : T) (xs : List (ℕ × T)) → least ≤ number → RiseFrom least xs → RiseFrom least (with_entry number value xs)
  stays_rising least number value [] le rise = (le, tt)
  stays_rising least number value (x ∷ xs) le rise = grind (arith, nat_tests, rise.0, rise.1, stays_rising (suc x.0) number value xs)

  pub is_set_now : (number : ℕ) (value : T) (xs : List (ℕ × T)) → first_number (entries_from number (with_entry number value xs)) ≡ Some number
  is_set_now number value [] = grind (arith, nat_tests)
  is_set_now number value (x ∷ xs) = grind (arith, nat_tests, is_set_now number value xs)

  pub sums_follow : (measure : ℕ → T → ℕ) (none : T) (least number : ℕ) (value : T) (xs : List (ℕ × T)) → RiseFrom least xs → measure number none ≡ 0 → sum_of measure (with_entry number value xs) + measure number (value_in none xs number) ≡ sum_of measure xs + measure number value
  sums_follow measure none least number value [] rise zero = grind (arith, nat_tests, zero, sum_by-cons (λ (e : ℕ × T). measure e.0 e.1))
  sums_follow measure none least number value (x ∷ xs) rise zero =
      let of = λ (e : ℕ × T). measure e.0 e.1 in
      let e1 = sum_by-cons of x xs in
      let e2 = sum_by-cons of (number, value) xs in
      let e3 = sum_by-cons of (number, value) (x ∷ xs) in
      let e4 = sum_by-cons of x (with_entry number value xs) in
      elim (cases_lt number x.0) [
        | inl lt ↦
            let absent = value_before none number (suc x.0) xs (omega arith) rise.1 in
            grind (arith, nat_tests)
        | inr le ↦
            let later = sums_follow measure none (suc x.0) number value xs rise.1 zero in
            grind (arith, nat_tests)
      ]

  -- what a walk from a number visits first, and what is left then
  abbrev pub Walks : (none : T) (from : ℕ) (xs found : List (ℕ × T)) → Type 0
  Walks none from xs found = MatchOption (first_number found) (found ≡ []) (λ number. (from ≤ number) × (found ≡ (number, value_in none xs number) ∷ entries_from (number + 1) xs))

  -- an entry before the number is passed over
  pub walk_past : (none : T) (from : ℕ) (x : ℕ × T) (xs found : List (ℕ × T)) → x.0 < from → Walks none from xs found → Walks none from (x ∷ xs) found
  walk_past none from x xs [] lt walks = walks
  walk_past none from x xs (y ∷ found) lt walks = (walks.0, walks.1 ∙ ap₂ (λ v rest. (y.0, v) ∷ rest) (grind (arith, nat_tests, walks.0)) (grind (arith, nat_tests, walks.0)))

  pub is_walked : (none : T) (least from : ℕ) (xs : List (ℕ × T)) → RiseFrom least xs → Walks none from xs (entries_from from xs)
  is_walked none least from [] rise = refl
  is_walked none least from (x ∷ xs) rise = elim (cases_lt x.0 from) [
    | inl lt ↦
        let past : entries_from from (x ∷ xs) ≡ entries_from from xs = grind (arith, nat_tests) in
        subst (Walks none from (x ∷ xs)) (sym past) (walk_past none from x xs (entries_from from xs) lt (is_walked none (suc x.0) from xs rise.1))
    | inr le ↦
        let here : entries_from from (x ∷ xs) ≡ x ∷ xs = grind (arith, nat_tests) in
        let rest : entries_from (x.0 + 1) (x ∷ xs) ≡ xs = grind (arith, nat_tests, from_before (x.0 + 1) (suc x.0) xs (omega arith) rise.1) in
        let value : value_in none (x ∷ xs) x.0 ≡ x.1 = grind (arith, nat_tests) in
        subst (Walks none from (x ∷ xs)) (sym here) (le, ap₂ (λ v ys. (x.0, v) ∷ ys) (sym value) (sym rest))
  ]

  pub from_zero : (xs : List (ℕ × T)) → entries_from 0 xs ≡ xs
  from_zero [] = refl
  from_zero (x ∷ xs) = grind (arith, nat_tests)
