-- The first entry from a number on.
use Rattle.std.proofs.Common.{◌≡◌, ℕ, zero, suc, ◌+◌, ◌-◌, ◌*◌, ◌<◌, ◌≤◌, true, false, List, [], ◌∷◌, ◌++◌, Option, None, Some, is_some, drop, get_or, length, refl, sym, ap, ◌∙◌, subst, inl, inr, arith, drop-cons}
use mathlib.Core.Bool.{false≢true}
use Rattle.std.proofs.lemmas.Bool.{cases_lt}
use Rattle.std.proofs.lemmas.List.{drop_all}
use Rattle.std.proofs.lemmas.Bool.Decides.{nat_tests}
use Rattle.sparse_table.specs.Chunks.{entries_at, entries_of}
use Rattle.sparse_table.specs.Sparse.{entries_from, first_number}

none_of : (o : Option ℕ) → is_some o ≡ false → o ≡ None
none_of None none = refl
none_of (Some number) none = absurd (false≢true (sym none))

module _ {T : Type 0} where
  -- no entry from the number on is of a place that was passed
  pub record IsAhead (base : ℕ) (values : List (Option T)) (from place : ℕ) : Type 0 where
    pub reached : from ≤ base + place
    pub rest_is : entries_from from (entries_at base values) ≡ entries_from from (entries_at (base + place) (drop place values))

  -- what is before the number is passed
  at_zero : (base : ℕ) (values : List (Option T)) (from : ℕ) → entries_from from (entries_at base values) ≡ entries_from from (entries_at (base + 0) (drop 0 values))
  at_zero base values from = ap (λ n. entries_from from (entries_at n values)) {x = base} {y = base + 0} (omega arith)

  skipped : (base : ℕ) (values : List (Option T)) (from place : ℕ) → base + place ≤ from → entries_from from (entries_at base values) ≡ entries_from from (entries_at (base + place) (drop place values))
  skipped base values from zero le = at_zero base values from
  skipped base [] from (suc place) le = refl
  skipped base (None ∷ rest) from (suc place) le = subst (λ n. entries_from from (entries_at (suc base) rest) ≡ entries_from from (entries_at n (drop place rest))) {x = suc base + place} (omega arith) (skipped (suc base) rest from place (omega arith))
  skipped base (Some value ∷ rest) from (suc place) le =
      let past : entries_from from (entries_at base (Some value ∷ rest)) ≡ entries_from from (entries_at (suc base) rest) = grind (arith, nat_tests) in
      past ∙ subst (λ n. entries_from from (entries_at (suc base) rest) ≡ entries_from from (entries_at n (drop place rest))) {x = suc base + place} (omega arith) (skipped (suc base) rest from place (omega arith))

  pub ahead_at_first : (base : ℕ) (values : List (Option T)) (from : ℕ) → IsAhead base values from (from - base)
  ahead_at_first base values from = elim (cases_lt base from) [
    | inl lt ↦ record { reached = omega arith; rest_is = skipped base values from (from - base) (omega arith) }
    | inr le ↦ subst (IsAhead base values from) {x = 0} (omega arith) (record { reached = omega arith; rest_is = at_zero base values from })
  ]

  -- a place without a value has no entry
  no_entry : (number : ℕ) (x : Option T) (rest : List (Option T)) → is_some x ≡ false → entries_at number (x ∷ rest) ≡ entries_at (suc number) rest
  no_entry number None rest none = refl
  no_entry number (Some value) rest none = absurd (false≢true (sym none))

  -- and one with a value has
  an_entry : (from number : ℕ) (x : Option T) (rest : List (Option T)) → from ≤ number → is_some x ≡ true → first_number (entries_from from (entries_at number (x ∷ rest))) ≡ Some number
  an_entry from number None rest le some = absurd (false≢true some)
  an_entry from number (Some value) rest le some = grind (arith, nat_tests)

  module _ (base : ℕ) (values : List (Option T)) (from place : ℕ) (ahead : IsAhead base values from place) where
    module _ (x : Option T) (is : x ≡ get_or values place x) (lt : place < length values) where
      rest_at : drop place values ≡ x ∷ drop (suc place) values
      rest_at = drop-cons values place x lt ∙ ap (λ y. y ∷ drop (suc place) values) (sym is)

      -- so it is passed
      pub ahead_more : is_some x ≡ false → IsAhead base values from (place + 1)
      ahead_more none = record {
        reached = omega (arith, ahead.reached);
        rest_is =
            ahead.rest_is
            ∙ ap (λ ys. entries_from from (entries_at (base + place) ys)) rest_at
            ∙ ap (entries_from from) (no_entry (base + place) x (drop (suc place) values) none)
            ∙ subst (λ k. entries_from from (entries_at (suc (base + place)) (drop (suc place) values)) ≡ entries_from from (entries_at (base + k) (drop k values))) {x = suc place} (omega arith) (ap (λ n. entries_from from (entries_at n (drop (suc place) values))) {x = suc (base + place)} {y = base + suc place} (omega arith));
      }

      -- and one with a value is the first
      pub ahead_here : is_some x ≡ true → Some (base + place) ≡ first_number (entries_from from (entries_at base values))
      ahead_here some = sym (
          ap first_number (ahead.rest_is ∙ ap (λ ys. entries_from from (entries_at (base + place) ys)) rest_at)
          ∙ an_entry from (base + place) x (drop (suc place) values) ahead.reached some)

    -- there is none where all were passed
    pub ahead_of_all : length values ≤ place → ◌≡◌ {A = Option ℕ} None (first_number (entries_from from (entries_at base values)))
    ahead_of_all le = sym (ap first_number (ahead.rest_is ∙ ap (λ ys. entries_from from (entries_at (base + place) ys)) (drop_all place values le)))

  -- what is not in the first part is looked for in the second
  pub first_none : (from : ℕ) (xs ys : List (ℕ × T)) → first_number (entries_from from xs) ≡ None → entries_from from (xs ++ ys) ≡ entries_from from ys
  first_none from [] ys none = refl
  first_none from (x ∷ xs) ys none = elim (cases_lt x.0 from) [
    | inl lt ↦
        let past : entries_from from (x ∷ xs) ≡ entries_from from xs = grind (arith, nat_tests) in
        let whole : entries_from from ((x ∷ xs) ++ ys) ≡ entries_from from (xs ++ ys) = grind (arith, nat_tests) in
        whole ∙ first_none from xs ys (ap first_number (sym past) ∙ none)
    | inr le ↦
        let here : entries_from from (x ∷ xs) ≡ x ∷ xs = grind (arith, nat_tests) in
        let found : Some x.0 ≡ None = ap first_number (sym here) ∙ none in
        cc
  ]

  pub first_some : (from number : ℕ) (xs ys : List (ℕ × T)) → first_number (entries_from from xs) ≡ Some number → first_number (entries_from from (xs ++ ys)) ≡ Some number
  first_some from number [] ys some = cc
  first_some from number (x ∷ xs) ys some = elim (cases_lt x.0 from) [
    | inl lt ↦
        let past : entries_from from (x ∷ xs) ≡ entries_from from xs = grind (arith, nat_tests) in
        let whole : entries_from from ((x ∷ xs) ++ ys) ≡ entries_from from (xs ++ ys) = grind (arith, nat_tests) in
        ap first_number whole ∙ first_some from number xs ys (ap first_number (sym past) ∙ some)
    | inr le ↦
        let here : entries_from from (x ∷ xs) ≡ x ∷ xs = grind (arith, nat_tests) in
        let whole : entries_from from ((x ∷ xs) ++ ys) ≡ x ∷ xs ++ ys = grind (arith, nat_tests) in
        ap first_number whole ∙ (ap first_number (sym here) ∙ some)
  ]

  -- the chunks are looked through one by one
  module _ (from place : ℕ) (chunks : List (ℕ × List (Option T))) (passed : entries_from from (entries_of chunks) ≡ entries_from from (entries_of (drop place chunks))) (chunk : ℕ × List (Option T)) (is : drop place chunks ≡ chunk ∷ drop (suc place) chunks) (o : Option ℕ) (values : List (Option T)) (values_are : values ≡ chunk.1) (found : o ≡ first_number (entries_from from (entries_at (chunk.0 * 64) values))) where
    found_here : first_number (entries_from from (entries_at (chunk.0 * 64) chunk.1)) ≡ o
    found_here = sym (found ∙ ap (λ vs. first_number (entries_from from (entries_at (chunk.0 * 64) vs))) values_are)

    whole : entries_from from (entries_of chunks) ≡ entries_from from (entries_at (chunk.0 * 64) chunk.1 ++ entries_of (drop (suc place) chunks))
    whole = passed ∙ ap (λ cs. entries_from from (entries_of cs)) is

    pub chunk_passed : is_some o ≡ false → entries_from from (entries_of chunks) ≡ entries_from from (entries_of (drop (place + 1) chunks))
    chunk_passed none =
        subst (λ k. entries_from from (entries_of chunks) ≡ entries_from from (entries_of (drop k chunks))) {x = suc place} (omega arith)
        (whole ∙ first_none from (entries_at (chunk.0 * 64) chunk.1) (entries_of (drop (suc place) chunks)) (found_here ∙ none_of o none))

    pub chunk_has : is_some o ≡ true → o ≡ first_number (entries_from from (entries_of chunks))
    chunk_has some = elim o as (λ p. p ≡ o → is_some p ≡ true → p ≡ first_number (entries_from from (entries_of chunks))) [
      | None ↦ λ same is_one. absurd (false≢true is_one)
      | Some number ↦ λ same is_one. sym (ap first_number whole ∙ first_some from number (entries_at (chunk.0 * 64) chunk.1) (entries_of (drop (suc place) chunks)) (found_here ∙ sym same))
    ] refl some
