-- The entries of the values of one chunk.
use Rattle.std.proofs.Common.{◌≡◌, ℕ, zero, suc, ◌+◌, ◌<◌, ◌≤◌, List, [], ◌∷◌, Option, Some, None, length, cond, count_by, zero-add, is_some, get_or, replicate, set, refl, sym, ap, ◌∙◌, arith}
use Rattle.std.proofs.lemmas.Bool.Decides.{nat_tests}
use Rattle.std.proofs.lemmas.List.{length-replicate}
use Rattle.std.proofs.lemmas.List.Sums.{sum_by-cons}
use Rattle.std.specs.Option.{unwrap_or}
use Rattle.sparse_table.specs.Sparse.{value_in, with_entry, RiseFrom}
use Rattle.sparse_table.specs.Chunks.{entries_at}
use Rattle.sparse_table.proofs.Entries.{AreBelow, rise_less, value_before, with_before}

module _ {T : Type 0} where
  pub rise_at : (number : ℕ) (values : List (Option T)) → RiseFrom number (entries_at number values)
  rise_at number [] = tt
  rise_at number (None ∷ rest) = rise_less (suc number) number (entries_at (suc number) rest) (omega arith) (rise_at (suc number) rest)
  rise_at number (Some value ∷ rest) = (omega arith, rise_at (suc number) rest)

  pub below_at : (number limit : ℕ) (values : List (Option T)) → number + length values ≤ limit → AreBelow limit (entries_at number values)
  below_at number limit [] le = tt
  below_at number limit (None ∷ rest) le = below_at (suc number) limit rest (omega arith)
  below_at number limit (Some value ∷ rest) le = (omega arith, below_at (suc number) limit rest (omega arith))

  -- the value at a place is that of its number
  pub value_at : (none : T) (number place n : ℕ) (values : List (Option T)) → n ≡ number + place → place < length values → value_in none (entries_at number values) n ≡ unwrap_or (get_or values place None) none
  value_at none number place n [] is lt = absurd (omega arith)
  value_at none number zero n (None ∷ rest) is lt = value_before none n (suc number) (entries_at (suc number) rest) (omega arith) (rise_at (suc number) rest)
  value_at none number zero n (Some value ∷ rest) is lt = grind (arith, nat_tests)
  value_at none number (suc place) n (None ∷ rest) is lt = value_at none (suc number) place n rest (omega arith) (omega arith)
  value_at none number (suc place) n (Some value ∷ rest) is lt = grind (arith, nat_tests, value_at none (suc number) place n rest (omega arith) (omega arith))

  -- and if it is set, the entry is added
  pub with_at : (number place n : ℕ) (value : T) (values : List (Option T)) → n ≡ number + place → place < length values → with_entry n value (entries_at number values) ≡ entries_at number (set values place (Some value))
  with_at number place n value [] is lt = absurd (omega arith)
  with_at number zero n value (None ∷ rest) is lt =
      let here : n ≡ number = omega arith in
      with_before n value (suc number) (entries_at (suc number) rest) (omega arith) (rise_at (suc number) rest) ∙ ap (λ m. (m, value) ∷ entries_at (suc number) rest) here
  with_at number zero n value (Some old ∷ rest) is lt = grind (arith, nat_tests)
  with_at number (suc place) n value (None ∷ rest) is lt = with_at (suc number) place n value rest (omega arith) (omega arith)
  with_at number (suc place) n value (Some old ∷ rest) is lt = grind (arith, nat_tests, with_at (suc number) place n value rest (omega arith) (omega arith))

  none_at : (number count : ℕ) → ◌≡◌ {A = List (ℕ × T)} (entries_at number (replicate count None)) []
  none_at number zero = refl
  none_at number (suc count) = none_at (suc number) count

  -- one value alone
  pub one_at : (number place n count : ℕ) (value : T) → n ≡ number + place → place < count → entries_at number (set (replicate count None) place (Some value)) ≡ (n, value) ∷ []
  one_at number place n count value is lt =
      sym (with_at number place n value (replicate count None) is (omega (arith, length-replicate {A = Option T} count None)))
      ∙ ap (with_entry n value) (none_at number count)

  -- as many entries as values were set
  pub count_at : (number : ℕ) (values : List (Option T)) → length (entries_at number values) ≡ count_by is_some values
  count_at number [] = refl
  count_at number (None ∷ rest) = count_at (suc number) rest ∙ sym (sum_by-cons (λ (x : Option T). cond (is_some x) 1 0) None rest ∙ zero-add (count_by is_some rest))
  count_at number (Some value ∷ rest) = omega (arith, count_at (suc number) rest, sum_by-cons (λ (x : Option T). cond (is_some x) 1 0) (Some value) rest)
