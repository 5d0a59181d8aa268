-- Between a number and the next that was set, none was.
use Rattle.std.proofs.Common.{◌≡◌, ℕ, suc, ◌^◌, ◌<◌, ◌≤◌, ◌==◌, nat_le, Bool, true, false, List, [], ◌∷◌, Option, Some, None, if◌then◌else◌, get_or, length, refl, sym, ◌∙◌, ap, arith}
use Rattle.std.specs.Prelude.{IfSome}
use Rattle.std.proofs.lemmas.Bool.Decides.{nat_tests}
use Rattle.sparse_table.specs.Sparse.{RiseFrom, Sparse, entries_from, first_number, next_from, value_in, value_of}
use Rattle.sparse_table.specs.ByCore.{HaveNone, IsNextSet, empty, table_at, value_at}
use Rattle.sparse_table.proofs.ByCore.{any_default}

module _ {T : Type 0} (none : T) where
  -- a number below all others has no value
  below : (least k : ℕ) (entries : List (ℕ × T)) → RiseFrom least entries → k < least → value_in none entries k ≡ none
  below least k [] rise lt = refl
  below least k (x ∷ xs) rise lt = grind (arith, nat_tests, rise.0, below (suc x.0) k xs rise.1 (omega (arith, rise.0, lt)))

  unset_before : (least from k next : ℕ) (entries : List (ℕ × T)) → RiseFrom least entries → first_number (entries_from from entries) ≡ Some next → from ≤ k → k < next → value_in none entries k ≡ none
  unset_before least from k next [] rise is le lt = refl
  unset_before least from k next (x ∷ xs) rise is le lt =
      by (nat_le from x.0) is (λ e. grind (arith, nat_tests, e)) (λ more. unset_before (suc x.0) from k next xs rise.1 more le lt)
    where
      by : (b : Bool) → first_number (if b then x ∷ xs else entries_from from xs) ≡ Some next → (b ≡ false → x.0 < from)
          → (first_number (entries_from from xs) ≡ Some next → value_in none xs k ≡ none) → (if x.0 == k then x.1 else value_in none xs k) ≡ none
      by true first small rest =
          let same : x.0 ≡ next = cc in
          let none_there : value_in none xs k ≡ none = below (suc x.0) k xs rise.1 (omega (arith, same, lt)) in
          grind (arith, nat_tests, same, lt, none_there)
      by false first small rest =
          let before : x.0 < from = small refl in
          let none_there : value_in none xs k ≡ none = rest first in
          grind (arith, nat_tests, before, le, none_there)

  unset_all : (from k : ℕ) (entries : List (ℕ × T)) → first_number (entries_from from entries) ≡ None → from ≤ k → value_in none entries k ≡ none
  unset_all from k [] is le = refl
  unset_all from k (x ∷ xs) is le = by (nat_le from x.0) is (λ e. grind (arith, nat_tests, e)) (λ more. unset_all from k xs more le)
    where
      by : (b : Bool) → first_number (if b then x ∷ xs else entries_from from xs) ≡ None → (b ≡ false → x.0 < from)
          → (first_number (entries_from from xs) ≡ None → value_in none xs k ≡ none) → (if x.0 == k then x.1 else value_in none xs k) ≡ none
      by true first small rest = absurd (let no : Some x.0 ≡ None = first in cc)
      by false first small rest =
          let before : x.0 < from = small refl in
          let none_there : value_in none xs k ≡ none = rest first in
          grind (arith, nat_tests, before, le, none_there)

  next_after : (from next : ℕ) (entries : List (ℕ × T)) → first_number (entries_from from entries) ≡ Some next → from ≤ next
  next_after from next [] is = absurd (let no : None ≡ Some next = is in cc)
  next_after from next (x ∷ xs) is = by (nat_le from x.0) is (λ e. grind (arith, nat_tests, e)) (next_after from next xs)
    where
      by : (b : Bool) → first_number (if b then x ∷ xs else entries_from from xs) ≡ Some next → (b ≡ true → from ≤ x.0)
          → (first_number (entries_from from xs) ≡ Some next → from ≤ next) → from ≤ next
      by true first large rest =
          let same : x.0 ≡ next = cc in
          let there : from ≤ x.0 = large refl in
          omega (arith, same, there)
      by false first large rest = rest first

-- the next number that was set in the table of a core which is there
module _ {T : Type 0} (tables : List (Sparse T)) (core : ℕ) (table : Sparse T) (there : core < length tables) (table_is : table ≡ get_or tables core table)
    (rise : RiseFrom 0 table.entries) (from : ℕ) where
  pub next_set_is : (result : Option ℕ) → result ≡ next_from table from → (none : T) → HaveNone none tables → IsNextSet none tables core from result
  next_set_is None is none have = λ n le. value none n ∙ unset_all table.none from n table.entries (sym is) le ∙ none_is none have
    where
      known : (none : T) → table_at none tables core ≡ table
      known none = any_default tables core (empty none) table there ∙ sym table_is

      value : (none : T) (n : ℕ) → value_at none tables core n ≡ value_of table n
      value none n = ap (λ (t : Sparse T). value_of t n) (known none)

      none_is : (none : T) → HaveNone none tables → table.none ≡ none
      none_is none have = ap (λ (t : Sparse T). t.none) (sym (known none)) ∙ have core
  next_set_is (Some next) is none have =
      λ n le lt. value none n ∙ unset_before table.none 0 from n next table.entries rise (sym is) le lt ∙ none_is none have
    where
      known : (none : T) → table_at none tables core ≡ table
      known none = any_default tables core (empty none) table there ∙ sym table_is

      value : (none : T) (n : ℕ) → value_at none tables core n ≡ value_of table n
      value none n = ap (λ (t : Sparse T). value_of t n) (known none)

      none_is : (none : T) → HaveNone none tables → table.none ≡ none
      none_is none have = ap (λ (t : Sparse T). t.none) (sym (known none)) ∙ have core

-- and none was set behind all numbers that fit
pub next_set_last : {T : Type 0} (tables : List (Sparse T)) (core : ℕ) (table : Sparse T) → core < length tables → table ≡ get_or tables core table
    → entries_from (2 ^ 64) table.entries ≡ [] → (none : T) → HaveNone none tables → (n : ℕ) → 2 ^ 64 ≤ n → value_at none tables core n ≡ none
next_set_last tables core table there table_is fit none have n le =
    let known : table_at none tables core ≡ table = any_default tables core (empty none) table there ∙ sym table_is in
    ap {A = Sparse _} (λ t. value_of t n) known ∙ unset_all table.none (2 ^ 64) n table.entries (ap first_number fit) le ∙ ap {A = Sparse _} (λ t. t.none) (sym known) ∙ have core

-- and it is not before the first one
pub next_set_behind : {T : Type 0} (table : Sparse T) (from : ℕ) (result : Option ℕ) → result ≡ next_from table from → IfSome result (λ next. from ≤ next)
next_set_behind table from None is = tt
next_set_behind table from (Some next) is = next_after table.none from next table.entries (sym is)
