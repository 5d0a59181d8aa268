-- The tables of tallies once a contribution was added.
use Rattle.std.proofs.Common.{◌≡◌, ◌≢◌, ℕ, ◌+◌, ◌&&◌, ◌==◌, Bool, true, false, List, [], ◌∷◌, ◌++◌, None, if◌then◌else◌, map, filter, ◌⊎◌, inl, inr, refl, sym, ◌∙◌, ap, ap₂, arith, append-nil}
use Rattle.std.proofs.lemmas.Bool.Decides.{eqb_tells}
use Rattle.std.proofs.lemmas.List.{map-append}
use Rattle.std.proofs.lemmas.List.Elements.{filter-append}
use Rattle.std.proofs.lemmas.List.Sums.{fold-append}
use Rattle.sparse_table.specs.Sparse.{Sparse}
use Rattle.profile.specs.declared.contribution.Contribution.{Contribution}
use Rattle.profile_rows.specs.declared.tally.Tally.{Tally}
use Rattle.profile.specs.Added.{Adds}
use Rattle.profile.specs.Contributions.{is_at, is_to, tally_of}
use Rattle.profile.specs.Copies.{is_this}
use Rattle.profile.specs.Rows.{AreRows}
use Rattle.sparse_table.specs.ByCore.{HaveNone, table_at, value_at, with_one}
use Rattle.profile_rows.specs.Tallies.{capped, capped_tally, capped_wide, no_tally, plus, total}

pub capped_sum : (a b : ℕ) → capped (capped a + b) ≡ capped (a + b)
capped_sum a b = omega arith

pub capped_wide_sum : (a b : ℕ) → capped_wide (capped_wide a + b) ≡ capped_wide (a + b)
capped_wide_sum a b = omega arith

pub capped_plus : (t more : Tally) → capped_tally (plus (capped_tally t) more) ≡ capped_tally (plus t more)
unfolding capped_tally plus
capped_plus t more = simp (capped_sum, capped_wide_sum) refl

pub both_capped : (a b : Tally) → capped_tally (plus (capped_tally a) (capped_tally b)) ≡ capped_tally (plus a b)
unfolding capped_tally plus
both_capped a b = simp (both, both_wide) refl
  where
    both : (m n : ℕ) → capped (capped m + capped n) ≡ capped (m + n)
    both m n = omega arith

    both_wide : (m n : ℕ) → capped_wide (capped_wide m + capped_wide n) ≡ capped_wide (m + n)
    both_wide m n = omega arith

tally_more : (test : Contribution → Bool) (cs : List Contribution) (c : Contribution) → tally_of test (cs ++ c ∷ []) ≡ (if test c then plus (tally_of test cs) c.tally else tally_of test cs)
tally_more test cs c = ap (λ (xs : List Contribution). total (map (λ x. x.tally) xs)) (filter-append test cs (c ∷ [])) ∙ by (test c)
  where
    tally : Contribution → Tally
    tally = λ x. x.tally

    by : (b : Bool) → total (map (λ x. x.tally) (filter test cs ++ (if b then c ∷ [] else []))) ≡ (if b then plus (tally_of test cs) c.tally else tally_of test cs)
    by true = ap (λ (ts : List Tally). total ts) (map-append (λ (x : Contribution). x.tally) (filter test cs) (c ∷ [])) ∙ fold-append plus no_tally (map (λ x. x.tally) (filter test cs)) (c.tally ∷ [])
    by false = ap (λ (xs : List Contribution). total (map (λ x. x.tally) xs)) (append-nil (filter test cs))

-- an added tally at the place of which the test holds
added : (test : Contribution → Bool) (cs : List Contribution) (c : Contribution) (changed : Tally → Tally) (old : Tally) → Adds changed c.tally → old ≡ capped_tally (tally_of test cs)
    → (if test c then changed old else old) ≡ capped_tally (tally_of test (cs ++ c ∷ []))
added test cs c changed old adds is = by (test c) ∙ sym (ap capped_tally (tally_more test cs c))
  where
    by : (b : Bool) → (if b then changed old else old) ≡ capped_tally (if b then plus (tally_of test cs) c.tally else tally_of test cs)
    by true = ap changed is ∙ adds (tally_of test cs)
    by false = is

-- the tally at a number was changed, in a table of one core
pub changed_there : (core number : ℕ) (old new : ℕ → ℕ → Tally) (changed : Tally → Tally)
    → ((c n : ℕ) → new c n ≡ with_one core number (changed (old core number)) old c n)
    → (c n : ℕ) → new c n ≡ (if core == c && number == n then changed (old c n) else old c n)
changed_there core number old new changed is c n = is c n ∙ by (eqb_tells core c) (eqb_tells number n)
  where
    by : ((core == c) ≡ true × (core ≡ c)) ⊎ ((core == c) ≡ false × (core ≢ c))
        → ((number == n) ≡ true × (number ≡ n)) ⊎ ((number == n) ≡ false × (number ≢ n))
        → with_one core number (changed (old core number)) old c n ≡ (if core == c && number == n then changed (old c n) else old c n)
    by (inl (by_core, same)) (inl (here, at)) = ap₂ (λ (k m : ℕ). if core == c && number == n then changed (old k m) else old c n) same at
    by (inl (by_core, same)) (inr (not_here, other)) = rw (by_core, not_here) refl
    by (inr (no_core, other)) at = rw no_core refl

-- nothing was added where there is no number
pub none_added : (core c n : ℕ) (old more : Tally) → old ≡ (if core == c && is_this None n then more else old)
none_added core c n old more = by (core == c)
  where
    by : (b : Bool) → old ≡ (if b && false then more else old)
    by true = refl
    by false = refl

module _ (cs : List Contribution) (c : Contribution) (addresses new_addresses lines new_lines : List (Sparse Tally)) (rows : AreRows cs addresses lines)
    (changed : Tally → Tally) (adds : Adds changed c.tally)
    (at_address_more : (core pc : ℕ) → value_at no_tally new_addresses core pc ≡ (if c.core == core && is_this c.pc pc then changed (value_at no_tally addresses core pc) else value_at no_tally addresses core pc))
    (to_line_more : (core line : ℕ) → value_at no_tally new_lines core line ≡ (if c.core == core && c.line == line then changed (value_at no_tally lines core line) else value_at no_tally lines core line))
    (none_address : HaveNone no_tally addresses → HaveNone no_tally new_addresses) (none_line : HaveNone no_tally lines → HaveNone no_tally new_lines) where
  pub rows_more : AreRows (cs ++ c ∷ []) new_addresses new_lines
  rows_more = record {
    at_addresses = λ core pc. at_address_more core pc ∙ added (is_at core pc) cs c changed (value_at no_tally addresses core pc) adds (rows.at_addresses core pc);
    at_lines = λ core line. to_line_more core line ∙ added (is_to core line) cs c changed (value_at no_tally lines core line) adds (rows.at_lines core line);
    none_at_addresses = none_address rows.none_at_addresses;
    none_at_lines = none_line rows.none_at_lines;
  }

pub plus_zero : (n : ℕ) → n + 0 ≡ n
plus_zero n = omega arith

adds_nothing : (t : Tally) → capped_tally t ≡ capped_tally (plus t no_tally)
unfolding capped_tally plus
adds_nothing t = simp (plus_zero) refl

-- what adds nothing leaves the tables as they are
pub none_more : (cs : List Contribution) (c : Contribution) (addresses lines : List (Sparse Tally)) → c.tally ≡ no_tally → AreRows cs addresses lines → AreRows (cs ++ c ∷ []) addresses lines
none_more cs c addresses lines none rows =
    rows_more cs c addresses addresses lines lines rows (λ t. t) (λ t. adds_nothing t ∙ ap (λ more. capped_tally (plus t more)) (sym none))
    (λ core pc. as_it_was (c.core == core && is_this c.pc pc) (value_at no_tally addresses core pc)) (λ core line. as_it_was (c.core == core && c.line == line) (value_at no_tally lines core line))
    (λ are. are) (λ are. are)
  where
    as_it_was : (b : Bool) (t : Tally) → t ≡ (if b then t else t)
    as_it_was true t = refl
    as_it_was false t = refl

pub no_rows : (addresses lines : List (Sparse Tally)) → addresses ≡ [] → lines ≡ [] → AreRows [] addresses lines
unfolding capped_tally
no_rows addresses lines no_addresses no_lines = record {
  at_addresses = λ core pc. ap (λ (ts : List (Sparse Tally)). value_at no_tally ts core pc) no_addresses;
  at_lines = λ core line. ap (λ (ts : List (Sparse Tally)). value_at no_tally ts core line) no_lines;
  none_at_addresses = λ core. ap (λ (ts : List (Sparse Tally)). (table_at no_tally ts core).none) no_addresses;
  none_at_lines = λ core. ap (λ (ts : List (Sparse Tally)). (table_at no_tally ts core).none) no_lines;
}
