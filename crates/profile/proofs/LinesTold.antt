-- A tally as far as its types go has something where it has.
use Rattle.std.proofs.Common.{◌≡◌, ℕ, ◌==◌, false, List, sym, ◌∙◌, ap, arith, refl}
use Rattle.std.proofs.lemmas.Bool.Decides.{nat_tests}
use Rattle.profile_rows.specs.declared.tally.Tally.{Tally}
use Rattle.sparse_table.specs.Sparse.{Sparse}
use Rattle.profile.specs.declared.contribution.Contribution.{Contribution}
use Rattle.profile.specs.Contributions.{at_line}
use Rattle.profile.specs.Rows.{AreRows, has_line, has_no_access, has_no_change, has_no_class, has_no_cycle, has_no_loss, has_no_outcome, is_something}
use Rattle.sparse_table.specs.ByCore.{value_at}
use Rattle.profile_rows.specs.Tallies.{capped, capped_tally, capped_wide, no_tally}

pub capped_zero : (n : ℕ) → (capped n == 0) ≡ (n == 0)
capped_zero n = grind (arith, nat_tests)

capped_wide_zero : (n : ℕ) → (capped_wide n == 0) ≡ (n == 0)
capped_wide_zero n = grind (arith, nat_tests)

pub something_capped : (t : Tally) → is_something (capped_tally t) ≡ is_something t
unfolding capped_tally is_something has_no_access has_no_outcome has_no_class has_no_change has_no_loss has_no_cycle
something_capped t = simp (capped_zero, capped_wide_zero) refl

pub nothing_is : is_something no_tally ≡ false
unfolding is_something has_no_access has_no_outcome has_no_class has_no_change has_no_loss has_no_cycle
nothing_is = refl

module _ (cs : List Contribution) (addresses lines : List (Sparse Tally)) (rows : AreRows cs addresses lines) (core line : ℕ) where
  pub line_told : is_something (value_at no_tally lines core line) ≡ has_line cs core line
  line_told = ap is_something (rows.at_lines core line) ∙ something_capped (at_line core line cs)

  pub no_line : value_at no_tally lines core line ≡ no_tally → has_line cs core line ≡ false
  no_line none = sym line_told ∙ ap is_something none ∙ nothing_is
