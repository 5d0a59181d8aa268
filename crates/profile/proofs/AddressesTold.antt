-- Where a profile's tables have something at an address, and where they have nothing.
use Rattle.std.proofs.Common.{◌≡◌, ◌≢◌, ℕ, ◌≤◌, ◌==◌, ◌||◌, not, Bool, true, false, Option, None, Some, sym, ◌∙◌, ap, arith}
use Rattle.std.specs.Prelude.{IfSome}
use Rattle.std.proofs.lemmas.Bool.Decides.{nat_tests}
use Rattle.execution_counts.specs.Counted.{Counts, counted}
use Rattle.sparse_table.specs.Next.{IsNextIn, earlier}
use Rattle.profile.specs.declared.parts.Parts.{Parts}
use Rattle.profile.specs.declared.series.SeriesRows.{SeriesRows}
use Rattle.profile.specs.Contributions.{at_address}
use Rattle.profile.specs.Executed.{executed_at}
use Rattle.profile.specs.Profiled.{IsRight, Profiled, added_in, has_address}
use Rattle.profile.specs.Rows.{IsCandidate, is_something}
use Rattle.sparse_table.specs.ByCore.{IsNextSet, value_at}
use Rattle.profile_rows.specs.Tallies.{capped, no_tally}
use Rattle.profile.proofs.LinesTold.{nothing_is, something_capped}

no_count : (n m : ℕ) → m ≡ capped n → m ≡ 0 → (n == 0) ≡ true
no_count n m is none = grind (arith, nat_tests, is, none)

-- and where a count is not 0
some_count : (n m : ℕ) → m ≡ capped n → m ≢ 0 → (n == 0) ≡ false
some_count n m is some = grind (arith, nat_tests, is, some)

no_zero : (n : ℕ) → n ≢ 0 → (n == 0) ≡ false
no_zero n some = grind (arith, nat_tests, some)

module _ (p : Profiled) (counts : Counts) (all : Parts) (rows : SeriesRows) (right : IsRight p counts all rows) (core : ℕ) where
  -- where no instruction was executed, the tally decides
  pub tally_tells : (pc : ℕ) → counted counts core pc ≡ 0 → is_something (value_at no_tally all.rows.addresses.items core pc) ≡ has_address p core pc
  tally_tells pc none =
      let never : (executed_at core pc p.steps == 0) ≡ true = no_count (executed_at core pc p.steps) (counted counts core pc) (right.instructions core pc) none in
      ap is_something (right.parts.rows.at_addresses core pc) ∙ something_capped (at_address core pc (added_in p))
      ∙ ap (λ (b : Bool). not b || is_something (at_address core pc (added_in p))) (sym never)

  -- and where one was, the count
  pub count_tells : (pc count : ℕ) → count ≡ counted counts core pc → count ≢ 0 → not (count == 0) ≡ has_address p core pc
  count_tells pc count is some =
      let ran : (executed_at core pc p.steps == 0) ≡ false = some_count (executed_at core pc p.steps) count (is ∙ right.instructions core pc) some in
      ap not (no_zero count some) ∙ ap (λ (b : Bool). not b || is_something (at_address core pc (added_in p))) (sym ran)

  pub no_address : (pc : ℕ) → counted counts core pc ≡ 0 → value_at no_tally all.rows.addresses.items core pc ≡ no_tally → has_address p core pc ≡ false
  no_address pc none no_adds = sym (tally_tells pc none) ∙ ap is_something no_adds ∙ nothing_is

  -- the lesser one of what both tables have next
  pub earlier_is : (from : ℕ) (one other : Option ℕ) → IfSome one (λ n. from ≤ n) → IfSome other (λ n. from ≤ n)
      → IsNextIn 0 (counted counts core) from one → IsNextSet no_tally all.rows.addresses.items core from other → IsCandidate (has_address p core) from (earlier one other)
  earlier_is from None None behind behind_too first second = λ n le. no_address n (first n le) (second n le)
  earlier_is from None (Some y) behind behind_too first second = (behind_too, λ n le lt. no_address n (first n le) (second n le lt))
  earlier_is from (Some x) None behind behind_too first second = (behind, λ n le lt. no_address n (first n le lt) (second n le))
  earlier_is from (Some x) (Some y) behind behind_too first second =
      (omega (arith, behind, behind_too), λ n le lt. no_address n (first n le (omega (arith, lt))) (second n le (omega (arith, lt))))
