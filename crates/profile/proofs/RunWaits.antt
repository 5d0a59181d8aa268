-- The rows of the profile of a run tell together how long its components had events wait.
use Rattle.std.proofs.Common.{◌≡◌, ℕ, ◌<◌, ◌≤◌, ◌^◌, Bool, List, [], map, sum_by, All, sym, ◌∙◌, ap, subst, arith}
use Rattle.zs_num.specs.declared.entry.Entry.{Entry}
use Rattle.machine_desc.specs.declared.machine.Machine.{Machine}
use Rattle.reference.specs.ReferenceRun.{time_of}
use Rattle.reference.specs.Results.{Results}
use Rattle.stats.specs.declared.counts.CompCount.{CompCount}
use Rattle.trace.specs.Laws.{EndBehindTheirAccesses, Fits64Bits}
use Rattle.trace.specs.Told.{accessed_in}
use Rattle.trace.specs.Trace.{Step}
use Rattle.profile_rows.specs.declared.address_row.AddressRow.{AddressRow}
use Rattle.profile_rows.specs.declared.line_row.LineRow.{LineRow}
use Rattle.profile_rows.specs.Tallies.{total}
use Rattle.profile.specs.Executed.{executed_at}
use Rattle.profile.specs.Laws.{IsProfileOf, run_contributions}
use Rattle.profile.specs.Listed.{AreAddressRows, AreLineRows}
use Rattle.profile.specs.Profiled.{Profiled, added_in}
use Rattle.profile.proofs.CoresTogether.{known_from}
use Rattle.profile.proofs.Fields.{field_of_all}
use Rattle.profile.proofs.Fitting.{Fits, contributions_fit, none_executed_above}
use Rattle.profile.proofs.RowsAddUp.{added_is}
use Rattle.profile.proofs.RowsWait.{IsOfKnown, address_rows_wait, contributions_known, line_rows_wait, waited_of}
use Rattle.profile.proofs.WaitsAddUp.{is_waited}

module _ (machine : Machine) (steps : List Step) (ends : EndBehindTheirAccesses machine [] steps) (fit : All Fits64Bits steps) (results : Results)
    (all : (total (map (λ c. c.tally) (run_contributions machine steps))).waited ≡ sum_by (λ c. c.waited) results.counts.comp_counts)
    (small : sum_by (λ c. c.waited) results.counts.comp_counts < 2 ^ 128) (p : Profiled) (of : IsProfileOf machine steps p) where
  added : added_in p ≡ run_contributions machine steps
  added = added_is machine steps p of

  fits : All Fits (added_in p)
  fits = subst (All Fits) (sym added) (contributions_fit (time_of machine) machine.cores steps fit)

  known : All (IsOfKnown p.cores) (added_in p)
  known =
      subst (All (IsOfKnown p.cores)) (sym added)
      (contributions_known (time_of machine) machine.cores p.cores steps (subst (λ (n : ℕ). All (λ (e : Entry). e.core < n) (accessed_in steps)) (sym of.cores) (known_from machine [] steps ends)))

  waited : sum_by waited_of (added_in p) ≡ sum_by (λ (c : CompCount). c.waited) results.counts.comp_counts
  waited = ap (sum_by waited_of) added ∙ sym (field_of_all (λ t. t.waited) is_waited (run_contributions machine steps)) ∙ all

  fits_wide : sum_by waited_of (added_in p) < 2 ^ 128
  fits_wide = omega (arith, waited, small)

  unexecuted : (core pc : ℕ) → 2 ^ 64 ≤ pc → executed_at core pc p.steps ≡ 0
  unexecuted core pc large = ap (executed_at core pc) of.steps_are ∙ none_executed_above core pc steps fit large

  pub run_address_rows_wait : (separate : Bool) (rows : List AddressRow) → AreAddressRows p separate rows → (total (map (λ row. row.tally) rows)).waited ≡ sum_by (λ c. c.waited) results.counts.comp_counts
  run_address_rows_wait separate rows are = address_rows_wait p fits known fits_wide unexecuted separate rows are ∙ waited

  pub run_line_rows_wait : (rows : List LineRow) → AreLineRows p rows → (total (map (λ row. row.tally) rows)).waited ≡ sum_by (λ c. c.waited) results.counts.comp_counts
  run_line_rows_wait rows are = line_rows_wait p fits known fits_wide rows are ∙ waited
