use Rattle.std.proofs.Common.{◌∙◌, List, ℕ, ap, map, sym, take}
use Rattle.std.specs.Prelude.{replicate}
use Rattle.std.proofs.lemmas.List.Sums.{fold_more}
use Rattle.profile_rows.specs.declared.address_row.AddressRow.{AddressRow}
use Rattle.profile_rows.specs.Tallies.{capped_wide}
use Rattle.profile_files.specs.CallgrindFile.{added, columns, sums}
use Rattle.profile_files.proofs.Added.{capped_before}
use Rattle.profile_files.proofs.totals.totals.Goals as goal

pub loop-row-preserved : goal.loop-row-preserved
loop-row-preserved c =
    let rows = c.args.rows.now in
    let i = c.loop-row.row-index in
    let so_far : List ℕ = sums (take i rows) in
    c.add.ensures
    ∙ ap (λ (xs : List ℕ). map capped_wide (added xs c.columns.result)) c.loop-row.invariant
    ∙ capped_before so_far c.columns.result
    ∙ ap (λ (ys : List ℕ). map capped_wide (added so_far ys)) c.columns.ensures
    ∙ ap (map capped_wide) (sym (fold_more (λ (xs : List ℕ) (row : AddressRow). added xs (columns row)) (replicate 11 0) rows i _ c.loop-row-test.true))
