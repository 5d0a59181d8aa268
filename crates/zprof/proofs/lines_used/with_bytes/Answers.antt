-- A row more has its bytes.
use Rattle.std.proofs.Common.{◌≡◌, ℕ, List, slice_get, Some, subst, sym, rules}
use Rattle.std.proofs.lemmas.Option.{get_or_from_slice_get}
use Rattle.profile_rows.specs.declared.line_row.LineRow.{LineRow}
use Rattle.zprof.specs.LinesUsed.{IsUsed}
use Rattle.zprof.proofs.OneMore.{pair_more}
use Rattle.zprof.proofs.lines_used.with_bytes.Goals as goal

pub loop-row-preserved : goal.loop-row-preserved
loop-row-preserved c =
    let counted = c.args.counted.now in
    let before = c.loop-row.rows.items in
    let used = c.used.result in
    let k = c.loop-row.row-index in
    let last : (row : LineRow) → slice_get counted k ≡ Some row → IsUsed c.args.uses.now row used =
    λ row at. subst (λ (r : LineRow). IsUsed c.args.uses.now r used) (get_or_from_slice_get counted k row _ at) c.used.ensures in
    record {
      count = search rules;
      each = subst (λ (rows : List LineRow). (n : ℕ) (one row : LineRow) → slice_get counted n ≡ Some one → slice_get rows n ≡ Some row → IsUsed c.args.uses.now one row) (sym c.in_ok-push.ensures.items)
          (pair_more (λ _ one row. IsUsed c.args.uses.now one row) counted before used k c.loop-row.invariant.count last c.loop-row.invariant.each);
    }
