-- A core more has its row.
use Rattle.std.proofs.Common.{◌≡◌, ◌<◌, ℕ, List, length, map, slice_get, Some, subst, sym, rules}
use Rattle.std.proofs.lemmas.Option.{slice_get-get_or}
use Rattle.bound_core.specs.NumberedCores.{NumberedCore}
use Rattle.profile_rows.specs.declared.halt_row.HaltRow.{HaltRow}
use Rattle.reference.specs.TimedCore.{TimedCore}
use Rattle.zprof.specs.HaltRows.{IsHaltRow}
use Rattle.zprof.proofs.OneMore.{at_place, pair_more}
use Rattle.zprof.proofs.halt_rows.rows_of.Goals as goal

pub loop-core-preserved : goal.loop-core-preserved
loop-core-preserved c =
    let jumps = c.args.jumps.now in
    let cores = c.args.cores.now in
    let timed = map (λ (core : NumberedCore). core.timed) cores in
    let before = c.loop-core.rows.items in
    let row = c.in_ok-halt_row.field-0 in
    let k = c.loop-core.core-index in
    let core = c.core-item.result in
    let is = c.core-item.is in
    let within : k < length cores = c.loop-core-test.true in
    let found = slice_get-get_or cores k core within in
    let there : slice_get cores k ≡ Some core = cc in
    let number_is : c.len-number.result ≡ k = search (c.len-number.ensures, c.loop-core.invariant.count, rules) in
    let last : (x : TimedCore) → slice_get timed k ≡ Some x → IsHaltRow jumps k x row =
    at_place (λ n t. IsHaltRow jumps n t row) cores k c.len-number.result core there c.in_ok-halt_row.ensures number_is in
    record {
      count = search rules;
      each = subst (λ (rows : List HaltRow). (n : ℕ) (one : TimedCore) (r : HaltRow) → slice_get timed n ≡ Some one → slice_get rows n ≡ Some r → IsHaltRow jumps n one r) (sym c.in_ok-push.ensures.items)
          (pair_more (λ n one r. IsHaltRow jumps n one r) timed before row k c.loop-core.invariant.count last c.loop-core.invariant.each);
    }
