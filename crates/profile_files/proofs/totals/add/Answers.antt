use Rattle.std.proofs.Common.{◌<◌, ◌≡◌, ◌∙◌, arith, length, map, sym}
use Rattle.std.proofs.lemmas.List.{ext_get_or}
use Rattle.profile_rows.specs.Tallies.{capped_wide}
use Rattle.profile_files.specs.CallgrindFile.{added}
use Rattle.profile_files.proofs.Added.{added_at, length_added}
use Rattle.profile_files.proofs.totals.add.Goals as goal

pub returns : goal.returns
returns c =
    let totals = c.args.totals.now in
    let numbers = c.args.numbers.now in
    let same : length totals ≡ length numbers = c.told-totals ∙ sym c.told-numbers in
    let long : length c.loop-n.totals ≡ length totals = c.loop-n.invariant.long ∙ sym c.told-totals in
    ext_get_or 0 c.loop-n.totals (map capped_wide (added totals numbers)) (long ∙ sym (length_added totals numbers same))
    (λ k below.
    let there : k < length totals = omega (arith, below, long) in
    c.loop-n.invariant.done k (omega (arith, there, c.told-totals, c.loop-n-test.false)) ∙ sym (added_at totals numbers same k there))
