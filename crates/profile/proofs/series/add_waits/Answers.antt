use Rattle.std.proofs.Common.{◌≡◌, ◌<◌, [], drop, length, min, map, refl, sym, ◌∙◌, ap, arith}
use Rattle.std.specs.List.{zip}
use Rattle.profile.specs.Series.{with_waits}
use Rattle.profile_rows.specs.Tallies.{capped_wide}
use Rattle.profile.proofs.Serving.{no_more}
use Rattle.profile.proofs.Waited.{waits_next, waits_none}
use Rattle.profile.proofs.series.add_waits.Goals as goal

pub loop-place-init : goal.loop-place-init
loop-place-init c = λ sums is. (sums, is, refl)

pub loop-place-preserved : goal.loop-place-preserved
loop-place-preserved c = λ sums is.
    let events = c.args.events.now in
    let fired = c.args.fired.now in
    let place = c.loop-place.place in
    let lt : place < min (length events) (length fired) = omega (arith, c.loop-place-test.true, c.min-count.ensures) in
    let so_far = c.loop-place.invariant sums is in
    waits_next events fired place _ _ so_far.0 c.add_wait.new.waits.items _ lt (c.add_wait.ensures so_far.0 so_far.1) so_far.2

pub returns : goal.returns
returns c = λ sums is.
    let events = c.args.events.now in
    let fired = c.args.fired.now in
    let so_far = c.loop-place.invariant sums is in
    let none : drop c.loop-place.place (zip events fired) ≡ [] = no_more events fired c.loop-place.place (omega (arith, c.loop-place-test.false, c.min-count.ensures)) in
    so_far.1 ∙ ap (map capped_wide) (sym (waits_none so_far.0) ∙ ap (with_waits so_far.0) (sym none) ∙ so_far.2)
