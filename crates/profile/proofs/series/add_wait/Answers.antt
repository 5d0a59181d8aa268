use Rattle.std.proofs.Common.{◌≡◌, ℕ, ◌+◌, ◌<◌, get_or, length, refl, sym, ◌∙◌, ap, ap₂, arith}
use Rattle.std.proofs.lemmas.List.{get_or-set_other, length-set}
use Rattle.std.proofs.lemmas.Grind.{get_or-set_at, get_or_default_zero}
use Rattle.profile_rows.specs.Tallies.{capped_wide}
use Rattle.profile.proofs.Waited.{waits_one}
use Rattle.profile.proofs.series.add_wait.Goals as goal

pub returns-then-at-len : goal.returns-then-at-len
returns-then-at-len c = λ sums is.
    let waits = c.args.waits.now.items in
    let at : ℕ = c.from-at.result in
    let event = c.args.event.now in
    let fired = c.args.fired.now in
    let at_is : at ≡ event.component = c.from-at.ensures in
    let within : at < length waits = omega (arith, c.if-at-len.true, c.len.ensures) in
    let read : c.index.result.now ≡ get_or waits event.component 0 = c.index.ensures ∙ get_or_default_zero waits at _ within ∙ ap (λ (k : ℕ). get_or waits k 0) at_is in
    let added = c.saturating_add.ensures ∙ ap₂ (λ (m n : ℕ). capped_wide (m + n)) read (c.from.ensures ∙ c.wait_of.ensures) in
    waits_one event fired waits _ sums is (length-set waits at c.saturating_add.result)
    (λ lt. get_or-set_at waits at event.component c.saturating_add.result 0 (sym at_is) within ∙ added)
    (λ i lt not. get_or-set_other waits at i c.saturating_add.result 0 (λ same. not (same ∙ at_is)))

pub returns-else-at-len : goal.returns-else-at-len
returns-else-at-len c = λ sums is.
    waits_one c.args.event.now c.args.fired.now c.args.waits.now.items _ sums is refl
    (λ lt. absurd (omega (arith, lt, c.from-at.ensures, c.len.ensures, c.if-at-len.false)))
    (λ i lt not. refl)
