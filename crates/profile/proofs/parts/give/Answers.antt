use Rattle.std.proofs.Common.{◌≡◌, Option, ℕ, ◌++◌, map, ap, subst, sym, ◌∙◌, arith}
use Rattle.stats.specs.Counted.{wait_of}
use Rattle.profile.specs.declared.contribution.Maker.{Maker}
use Rattle.profile.specs.Added.{Adds, with_wait}
use Rattle.profile.specs.Contributions.{wait_adds}
use Rattle.profile.specs.Rows.{AreRows}
use Rattle.profile.specs.Waits.{wait_for}
use Rattle.profile_rows.specs.declared.tally.Tally.{Tally}
use Rattle.profile_rows.specs.Tallies.{no_tally}
use Rattle.profile.proofs.Hits.{wait_adds_up}
use Rattle.profile.proofs.RowsMore.{none_more}
use Rattle.profile.proofs.parts.give.Goals as goal

pub returns-in_ok-change : goal.returns-in_ok-change
returns-in_ok-change c = λ cs rows.
    let new = c.change.new.self in
    let cycles : ℕ = wait_of c.args.event.now c.args.fired.now in
    let more : Tally = record no_tally { waited = cycles } in
    subst (λ (first : Option Maker). AreRows (cs ++ map wait_adds (wait_for first c.args.event.now c.args.fired.now)) new.addresses.items new.lines.items) (sym c.in-Some.is)
    (c.in_ok-change.ensures cs more (subst (λ (n : ℕ). Adds (with_wait n) more) (sym c.wait_of-cycles.ensures) (wait_adds_up cycles)) rows)

pub returns-else-cycles-gt0 : goal.returns-else-cycles-gt0
returns-else-cycles-gt0 c = λ cs rows.
    let old = c.args.rows.now in
    let none : wait_of c.args.event.now c.args.fired.now ≡ 0 = sym c.wait_of-cycles.ensures ∙ omega (arith, c.if-cycles-gt0.false) in
    subst (λ (first : Option Maker). AreRows (cs ++ map wait_adds (wait_for first c.args.event.now c.args.fired.now)) old.addresses.items old.lines.items) (sym c.in-Some.is)
    (none_more cs _ old.addresses.items old.lines.items (ap (λ (n : ℕ). record no_tally { waited = n }) none) rows)
