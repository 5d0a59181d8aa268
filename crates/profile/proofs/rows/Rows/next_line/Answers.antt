use Rattle.std.proofs.Common.{◌≡◌, ◌≤◌, ◌<◌, ℕ, false, sym, ◌∙◌, arith}
use Rattle.profile.specs.Rows.{has_line}
use Rattle.profile_rows.specs.Tallies.{no_tally}
use Rattle.profile.proofs.LinesTold.{no_line}
use Rattle.profile.proofs.Passed.{behind, past, to_end, up_to}
use Rattle.profile.proofs.rows.Rows.next_line.Goals as goal

pub returns-then-has_line : goal.returns-then-has_line
returns-then-has_line c = λ cs rows.
    let self = c.args.self.now in
    let core = c.args.core in
    let nothing : (n : ℕ) → c.loop-line.at ≤ n → n < c.in-Some.line → has_line cs core n ≡ false = λ n le lt. no_line cs self.addresses.items self.lines.items rows core n (c.in-Some.ensures.next no_tally rows.none_at_lines n le lt) in (
      omega (arith, c.loop-line.invariant.behind, c.in-Some.ensures.behind),
      sym (c.has_line.ensures cs rows) ∙ c.if-has_line.true,
      up_to (has_line cs core) c.args.from c.loop-line.at (c.loop-line.invariant.passed cs rows) c.in-Some.line nothing,
    )

pub returns-then-line : goal.returns-then-line
returns-then-line c = λ cs rows.
    let self = c.args.self.now in
    let core = c.args.core in
    let nothing : (k : ℕ) → c.loop-line.at ≤ k → k < c.in-Some.line → has_line cs core k ≡ false = λ k at_least less. no_line cs self.addresses.items self.lines.items rows core k (c.in-Some.ensures.next no_tally rows.none_at_lines k at_least less) in
    past (has_line cs core) c.args.from c.loop-line.at (c.loop-line.invariant.passed cs rows) c.in-Some.line nothing (sym (c.has_line.ensures cs rows) ∙ c.if-has_line.false)
    (λ n over. no_line cs self.addresses.items self.lines.items rows core n (c.next_set.ensures.last no_tally rows.none_at_lines n (omega (arith, over, c.if-line.true))))

pub loop-line-smaller : goal.loop-line-smaller
loop-line-smaller c = omega (arith, c.in-Some.ensures.behind, c.if-line.false)

pub loop-line-preserved : goal.loop-line-preserved
loop-line-preserved c = record {
  behind = omega (arith, c.loop-line.invariant.behind, c.in-Some.ensures.behind);
  passed = λ cs rows.
      let self = c.args.self.now in
      let core = c.args.core in
      let nothing : (k : ℕ) → c.loop-line.at ≤ k → k < c.in-Some.line → has_line cs core k ≡ false = λ k at_least less. no_line cs self.addresses.items self.lines.items rows core k (c.in-Some.ensures.next no_tally rows.none_at_lines k at_least less) in
      behind (has_line cs core) c.args.from c.loop-line.at (c.loop-line.invariant.passed cs rows) c.in-Some.line nothing (sym (c.has_line.ensures cs rows) ∙ c.if-has_line.false);
}

pub returns : goal.returns
returns c = λ cs rows.
    let self = c.args.self.now in
    let core = c.args.core in
    to_end (has_line cs core) c.args.from c.loop-line.at (c.loop-line.invariant.passed cs rows)
    (λ k at_least. no_line cs self.addresses.items self.lines.items rows core k (c.in_default.ensures.next no_tally rows.none_at_lines k at_least))
