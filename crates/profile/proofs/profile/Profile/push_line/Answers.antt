use Rattle.std.proofs.Common.{◌≡◌, ◌++◌, ℕ, map, sym, ◌∙◌, ap, append-nil, arith}
use Rattle.std.specs.List.{filter, range_with_len}
use Rattle.profile.specs.Listed.{line_row}
use Rattle.profile.specs.Profiled.{added_in}
use Rattle.profile.specs.Rows.{has_line}
use Rattle.profile.proofs.Listing.{rows_more}
use Rattle.profile.proofs.profile.Profile.push_line.Goals as goal

pub loop-core-init : goal.loop-core-init
loop-core-init c = sym (append-nil c.args.rows.now.items)

pub loop-core-preserved : goal.loop-core-preserved
loop-core-preserved c =
    let p = c.args.self.now in
    let line = c.args.line in
    rows_more (line_row p line) (λ core. has_line (added_in p) core line) c.loop-core.core c.args.rows.now.items c.loop-core.rows.items c.push_line_row.new.rows.items c.loop-core.invariant c.in_ok-push_line_row.ensures

pub returns : goal.returns
returns c =
    let p = c.args.self.now in
    let line = c.args.line in
    let all : c.loop-core.core ≡ p.cores = omega (arith, c.loop-core-test.false, c.loop-core.auto.core-end, c.cores-core-end.ensures) in
    c.loop-core.invariant
    ∙ ap (λ (n : ℕ). c.args.rows.now.items ++ map (line_row p line) (filter (λ core. has_line (added_in p) core line) (range_with_len 0 n))) all
