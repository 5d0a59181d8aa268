use Rattle.std.proofs.Common.{◌++◌, ◌∷◌, ◌+◌, [], ℕ, List, sym, ◌∙◌, ap, append-nil, arith}
use Rattle.std.specs.Prelude.{flat_map}
use Rattle.profile_rows.specs.declared.line_row.LineRow.{LineRow}
use Rattle.profile.specs.Listed.{has_line_of_any, rows_at}
use Rattle.profile.proofs.Listing.{listed_more, no_more, none_before, one_more}
use Rattle.profile.proofs.profile.Profile.line_tallies.Goals as goal

pub loop-line-init : goal.loop-line-init
loop-line-init c = ([], none_before (has_line_of_any c.args.self.now), sym (append-nil c.new-rows.result.items))

pub loop-line-preserved : goal.loop-line-preserved
loop-line-preserved c =
    let so_far = c.loop-line.invariant.0 in (
      so_far ++ c.in-Some.line ∷ [],
      one_more (has_line_of_any c.args.self.now) c.loop-line.at c.in-Some.line so_far c.loop-line.invariant.1 c.in-Some.ensures,
      listed_more (rows_at c.args.self.now) so_far c.in-Some.line c.new-rows.result.items c.loop-line.rows.items c.push_line.new.rows.items c.loop-line.invariant.2 c.in_ok-push_line.ensures,
    )

-- the last number that fits
pub returns-then-line : goal.returns-then-line
returns-then-line c =
    let so_far = c.loop-line.invariant.0 in
    let all : List ℕ = so_far ++ c.in-Some.line ∷ [] in
    let before = one_more (has_line_of_any c.args.self.now) c.loop-line.at c.in-Some.line so_far c.loop-line.invariant.1 c.in-Some.ensures in
    record {
      lines = all;
      all = no_more (has_line_of_any c.args.self.now) (c.in-Some.line + 1) all before (λ n le lt. absurd (omega (arith, le, lt, c.if-line.true)));
      are = listed_more (rows_at c.args.self.now) so_far c.in-Some.line c.new-rows.result.items c.loop-line.rows.items c.push_line.new.rows.items c.loop-line.invariant.2 c.in_ok-push_line.ensures ∙ ap (λ (xs : List LineRow). xs ++ flat_map (rows_at c.args.self.now) all) c.new-rows.ensures.items;
    }

pub returns : goal.returns
returns c =
    let so_far = c.loop-line.invariant.0 in
    record {
      lines = so_far;
      all = no_more (has_line_of_any c.args.self.now) c.loop-line.at so_far c.loop-line.invariant.1 (λ n le lt. c.in_default.ensures n le);
      are = c.loop-line.invariant.2 ∙ ap (λ (xs : List LineRow). xs ++ flat_map (rows_at c.args.self.now) so_far) c.new-rows.ensures.items;
    }
