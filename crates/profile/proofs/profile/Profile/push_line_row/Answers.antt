use Rattle.std.proofs.Common.{◌≡◌, ◌++◌, ◌∷◌, [], Bool, true, false, if◌then◌else◌, sym, ◌∙◌, ap}
use Rattle.profile_rows.specs.declared.line_row.LineRow.{LineRow}
use Rattle.profile_rows.specs.declared.tally.Tally.{Tally}
use Rattle.profile.specs.Contributions.{at_line}
use Rattle.profile.specs.Listed.{line_row}
use Rattle.profile.specs.Profiled.{added_in}
use Rattle.profile.specs.Rows.{has_line, is_something}
use Rattle.profile.proofs.LinesTold.{something_capped}
use Rattle.profile.proofs.profile.Profile.push_line_row.Goals as goal

pub returns-in_ok-push : goal.returns-in_ok-push
returns-in_ok-push c =
    let p = c.args.self.now in
    let rows = c.args.rows.now.items in
    let told : is_something c.line-tally.result ≡ has_line (added_in p) c.args.core c.args.line = ap is_something c.line-tally.ensures ∙ something_capped (at_line c.args.core c.args.line (added_in p)) in
    let there : true ≡ has_line (added_in p) c.args.core c.args.line = sym (sym c.is_something.ensures ∙ c.if-is_something.true) ∙ told in
    c.in_ok-push.ensures.items
    ∙ ap (λ (t : Tally). let row : LineRow = record { line = c.args.line; core = c.args.core; tally = t; read = 0; written = 0 } in rows ++ row ∷ []) c.line-tally.ensures
    ∙ ap (λ (b : Bool). if b then rows ++ line_row p c.args.line c.args.core ∷ [] else rows) there

pub returns-else-is_something : goal.returns-else-is_something
returns-else-is_something c =
    let p = c.args.self.now in
    let rows = c.args.rows.now.items in
    let told : is_something c.line-tally.result ≡ has_line (added_in p) c.args.core c.args.line = ap is_something c.line-tally.ensures ∙ something_capped (at_line c.args.core c.args.line (added_in p)) in
    let none : false ≡ has_line (added_in p) c.args.core c.args.line = sym (sym c.is_something.ensures ∙ c.if-is_something.false) ∙ told in
    ap (λ (b : Bool). if b then rows ++ line_row p c.args.line c.args.core ∷ [] else rows) none
