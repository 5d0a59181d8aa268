use Rattle.std.proofs.Common.{Some, sym, ap, ◌∙◌}
use Rattle.home.specs.HomeState.{HomeLine, row_at}
use Rattle.home.specs.Layout.{way_place}
use Rattle.home.proofs.Homes.{line_there, row_nowhere, row_standing}
use Rattle.home.proofs.home.Home.row.Goals as goal

pub returns-in-Some : goal.returns-in-Some
unfolding row_at
returns-in-Some c =
    let was = c.self.invariant in
    let p = (way_place c.self.inside.ways.sets c.self.inside.ways.ways c.in-Some.row) in
    let at = c.in-Some.ensures.here in
    rw (← c.self.view_is)
    (sym (row_standing was c.args.line p at ∙ ap (λ (row : HomeLine). Some row) (line_there was c.args.line p at c.in-Some.row c.in-Some.ensures.row c.at.result.now c.at.ensures)))

pub returns-in-None : goal.returns-in-None
unfolding row_at
returns-in-None c = rw (← c.self.view_is) (sym (row_nowhere c.self.invariant c.args.line c.in-None.ensures.none))
