use Rattle.std.proofs.Common.{◌≡◌, ℕ, Option, Some, IfSome, IfNone, sym, ap, subst, ◌∙◌}
use Rattle.std.specs.Prelude.{nat_eq, unwrap_or}
use Rattle.std.specs.Set.{is_member}
use Rattle.cache_set.specs.Places.{StandsAt, StandsNowhere, set_number_in}
use Rattle.home.specs.Layout.{row_place, way_place}
use Rattle.home.specs.HomeState.{HomeLine, nobody, row_at}
use Rattle.home.proofs.Homes.{line_there, row_nowhere, row_standing}
use Rattle.mesi_dir.proofs.CoreSets.{is_member-cores_in}
use Rattle.home.proofs.home.Home.shares.Goals as goal

pub returns-in-Some-clause-value : goal.returns-in-Some-clause-value
unfolding row_at
returns-in-Some-clause-value c =
    let was = c.self.invariant in
    let p = (way_place c.self.inside.ways.sets c.self.inside.ways.ways c.in-Some.row) in
    let s = c.self.inside in
    let at = subst (λ (o : Option ℕ). IfSome o (λ row. StandsAt s.ways.ways s.ways.ages.items s.ways.tags.items (set_number_in s.met.dealt.shards s.ways.sets c.args.line) c.args.line (way_place s.ways.sets s.ways.ways row))) c.in-Some.is c.find-row.ensures.here in
    let is = subst (λ (o : Option ℕ). IfSome o (λ row. row ≡ row_place s.ways.sets s.ways.ways (way_place s.ways.sets s.ways.ways row))) c.in-Some.is c.find-row.ensures.row in
    let row = c.at.result.now in
    rw (← c.self.view_is)
    (c.has.ensures ∙ sym (is_member-cores_in row.sharers.words c.args.core)
    ∙ ap (λ (found : Option HomeLine). is_member nat_eq (unwrap_or found nobody).sharers c.args.core)
    (sym (row_standing was c.args.line p at ∙ ap (λ (row : HomeLine). Some row) (line_there was c.args.line p at c.in-Some.row is row c.at.ensures))))

pub returns-clause-value : goal.returns-clause-value
unfolding row_at
returns-clause-value c =
    let s = c.self.inside in
    let nowhere = subst (λ (o : Option ℕ). IfNone o (StandsNowhere s.ways.ways s.ways.ages.items s.ways.tags.items (set_number_in s.met.dealt.shards s.ways.sets c.args.line) c.args.line)) c.in_default.is c.find-row.ensures.none in
    rw (← c.self.view_is) (ap (λ (found : Option HomeLine). is_member nat_eq (unwrap_or found nobody).sharers c.args.core) (sym (row_nowhere c.self.invariant c.args.line nowhere)))
