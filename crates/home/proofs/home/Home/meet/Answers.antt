use Rattle.std.proofs.Common.{Some, sym, ap, ◌∙◌}
use Rattle.cache_set.specs.Lines.{in_set_of}
use Rattle.cache_set.specs.Ways.{used}
use Rattle.cache_set.proofs.SetsInArrays.{all_past}
use Rattle.home.specs.HomeState.{HomeLine, looked_up_in, row_at}
use Rattle.home.specs.Layout.{way_place}
use Rattle.home.proofs.Homes.{age_later, home_anew, home_used, home_with, line_there, lists_anew, row_nowhere, row_standing, stands_anew, used_there}
use Rattle.home.proofs.home.Home.meet.Goals as goal

pub next_age-age-requires-clause-past : goal.next_age-age-requires-clause-past
next_age-age-requires-clause-past c = all_past c.self.invariant.ways_are.aged

pub invariant_of-self : goal.invariant_of-self
invariant_of-self c =
    let was = c.self.invariant in
    let p = (way_place c.self.inside.ways.sets c.self.inside.ways.ways c.in-Some.row) in
    let age = c.next_age-age.result in
    let anew = c.next_age-age.new.ages.items in
    let order = c.next_age-age.ensures.order in
    let all = c.next_age-age.ensures.all in
    let later = c.next_age-age.ensures.later in
    let early = c.next_age-age.ensures.early in
    rw (c.next_age-age.ensures.tick, c.way_place-place.ensures)
    (home_used (home_anew was age anew order all later early) c.args.line p (stands_anew was age anew order all later early c.args.line p c.in-Some.ensures.here) age c.in-Some.row c.in-Some.ensures.row (age_later was age anew order all later early) early)

pub returns-in-Some-clause-row : goal.returns-in-Some-clause-row
unfolding row_at
returns-in-Some-clause-row c =
    let was = c.self.invariant in
    let p = (way_place c.self.inside.ways.sets c.self.inside.ways.ways c.in-Some.row) in
    let at = c.in-Some.ensures.here in
    rw (← c.self.view_is)
    (sym (row_standing was c.args.line p at ∙ ap (λ (row : HomeLine). Some row) (line_there was c.args.line p at c.in-Some.row c.in-Some.ensures.row c.at.result.now c.at.ensures)))

pub returns-in-Some-clause-used : goal.returns-in-Some-clause-used
unfolding looked_up_in
returns-in-Some-clause-used c =
    let was = c.self.invariant in
    let p = (way_place c.self.inside.ways.sets c.self.inside.ways.ways c.in-Some.row) in
    let age = c.next_age-age.result in
    let anew = c.next_age-age.new.ages.items in
    let order = c.next_age-age.ensures.order in
    let all = c.next_age-age.ensures.all in
    let later = c.next_age-age.ensures.later in
    let early = c.next_age-age.ensures.early in
    let s = c.self.inside in
    rw (← c.self.view_is, c.way_place-place.ensures)
    (ap (home_with s.met.dealt.number s.met.dealt.shards s.base s.size s.ways.ways s.bytes s.marks)
    (used_there (home_anew was age anew order all later early) c.args.line p (stands_anew was age anew order all later early c.args.line p c.in-Some.ensures.here) age (age_later was age anew order all later early)
    ∙ ap (in_set_of s.met.dealt.shards c.args.line (used c.args.line)) (lists_anew was age anew order all later early)))

pub returns-in-None-clause-row : goal.returns-in-None-clause-row
unfolding row_at
returns-in-None-clause-row c = rw (← c.self.view_is) (sym (row_nowhere c.self.invariant c.args.line c.in-None.ensures.none))
