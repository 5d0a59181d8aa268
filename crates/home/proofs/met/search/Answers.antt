use Rattle.std.proofs.Common.{◌<◌, ◌*◌, ℕ, sym, ap, ◌∙◌, subst, arith}
use Rattle.cache_set.specs.Places.{StandsAt}
use Rattle.cache_set.proofs.Pieces.{within_pieces}
use Rattle.home.specs.Layout.{row_place, way_place}
use Rattle.home.proofs.RowPlaces.{row_within, way_of_row}
use Rattle.home.proofs.met.search.Goals as goal

pub returns-in-Some-clause-here : goal.returns-in-Some-clause-here
returns-in-Some-clause-here c =
    let w = c.args.ways.now in
    let p = c.in-Some.place in
    let at = c.in-Some.ensures.here in
    let within : p < w.sets * w.ways = omega (arith, at.to, within_pieces w.sets w.ways c.args.set c.requires.set) in
    subst (λ (q : ℕ). StandsAt w.ways w.ages.items w.tags.items c.args.set c.args.line q)
    (sym (ap (way_place w.sets w.ways) c.row_place.ensures ∙ way_of_row w.sets w.ways p within)) at

pub returns-in-Some-clause-within : goal.returns-in-Some-clause-within
returns-in-Some-clause-within c =
    let w = c.args.ways.now in
    let p = c.in-Some.place in
    let within : p < w.sets * w.ways = omega (arith, c.in-Some.ensures.here.to, within_pieces w.sets w.ways c.args.set c.requires.set) in
    omega (arith, c.row_place.ensures, row_within w.sets w.ways p within)

pub returns-in-Some-clause-row : goal.returns-in-Some-clause-row
returns-in-Some-clause-row c =
    let w = c.args.ways.now in
    let p = c.in-Some.place in
    let within : p < w.sets * w.ways = omega (arith, c.in-Some.ensures.here.to, within_pieces w.sets w.ways c.args.set c.requires.set) in
    c.row_place.ensures ∙ ap (row_place w.sets w.ways) (sym (ap (way_place w.sets w.ways) c.row_place.ensures ∙ way_of_row w.sets w.ways p within))
