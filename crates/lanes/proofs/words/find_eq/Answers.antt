use Rattle.std.proofs.Common.{get_or, sym, arith}
use Rattle.std.proofs.lemmas.Bool.{eq-eqb}
use Rattle.lanes.proofs.Places.{first_place, no_place}
use Rattle.lanes.proofs.words.find_eq.Goals as goal

pub returns-then-found-clause-value : goal.returns-then-found-clause-value
returns-then-found-clause-value c =
    let here = c.find_in_lanes-found.ensures.here c.if-found.true in
    sym (first_place c.args.list.now c.args.x c.find_in_lanes-found.result.1 here.0 c.find_in_lanes-found.ensures.before here.1)

pub returns-then-list-place-clause-value : goal.returns-then-list-place-clause-value
returns-then-list-place-clause-value c =
    sym (first_place c.args.list.now c.args.x c.loop-place.place c.loop-place-test.true c.loop-place.invariant.1 (eq-eqb (get_or c.args.list.now c.loop-place.place 0) c.args.x c.if-list-place.true))

pub returns-clause-value : goal.returns-clause-value
returns-clause-value c =
    sym (no_place c.args.list.now c.args.x (λ k within. c.loop-place.invariant.1 k (omega arith)))
