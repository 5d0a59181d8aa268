-- The owner finds what it last wrote, which is no finish.
use Rattle.std.proofs.Common.{slice_index, ◌∙◌, ap, arith}
use Rattle.crossing.specs.Seats.{SeatValue}
use Rattle.weave_run.proofs.Raises.{may_still, no_finish, raised_word, rises, unraised}
use Rattle.weave_run.proofs.raise.raise.Goals as goal

pub returns-in_default : goal.returns-in_default
returns-in_default c = absurd (no_finish c.args.seat.now c.look.new.seat c.args.crossing c.look.result c.requires.may c.look.ensures c.in_default.field-0 c.in_default.is)

pub returns-then-bound-before : goal.returns-then-bound-before
returns-then-bound-before c = unraised c.args.seat.now c.look.new.seat c.args.crossing c.look.result c.requires.may c.look.ensures c.in-Bound.before c.args.bound c.in-Bound.is c.if-bound-before.true

pub raise-requires-clause-crossings : goal.raise-requires-clause-crossings
raise-requires-clause-crossings c = ap (λ (s : SeatValue). s.crossings) c.look.ensures.new_is ∙ c.requires.crossings

pub raise-requires-clause-may : goal.raise-requires-clause-may
raise-requires-clause-may c = may_still c.args.seat.now c.look.new.seat c.args.crossing c.look.result c.requires.may c.look.ensures

pub raise-requires-clause-rises : goal.raise-requires-clause-rises
raise-requires-clause-rises c =
    rises c.args.seat.now c.look.new.seat c.args.crossing c.look.result c.requires.may c.look.ensures c.in-Bound.before c.args.bound c.in-Bound.is (let l = c.if-bound-before.false in omega (arith, l))

pub raise-requires-clause-sound : goal.raise-requires-clause-sound
raise-requires-clause-sound c =
    let e = ap (λ (s : SeatValue). slice_index s.finishes c.args.crossing) c.look.ensures.new_is in
    let l = c.requires.sound in
    omega (arith, e, l)

pub returns : goal.returns
returns c =
    raised_word c.args.seat.now c.look.new.seat c.args.crossing c.look.result c.requires.may c.look.ensures c.in-Bound.before c.args.bound c.in-Bound.is (let l = c.if-bound-before.false in omega (arith, l)) c.requires.wide
    c.raise.new.seat c.raise.ensures
