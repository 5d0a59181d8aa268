-- The core may ask the parts for both.
use Rattle.std.proofs.Common.{◌≡◌, ◌+◌, ◌<◌, length, false, ap, arith, refl, rules, subst, sym}
use Rattle.zs_num.specs.Servable.{IsServable}
use Rattle.parts_table.specs.Access.{SeatState}
use Rattle.table_tests.proofs.PartsAsking.{can_ask, one_more, same_seats}
use Rattle.table_tests.proofs.parts.racing.adds.Goals as goal

pub serve-requires-clause-ask : goal.serve-requires-clause-ask
serve-requires-clause-ask g c =
    let seat : SeatState = c.args.core.seat in
    let was = c.loop.invariant in
    let free : SeatState = c.give_way.new.self in
    let made : length free.made ≡ length c.loop.turn.made = ap length c.give_way.ensures.made in
    let more : c.loop.counter < 1000 = search rules in
    let room : length free.made < 2001 = omega (arith, made, was.count, more) in
    let can : IsServable 65536 1048576 false c.one_more_at.result = search rules in
    can_ask c.args.table.now c.requires.table c.may_ask.ensures seat.core 0 seat free c.args.core.places c.one_more_at.result c.requires.core (same_seats seat c.loop.turn free was.same c.give_way.ensures.same) room can

pub serve-requires-in-loop-clause-ask : goal.serve-requires-in-loop-clause-ask
serve-requires-in-loop-clause-ask g c =
    let seat : SeatState = c.args.core.seat in
    let was = c.loop.invariant in
    let free : SeatState = c.give_way.new.self in
    let served : SeatState = c.serve.new.self in
    let made : length free.made ≡ length c.loop.turn.made = ap length c.give_way.ensures.made in
    let more : c.loop.counter < 1000 = search rules in
    let one : length served.made ≡ length free.made + 1 = one_more free served 0 (length free.made) c.one_more_at.result c.serve.result c.serve.ensures.access refl in
    let room : length served.made < 2001 = omega (arith, made, one, was.count, more) in
    let can : IsServable 65536 1048576 false c.load_of.result = subst (IsServable 65536 1048576 false) (sym c.load_of.ensures) c.requires.own in
    can_ask c.args.table.now c.requires.table c.may_ask.ensures seat.core 0 seat served c.args.core.places c.load_of.result c.requires.core
    (same_seats seat free served (same_seats seat c.loop.turn free was.same c.give_way.ensures.same) c.serve.ensures.access.same) room can
