-- The next core is the first that its worker has.
use Rattle.std.proofs.Common.{◌≡◌, ◌<◌, List, length, refl, ◌∙◌, ap, arith}
use Rattle.std.proofs.lemmas.List.{length_push}
use Rattle.bound_workers.specs.Team.{Team}
use Rattle.bound_workers.proofs.Returns.{all_left, next_can, none_left, one_left}
use Rattle.bound_workers.proofs.hiring.let_go.Goals as goal

pub loop-number-init : goal.loop-number-init
loop-number-init c =
    let cores = c.requires.cores in
    let seats = c.requires.seats in
    let records = c.requires.records in
    record {
      some = refl;
      cores_count = ap length cores.0;
      seats_count = ap length seats.0;
      records_count = ap length records.0;
      cores_room = cores.1;
      seats_room = seats.1;
      records_room = records.1;
      so_far = λ members dealt size. none_left members c.args.teams.now c.args.cores.now.items c.args.seats.now.items c.args.records.now.items dealt cores.0 seats.0 records.0;
    }

pub take-core-requires : goal.take-core-requires
take-core-requires c =
    let before = c.loop-number.invariant in
    let has = c.requires.dealt in
    let below : c.loop-number.number < length has.members = (let t = c.loop-number-test.true in let e = c.from-number-end.ensures in let n = has.size in omega (arith, t, e, n)) in
    next_can has.members c.loop-number.number c.loop-number.teams c.loop-number.cores.items c.loop-number.seats.items c.loop-number.records.items (before.so_far has.members has.dealt has.size) below
    (let s = has.some in let n = before.some in omega (arith, s, n))

pub loop-number-preserved : goal.loop-number-preserved
loop-number-preserved c =
    let before = c.loop-number.invariant in
    let teams : List Team = c.loop-number.teams in
    let after : List Team = c.take-core.new.workers in
    let cores = c.push_reserved.ensures in
    let seats = c.push_reserved-in-loop-number.ensures in
    let records = c.push_reserved-in-loop-number-2.ensures in
    record {
      some = c.take-core.auto.workers ∙ before.some;
      cores_count = (let n = before.cores_count in let is = ap length cores.items ∙ length_push c.loop-number.cores.items c.take-core.result.core in omega (arith, n, is));
      seats_count = (let n = before.seats_count in let is = ap length seats.items ∙ length_push c.loop-number.seats.items c.take-core.result.seat in omega (arith, n, is));
      records_count = (let n = before.records_count in let is = ap length records.items ∙ length_push c.loop-number.records.items c.take-core.result.record in omega (arith, n, is));
      cores_room = (let room = before.cores_room in let same = cores.capacity in omega (arith, room, same));
      seats_room = (let room = before.seats_room in let same = seats.capacity in omega (arith, room, same));
      records_room = (let room = before.records_room in let same = records.capacity in omega (arith, room, same));
      so_far = λ members dealt size.
          let below : c.loop-number.number < length members = (let t = c.loop-number-test.true in let e = c.from-number-end.ensures in omega (arith, t, e, size)) in
          one_left members c.loop-number.number teams c.loop-number.cores.items c.loop-number.seats.items c.loop-number.records.items (before.so_far members dealt size) below c.take-core.result after c.push_reserved.new.self.items
          c.push_reserved-in-loop-number.new.self.items c.push_reserved-in-loop-number-2.new.self.items (λ item items is. c.take-core.ensures.dealt item items is) cores.items seats.items records.items;
    }

pub returns : goal.returns
returns c = λ members dealt size.
    let before = c.loop-number.invariant in
    let end : c.loop-number.number ≡ length members = (let t = c.loop-number-test.false in let w = c.loop-number.auto.number-end in let e = c.from-number-end.ensures in omega (arith, t, w, e, size)) in
    all_left members c.loop-number.number c.loop-number.teams c.loop-number.cores.items c.loop-number.seats.items c.loop-number.records.items (before.so_far members dealt size) end
