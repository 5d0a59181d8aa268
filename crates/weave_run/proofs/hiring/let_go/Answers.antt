-- The next domain is the first that its worker has.
use Rattle.std.proofs.Common.{◌≡◌, ◌<◌, ◌≤◌, ℕ, List, All, length, refl, sym, ◌∙◌, ap, subst, arith}
use Rattle.std.proofs.lemmas.List.{length_push}
use Rattle.weave_run.specs.Crews.{Crew}
use Rattle.weave_run.proofs.Lots.{all_free, all_gone, as_many_crews, next_taken, none_gone, one_gone}
use Rattle.weave_run.proofs.hiring.let_go.Goals as goal

pub loop-number-init : goal.loop-number-init
loop-number-init g c = record {
  crews_are = refl;
  room = c.requires.room;
  count = ap length c.requires.empty;
  seats_count = ap length c.requires.no_seats;
  capacity = c.requires.capacity;
  seats_capacity = c.requires.seats_capacity;
  so_far = λ posts dealt size. none_gone posts c.args.crews.now c.args.domains.now.items c.args.seats.now.items dealt c.requires.empty c.requires.no_seats;
}

pub take-domain-requires : goal.take-domain-requires
take-domain-requires g c =
    let i = c.loop-number.invariant in
    let has = c.requires.dealt in
    let below : c.loop-number.number < length has.posts = (let t = c.loop-number-test.true in let e = c.from-number-end.ensures in let n = has.size in omega (arith, t, e, n)) in
    next_taken has.posts c.loop-number.number c.loop-number.crews c.loop-number.domains.items c.loop-number.seats.items (i.so_far has.posts has.dealt has.size) below
    (let s = has.some in let n = i.crews_are in omega (arith, s, n))

pub loop-number-preserved : goal.loop-number-preserved
loop-number-preserved g c =
    let i = c.loop-number.invariant in
    let crews : List (Crew g.row.C.Denot) = c.loop-number.crews in
    let after : List (Crew g.row.C.Denot) = c.take-domain.new.workers in
    let domains = c.push_reserved.ensures in
    let seats = c.push_reserved-in-loop-number.ensures in
    record {
      crews_are = as_many_crews crews after c.take-domain.ensures.rooms ∙ i.crews_are;
      room = subst (All (λ (room : ℕ). c.args.count ≤ room)) (sym c.take-domain.ensures.rooms) i.room;
      count = (let n = i.count in let is = ap length domains.items ∙ length_push c.loop-number.domains.items c.take-domain.result.domain in omega (arith, n, is));
      seats_count = (let n = i.seats_count in let is = ap length seats.items ∙ length_push c.loop-number.seats.items c.take-domain.result.seat in omega (arith, n, is));
      capacity = (let room = i.capacity in let same = domains.capacity in omega (arith, room, same));
      seats_capacity = (let room = i.seats_capacity in let same = seats.capacity in omega (arith, room, same));
      so_far = λ posts dealt size.
          let below : c.loop-number.number < length posts = (let t = c.loop-number-test.true in let e = c.from-number-end.ensures in omega (arith, t, e, size)) in
          one_gone posts c.loop-number.number crews c.loop-number.domains.items c.loop-number.seats.items (i.so_far posts dealt size) below c.take-domain.result after c.push_reserved.new.self.items
          c.push_reserved-in-loop-number.new.self.items (λ item items is. c.take-domain.ensures.dealt item items is) domains.items seats.items;
    }

pub returns-clause-back : goal.returns-clause-back
returns-clause-back g c = λ posts dealt size.
    let i = c.loop-number.invariant in
    let end : c.loop-number.number ≡ length posts = (let t = c.loop-number-test.false in let w = c.loop-number.auto.number-end in let e = c.from-number-end.ensures in omega (arith, t, w, e, size)) in
    all_gone posts c.loop-number.number c.loop-number.crews c.loop-number.domains.items c.loop-number.seats.items (i.so_far posts dealt size) end

pub returns-clause-free : goal.returns-clause-free
returns-clause-free g c =
    let i = c.loop-number.invariant in
    let has = c.requires.dealt in
    let end : c.loop-number.number ≡ length has.posts =
    (let t = c.loop-number-test.false in let w = c.loop-number.auto.number-end in let e = c.from-number-end.ensures in let n = has.size in omega (arith, t, w, e, n))
    in
    all_free has.posts c.loop-number.number c.loop-number.crews c.loop-number.domains.items c.loop-number.seats.items (i.so_far has.posts has.dealt has.size) end c.args.count i.room
