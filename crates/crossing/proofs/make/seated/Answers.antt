-- The first step says the finishes, and each split makes one seat more.
use Rattle.std.proofs.Common.{◌≡◌, ◌+◌, true, refl, arith, rules, ◌∙◌, ap, sym, subst}
use Rattle.crossing.specs.Inside.{seat_value}
use Rattle.crossing.specs.Rule.{fresh, with_one_more}
use Rattle.crossing.specs.Seats.{AreSeats, new_seat}
use Rattle.crossing.proofs.Calls.{can_say, can_split, one_more, seat_made}
use Rattle.crossing.proofs.make.seated.Goals as goal

pub load-requires : goal.load-requires
load-requires g c = (c.requires.table, omega (arith, c.requires.count), can_say _ _ _ c.args.first.me g.F.Finishes.finishes g.F.Finishes.sources c.requires.untold c.requires.key)

pub split_seat-place-requires : goal.split_seat-place-requires
split_seat-place-requires g c = (
  c.loop-domain.invariant.table,
  omega (arith, c.requires.count),
  can_split _ _ _ g.F.Finishes.finishes g.F.Finishes.sources c.loop-domain.domain (ap (λ m. m.0) c.loop-domain.invariant.next),
)

pub loop-domain-preserved : goal.loop-domain-preserved
loop-domain-preserved g c =
    let told = c.split_seat-place.ensures in
    let seat = c.split_seat-place.result in
    let table = told.3 ∙ c.loop-domain.invariant.table in
    let made = seat_made seat.table_id seat.me g.F.Finishes.finishes g.F.Finishes.sources c.loop-domain.domain c.loop-domain.first.me c.loop-domain.invariant.next told.4 in record {
      table = told.0 ∙ c.loop-domain.invariant.table;
      next = told.2 ∙ ap (λ m. (with_one_more m.0, m.1)) c.loop-domain.invariant.next;
      room = search rules;
      seats = subst (AreSeats c.args.words.now.shared.table_id g.F.Finishes.finishes g.F.Finishes.sources (c.loop-domain.domain + 1)) (sym c.push_reserved.ensures.items)
          (one_more _ _ _ _ c.loop-domain.seats.items (seat_value seat.table_id seat.me.0) c.loop-domain.invariant.seats
          (subst (λ t. seat_value seat.table_id seat.me.0 ≡ new_seat t g.F.Finishes.finishes g.F.Finishes.sources c.loop-domain.domain) table made));
    }

pub loop-domain-init : goal.loop-domain-init
loop-domain-init g c = record {
  table = c.load.ensures.0 ∙ c.requires.table;
  next = c.load.ensures.2 ∙ ap (λ m. (fresh g.F.Finishes.finishes g.F.Finishes.sources true 0, m.1)) c.requires.untold;
  room = c.requires.room;
  seats = rw c.requires.empty (record { count = refl; each = λ domain below. absurd (omega (arith, below)) });
}

pub returns : goal.returns
returns g c =
    let all : c.loop-domain.domain ≡ c.args.domains = omega (arith, c.loop-domain-test.false, c.loop-domain.auto) in
    subst (λ n. AreSeats c.args.words.now.shared.table_id g.F.Finishes.finishes g.F.Finishes.sources n c.loop-domain.seats.items) all c.loop-domain.invariant.seats
