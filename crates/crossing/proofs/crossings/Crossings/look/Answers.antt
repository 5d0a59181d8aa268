use Rattle.std.proofs.Common.{◌+◌, ◌*◌, ◌<◌, length, sym, ◌∙◌, ap, subst}
use Rattle.crossing.specs.Inside.{IsTableSeat}
use Rattle.crossing.proofs.Calls.{can_find, inside, place_found}
use Rattle.crossing.proofs.crossings.Crossings.look.Goals as goal

pub load-number-requires : goal.load-number-requires
load-number-requires c =
    let s = c.seat.inside.place in
    let there = subst (λ v. c.args.crossing < length v.sources) (sym c.seat.view_is) c.requires.there in (
      ap (λ v. v.crossings) c.seat.view_is ∙ (c.requires.crossings ∙ sym c.self.view_is),
      subst (λ t. 16 * c.args.crossing + 16 < t.words) (ap (λ v. v.crossings) c.seat.view_is ∙ (c.requires.crossings ∙ sym c.self.view_is)) (inside s.table_id s.me c.seat.invariant _ there),
      can_find s.table_id s.me c.seat.invariant _ _ _ _ there,
    )

pub invariant_of-seat : goal.invariant_of-seat
invariant_of-seat c =
    let s = c.seat.inside.place in
    subst (λ t. IsTableSeat t c.load-number.new.seat.me) (sym c.load-number.ensures.0) (place_found s.table_id s.me c.seat.invariant c.self.inside.words.shared.table_id.slots c.args.crossing c.load-number.result c.load-number.new.seat.me c.load-number.ensures.2)
