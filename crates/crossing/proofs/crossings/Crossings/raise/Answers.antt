use Rattle.std.proofs.Common.{◌+◌, ◌*◌, ◌<◌, ◌≤◌, get_or, sym, ◌∙◌, ap, subst}
use Rattle.crossing.specs.Inside.{IsTableSeat}
use Rattle.crossing.specs.Seats.{MayWrite}
use Rattle.crossing.proofs.Calls.{bound_is_true, can_write, inside, place_wrote}
use Rattle.crossing.proofs.crossings.Crossings.raise.Goals as goal

pub store-requires : goal.store-requires
store-requires c =
    let s = c.seat.inside.place in
    let may = subst (λ v. MayWrite v c.args.crossing) (sym c.seat.view_is) c.requires.may in
    let table = ap (λ v. v.crossings) c.seat.view_is ∙ (c.requires.crossings ∙ sym c.self.view_is) in (
      table,
      subst (λ t. 16 * c.args.crossing + 16 < t.words) table (inside s.table_id s.me c.seat.invariant _ may.there),
      can_write s.table_id s.me c.seat.invariant _ _ _ c.args.crossing (2 * c.args.bound) may (λ upto. subst (λ v. get_or v.wrote c.args.crossing 0 ≤ 2 * c.args.bound) (sym c.seat.view_is) c.requires.rises) (bound_is_true _ _ (subst (λ v. c.args.bound ≤ get_or v.finishes c.args.crossing 0) (sym c.seat.view_is) c.requires.sound)),
    )

pub invariant_of-seat : goal.invariant_of-seat
invariant_of-seat c =
    let s = c.seat.inside.place in
    subst (λ t. IsTableSeat t c.store.new.seat.me) (sym c.store.ensures.0)
    (place_wrote s.table_id s.me c.seat.invariant c.self.inside.words.shared.table_id.slots c.args.crossing (2 * c.args.bound) c.store.new.seat.me c.store.ensures.2)
