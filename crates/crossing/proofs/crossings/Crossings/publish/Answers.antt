use Rattle.std.proofs.Common.{◌+◌, ◌*◌, ◌<◌, ◌≤◌, get_or, sym, ◌∙◌, ap, subst}
use Rattle.crossing.specs.Inside.{IsTableSeat}
use Rattle.crossing.specs.Seats.{MayWrite}
use Rattle.crossing.proofs.Calls.{can_write, finish_is_true, inside, place_wrote}
use Rattle.crossing.proofs.crossings.Crossings.publish.Goals as goal

pub store-requires : goal.store-requires
store-requires c =
    let s = c.seat.inside.place in
    let may = subst (λ v. MayWrite v c.args.crossing) (sym c.seat.view_is) c.requires.may in
    let table = ap (λ v. v.crossings) c.seat.view_is ∙ (c.requires.crossings ∙ sym c.self.view_is) in (
      table,
      subst (λ t. 16 * c.args.crossing + 16 < t.words) table (inside s.table_id s.me c.seat.invariant _ may.there),
      can_write s.table_id s.me c.seat.invariant _ _ _ c.args.crossing (2 * c.args.finish + 1) may (λ upto. subst (λ f. get_or c.seat.inside.place.me.0.wrote c.args.crossing 0 ≤ 2 * f + 1) (ap (λ v. get_or v.finishes c.args.crossing 0) c.seat.view_is ∙ sym c.requires.sound) upto) (finish_is_true _ _ (c.requires.sound ∙ ap (λ v. get_or v.finishes c.args.crossing 0) (sym c.seat.view_is))),
    )

pub invariant_of-seat : goal.invariant_of-seat
invariant_of-seat c =
    let s = c.seat.inside.place in
    subst (λ t. IsTableSeat t c.store.new.seat.me) (sym c.store.ensures.0)
    (place_wrote s.table_id s.me c.seat.invariant c.self.inside.words.shared.table_id.slots c.args.crossing (2 * c.args.finish + 1) c.store.new.seat.me c.store.ensures.2)
