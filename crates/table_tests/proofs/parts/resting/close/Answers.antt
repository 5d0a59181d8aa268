-- Both seats are all.
use Rattle.std.proofs.Common.{◌≡◌, ℕ, ◌+◌, List, [], ◌∷◌, ◌++◌, length, map, sym, ◌∙◌, ap, subst}
use Rattle.std.proofs.lemmas.List.{length-map}
use Rattle.parts_table.specs.Access.{AreAllSeats, SeatState, TableState}
use Rattle.parts_table.specs.TurnOrder.{key_of}
use Rattle.table_tests.proofs.PartsAsking.{are_both, two_lists}
use Rattle.table_tests.proofs.parts.resting.close.Goals as goal

pub close-requires : goal.close-requires
close-requires c =
    let t : TableState = c.args.table in
    let first : SeatState = c.args.first.seat in
    let second : SeatState = c.args.second.seat in
    let pushed : c.push-2.new.self.items ≡ first ∷ second ∷ [] =
    c.in_ok-push-2.ensures.items ∙ ap (λ (xs : List SeatState). xs ++ second ∷ []) (c.in_ok-push.ensures.items ∙ ap (λ (xs : List SeatState). xs ++ first ∷ []) c.new-seats.ensures.items)
    in
    let is = c.requires.table in
    let one = c.requires.first in
    let two = c.requires.second in
    subst (AreAllSeats t) (sym pushed) (are_both t first second is.cores one.seat_of one.core_is two.seat_of two.core_is)

pub returns : goal.returns
returns c =
    let first : SeatState = c.args.first.seat in
    let second : SeatState = c.args.second.seat in
    let pushed : c.push-2.new.self.items ≡ first ∷ second ∷ [] =
    c.in_ok-push-2.ensures.items ∙ ap (λ (xs : List SeatState). xs ++ second ∷ []) (c.in_ok-push.ensures.items ∙ ap (λ (xs : List SeatState). xs ++ first ∷ []) c.new-seats.ensures.items)
    in
    let keys = two_lists c.close.result.1.items (map key_of first.made) (map key_of second.made) (c.close.ensures.keys ∙ ap (map (λ (seat : SeatState). map key_of seat.made)) pushed) in
    record {
      cores = keys.0;
      number = keys.1 ∙ (ap (λ (n : ℕ). n + length (map key_of second.made)) (length-map first.made key_of) ∙ ap (λ (n : ℕ). length first.made + n) (length-map second.made key_of));
    }
