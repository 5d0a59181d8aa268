-- Both seats are all, and a shard that could be asked can be asked still.
use Rattle.std.proofs.Common.{◌≡◌, List, [], ◌∷◌, ◌++◌, sym, ◌∙◌, ap, subst}
use Rattle.shard_table.specs.Access.{AreAllSeats, SeatState, TableState}
use Rattle.table_tests.proofs.Asking.{are_both, closed_serve}
use Rattle.table_tests.proofs.tested.Tested.close.Goals as goal

pub close-requires : goal.close-requires
close-requires c =
    let t : TableState = c.args.self.table in
    let first : SeatState = c.args.self.first in
    let second : SeatState = c.args.self.second in
    let pushed : c.push-2.new.self.items ≡ first ∷ second ∷ [] =
    c.in_ok-push-2.ensures.items ∙ ap (λ (xs : List SeatState). xs ++ second ∷ []) (c.in_ok-push.ensures.items ∙ ap (λ (xs : List SeatState). xs ++ first ∷ []) c.new-seats.ensures.items)
    in
    subst (AreAllSeats t) (sym pushed) (are_both t first second c.args.self.is.cores c.args.self.first_is c.args.self.second_is)

pub returns : goal.returns
returns c = closed_serve c.args.self.banks c.args.self.table c.args.self.is c.each_has_its_own.ensures c.still_serves.ensures c.args.self.some _ _ c.close.ensures.whole.left
