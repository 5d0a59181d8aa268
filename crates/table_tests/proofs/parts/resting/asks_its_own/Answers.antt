-- The core may ask its L1, and is at rest again.
use Rattle.std.proofs.Common.{◌≡◌, ◌+◌, List, length, ap, sym, subst}
use Rattle.zs_num.specs.declared.entry.Entry.{Entry}
use Rattle.parts_table.specs.Access.{IsAccess, SeatState, TableState}
use Rattle.parts_table.specs.declared.view.Made.{Made}
use Rattle.table_tests.specs.PartsTested.{IsResting}
use Rattle.table_tests.proofs.PartsAsking.{can_ask_alone, if_some, one_more, rests, same_seats}
use Rattle.table_tests.proofs.parts.resting.asks_its_own.Goals as goal

pub serve_alone-entry-requires-clause-ask : goal.serve_alone-entry-requires-clause-ask
serve_alone-entry-requires-clause-ask g c =
    let seat : SeatState = c.args.core.seat in
    can_ask_alone c.args.table.now c.requires.table c.may_ask.ensures seat.core (length seat.made) seat c.begin-turn.result c.args.core.places c.args.request c.requires.core c.begin-turn.ensures.same c.requires.can

pub returns-clause-some : goal.returns-clause-some
returns-clause-some g c =
    let t : TableState = c.args.table.now in
    let seat : SeatState = c.args.core.seat in
    let begun : SeatState = c.begin-turn.result in
    let served : SeatState = c.serve_alone-entry.new.self in
    let last : SeatState = c.end-seat.result.0 in
    if_some c.serve_alone-entry.result (λ (e : Entry). IsAccess begun served 0 c.args.request e) (λ (e : Entry). IsResting seat.core (length seat.made + 1) t last c.end-seat.result.1)
    (λ (e : Entry) (access : IsAccess begun served 0 c.args.request e).
    rests t seat.core (length seat.made) _ seat last c.args.core.places c.end-seat.result.1 c.requires.core c.requires.table.cores
    (same_seats seat begun last c.begin-turn.ensures.same (same_seats begun served last access.same c.end-seat.ensures.same))
    (subst (λ (made : List Made). length made ≡ length seat.made + 1) (sym c.end-seat.ensures.made)
    (one_more begun served 0 (length seat.made) c.args.request e access (ap length c.begin-turn.ensures.made)))
    c.end-seat.ensures.places)
    c.serve_alone-entry.ensures.access
