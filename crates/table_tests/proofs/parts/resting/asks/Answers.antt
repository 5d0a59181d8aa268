-- The core may ask the parts, and is at rest again.
use Rattle.std.proofs.Common.{◌≡◌, ℕ, ◌+◌, ◌<◌, List, length, ap, sym, subst}
use Rattle.parts_table.specs.Access.{SeatState, TableState}
use Rattle.parts_table.specs.World.{MayAsk, world_of}
use Rattle.parts_table.specs.declared.view.Made.{Made}
use Rattle.table_tests.proofs.PartsAsking.{may_ask, one_more, rests, same_seats}
use Rattle.table_tests.proofs.parts.resting.asks.Goals as goal

pub serve-entry-requires-clause-ask : goal.serve-entry-requires-clause-ask
serve-entry-requires-clause-ask g c =
    let t : TableState = c.args.table.now in
    let seat : SeatState = c.args.core.seat in
    let is = c.requires.table in
    let at = c.requires.core in
    let same = c.begin-turn.ensures.same in (
      subst (λ (made : List Made). length made < t.room) (sym c.begin-turn.ensures.made) (subst (λ (n : ℕ). length seat.made < n) (sym is.room) c.requires.room),
      subst (λ (n : ℕ). MayAsk t.cores t.banks (world_of t.opening) n c.args.request) (sym same.core) (may_ask t is c.may_ask.ensures seat.core c.args.request at.few c.requires.can),
    )

pub returns : goal.returns
returns g c =
    let t : TableState = c.args.table.now in
    let seat : SeatState = c.args.core.seat in
    let is = c.requires.table in
    let access = c.serve-entry.ensures.access in
    let begun : SeatState = c.begin-turn.result in
    let served : SeatState = c.serve-entry.new.self in
    let last : SeatState = c.end-seat.result.0 in
    rests t seat.core (length seat.made) _ seat last c.args.core.places c.end-seat.result.1 c.requires.core is.cores
    (same_seats seat begun last c.begin-turn.ensures.same (same_seats begun served last access.same c.end-seat.ensures.same))
    (subst (λ (made : List Made). length made ≡ length seat.made + 1) (sym c.end-seat.ensures.made)
    (one_more begun served 0 (length seat.made) c.args.request c.serve-entry.result access (ap length c.begin-turn.ensures.made)))
    c.end-seat.ensures.places
