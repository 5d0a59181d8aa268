-- Both cores are at rest.
use Rattle.std.proofs.Common.{subst, arith}
use Rattle.parts_table.specs.Access.{AreNewSeats}
use Rattle.table_tests.proofs.PartsAsking.{new_rests, new_seats}
use Rattle.table_tests.proofs.parts.resting.fresh.Goals as goal

pub returns-clause-first : goal.returns-clause-first
returns-clause-first c =
    let t = c.in_ok-table.table in
    let both = c.both-first.result in
    let seats = new_seats t both.0 both.1 (subst (AreNewSeats t) c.both-first.ensures c.in_ok-table.ensures.seats) in
    new_rests t 0 both.0 _ seats.0 (omega arith) c.in_ok-new.ensures.cores c.in_ok-new.ensures.empty

pub returns-clause-second : goal.returns-clause-second
returns-clause-second c =
    let t = c.in_ok-table.table in
    let both = c.both-first.result in
    let seats = new_seats t both.0 both.1 (subst (AreNewSeats t) c.both-first.ensures c.in_ok-table.ensures.seats) in
    rw c.second.view_is (new_rests t 1 both.1 _ seats.1 (omega arith) c.in_ok-new-2.ensures.cores c.in_ok-new-2.ensures.empty)
