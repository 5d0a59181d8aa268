-- A new table of these shards, and its two seats.
use Rattle.std.proofs.Common.{subst}
use Rattle.shard_table.specs.Access.{AreNewSeats}
use Rattle.table_tests.proofs.Asking.{new_seats, tested}
use Rattle.table_tests.proofs.tested.Tested.fresh.Goals as goal

pub make-requires-clause-numbers : goal.make-requires-clause-numbers
make-requires-clause-numbers c = λ number shard at. (c.in_ok-shards.ensures.each number shard at).number_is

pub invariant_of-result : goal.invariant_of-result
invariant_of-result c =
    let t = c.in-Ok.ensures.table in
    let seats = new_seats c.in-Ok.table c.both-first.result.0 c.both-first.result.1 (subst (AreNewSeats c.in-Ok.table) c.both-first.ensures c.in-Ok.ensures.seats) in
    record {
      some = c.requires.some;
      is = tested c.args.banks c.in_ok-shards.shards.items c.in-Ok.table c.in_ok-shards.ensures.count c.in_ok-shards.ensures.each t.0 t.1 t.2;
      first_is = seats.0;
      second_is = seats.1;
    }

pub returns-clause-empty : goal.returns-clause-empty
returns-clause-empty c =
    let seats = new_seats c.in-Ok.table c.both-first.result.0 c.both-first.result.1 (subst (AreNewSeats c.in-Ok.table) c.both-first.ensures c.in-Ok.ensures.seats) in
    (seats.2, seats.3)
