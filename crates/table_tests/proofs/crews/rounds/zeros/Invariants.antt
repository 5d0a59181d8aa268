-- So far so many, and room for all.
use Rattle.std.proofs.Common.{◌≡◌, ◌≤◌, vec_len}
use Rattle.std.specs.Vec.{vec_capacity}
use Rattle.table_tests.proofs.crews.rounds.zeros.Given as goal

abbrev pub invariant-loop : goal.invariant-loop
invariant-loop l = record { count : vec_len l.numbers ≡ l.counter; room : l.count ≤ vec_capacity l.numbers }
