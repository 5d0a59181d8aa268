-- The seats are free after each round, and there are as many numbers.
use Rattle.std.proofs.Common.{◌≡◌, vec_len}
use Rattle.table_tests.proofs.crews.rounds.add_rounds.Given as goal

abbrev pub invariant-loop : goal.invariant-loop
invariant-loop g l = record { askers : l.askers ≡ l.fn.askers; count : vec_len l.numbers ≡ vec_len l.fn.numbers }
