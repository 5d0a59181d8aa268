-- so many turns were added
use Rattle.std.proofs.Common.{◌≡◌, ◌++◌}
use Rattle.std.specs.Prelude.{replicate}
use Rattle.trace.proofs.each_core.add_turns.Given as goal

abbrev pub invariant-loop : goal.invariant-loop
invariant-loop l = record {
  added : l.turns.items ≡ l.initial.turns.items ++ replicate l.counter l.number;
}
