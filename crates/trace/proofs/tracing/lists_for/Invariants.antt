-- a list for each core so far
use Rattle.std.proofs.Common.{◌≡◌, length}
use Rattle.trace.proofs.tracing.lists_for.Given as goal

abbrev pub invariant-loop : goal.invariant-loop
invariant-loop l = length l.lists.items ≡ l.counter
