-- the file has as many intervals as were added
use Rattle.std.proofs.Common.{◌≡◌}
use Rattle.event_tests.proofs.events.answer_on.Given as goal

abbrev pub invariant-loop-k : goal.invariant-loop-k
invariant-loop-k g l = record {
  components : l.file.components ≡ 2;
  count : l.file.count ≡ l.k;
}
