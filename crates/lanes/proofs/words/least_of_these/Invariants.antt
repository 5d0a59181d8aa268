use Rattle.std.proofs.Common.{◌≡◌, drop}
use Rattle.lanes.specs.Words.{least_from}
use Rattle.lanes.proofs.words.least_of_these.Given as goal

abbrev pub invariant-loop-word : goal.invariant-loop-word
invariant-loop-word l = least_from l.least (drop l.word-index l.words) ≡ least_from l.first l.words
