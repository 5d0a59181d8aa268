-- the intervals so far are right
use Rattle.certify.proofs.Checking.{IsCheckedTo}
use Rattle.certify.proofs.checker.judge_all.Given as goal

abbrev pub invariant-loop-interval : goal.invariant-loop-interval
invariant-loop-interval l = IsCheckedTo l.fn.comps l.file l.comps l.fn.counts.intervals l.fn.counts.events l.interval l.at
