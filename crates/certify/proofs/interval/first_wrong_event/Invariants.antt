-- no event so far is wrong
use Rattle.std.proofs.Common.{List}
use Rattle.component.specs.declared.comp.Comp.{Comp}
use Rattle.event_graph.specs.OneListWeave.{FiredEvent}
use Rattle.certify.specs.Records.{AreFinishes, AreRecords}
use Rattle.certify.proofs.FirstWrong.{NoneIsWrong}
use Rattle.certify.proofs.interval.first_wrong_event.Given as goal

abbrev pub invariant-loop-number : goal.invariant-loop-number
invariant-loop-number l = (comps : List Comp) (timed : List FiredEvent) → AreRecords comps timed l.records → AreFinishes comps timed l.finishes → NoneIsWrong comps timed l.number
