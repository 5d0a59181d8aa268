-- the first events in order were served
use Rattle.std.proofs.Common.{◌≡◌, List, length, map}
use Rattle.event_graph.specs.OneListWeave.{FiredEvent}
use Rattle.certify.specs.Records.{AreRecords, key_of}
use Rattle.certify.specs.ShortTimes.{HaveShortTimes}
use Rattle.certify.specs.Verdict.{in_order}
use Rattle.certify.proofs.Serving.{HaveServed}
use Rattle.certify.proofs.serve.serve_all.Given as goal

abbrev pub invariant-loop-key : goal.invariant-loop-key
invariant-loop-key l = record {
  served : (timed : List FiredEvent) → AreRecords l.fn.comps timed l.records → l.keys ≡ map key_of (in_order timed) → length l.fn.finishes ≡ length timed
      → HaveServed l.fn.comps timed l.comps l.finishes l.key-index;
  times : HaveShortTimes l.comps;
}
