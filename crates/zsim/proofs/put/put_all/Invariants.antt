-- the sink took the first bytes of the text, and nothing failed
use Rattle.std.proofs.Common.{◌≤◌, ◌-◌, length, take}
use Rattle.zsim.specs.Seen.{sink_seen, Gained, NoPutFailed}
use Rattle.zsim.proofs.put.put_all.Given as goal

abbrev pub invariant-loop-done : goal.invariant-loop-done
invariant-loop-done g l =
    let sink = g.S.Sink in
    let seen = sink_seen sink.is_seen sink.bytes sink.faults l.initial.sink l.sink in
    record {
      within : l.done ≤ length l.text;
      gained : Gained seen (take l.done l.text);
      faults : NoPutFailed seen;
    }

abbrev pub decreases-loop-done : goal.decreases-loop-done
decreases-loop-done g l = length l.text - l.done
