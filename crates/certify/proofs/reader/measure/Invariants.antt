-- the intervals so far, and what the rest of the file gives
use Rattle.std.proofs.Common.{◌≡◌, ◌≤◌, ◌+◌, ◌*◌, length}
use Rattle.certify.proofs.Reading.{HaveReadIntervals}
use Rattle.certify.proofs.reader.measure.Given as goal

abbrev pub invariant-loop-interval : goal.invariant-loop-interval
invariant-loop-interval l = record {
  read : HaveReadIntervals l.comps l.file l.intervals l.interval l.at l.events;
  place : l.at ≡ 16 + (4 * l.interval + 64 * l.events);
  within : l.at ≤ length l.file;
}
