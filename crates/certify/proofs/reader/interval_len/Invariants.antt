-- the events so far, and what the rest of the file gives
use Rattle.std.proofs.Common.{◌≤◌, ◌+◌, ◌*◌, length}
use Rattle.certify.proofs.Reading.{HaveReadEvents}
use Rattle.certify.proofs.reader.interval_len.Given as goal

abbrev pub invariant-loop-place : goal.invariant-loop-place
invariant-loop-place l = record {
  read : HaveReadEvents l.comps l.file l.interval l.count l.place (l.at + 4);
  within : l.at + 4 + 64 * l.place ≤ length l.file;
}
