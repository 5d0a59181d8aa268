-- the lists so far, and what the rest of the file gives
use Rattle.std.proofs.Common.{◌≡◌, ◌≤◌, ◌-◌, length}
use Rattle.schedule_file.specs.ScheduleFile.{lists_from}
use Rattle.schedule_file.proofs.Lists.{behind}
use Rattle.schedule_file.proofs.reader.read.Given as goal

abbrev pub invariant-loop-interval : goal.invariant-loop-interval
invariant-loop-interval l = record {
  lists : lists_from l.cores l.bytes l.count 0 16 ≡ behind l.schedule.lists (lists_from l.cores l.bytes (l.count - l.interval) l.interval l.at);
  cores : l.schedule.cores ≡ l.cores;
  count : length l.schedule.lists ≡ l.interval;
  within : l.at ≤ length l.bytes;
}
