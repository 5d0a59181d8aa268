-- the header, and the lists so far
use Rattle.std.proofs.Common.{◌≡◌, ◌++◌, take}
use Rattle.std.specs.List.{flat_map}
use Rattle.schedule_file.specs.ScheduleFile.{header_bytes, list_bytes, width_for}
use Rattle.schedule_file.proofs.writer.write.Given as goal

abbrev pub invariant-loop-k : goal.invariant-loop-k
invariant-loop-k l = l.out.items ≡ header_bytes l.schedule ++ flat_map (list_bytes (width_for l.schedule.cores)) (take l.k l.schedule.lists)
