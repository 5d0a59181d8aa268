-- the number of the turns, and the turns so far
use Rattle.std.proofs.Common.{◌≡◌, ◌++◌, length, take}
use Rattle.std.specs.List.{flat_map}
use Rattle.byteorder.specs.Endian.{little_bytes}
use Rattle.schedule_file.specs.ScheduleFile.{width_for}
use Rattle.schedule_file.proofs.writer.put_list.Given as goal

abbrev pub invariant-loop-core : goal.invariant-loop-core
invariant-loop-core l = l.out.items ≡ l.fn.out.items ++ (little_bytes 4 (length l.turns) ++ flat_map (little_bytes (width_for l.cores)) (take l.core-index l.turns))
