-- the numbers so far
use Rattle.std.proofs.Common.{◌≡◌}
use Rattle.schedule_file.specs.ScheduleFile.{numbers_of}
use Rattle.schedule_file.proofs.reader.two_byte_numbers.Given as goal

abbrev pub invariant-loop-k : goal.invariant-loop-k
invariant-loop-k l = l.wide.items ≡ numbers_of 2 l.k l.list
