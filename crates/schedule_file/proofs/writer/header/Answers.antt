use Rattle.schedule_file.specs.ScheduleFile.{header_bytes}
use Rattle.schedule_file.proofs.writer.header.Goals as goal

pub returns : goal.returns
unfolding header_bytes
returns c = rw (c.in_ok-put_number-3.ensures, c.in_ok-put_number-2.ensures, c.in_ok-put_number.ensures, c.in_ok-out.ensures.items) cc
