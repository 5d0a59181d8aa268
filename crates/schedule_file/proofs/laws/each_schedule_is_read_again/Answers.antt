use Rattle.schedule_file.proofs.WrittenAndRead.{read_again}
use Rattle.schedule_file.proofs.laws.each_schedule_is_read_again.Goals as goal

pub returns : goal.returns
returns c s turns small = read_again s turns small
