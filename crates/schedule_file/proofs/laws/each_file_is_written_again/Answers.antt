use Rattle.schedule_file.proofs.ReadAndWritten.{written_again}
use Rattle.schedule_file.proofs.laws.each_file_is_written_again.Goals as goal

pub returns : goal.returns
returns c cores bytes s low is = written_again cores bytes s low is
