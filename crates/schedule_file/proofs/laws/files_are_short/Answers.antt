use Rattle.schedule_file.proofs.FileLengths.{file_short}
use Rattle.schedule_file.proofs.laws.files_are_short.Goals as goal

pub returns : goal.returns
returns c s = file_short s
