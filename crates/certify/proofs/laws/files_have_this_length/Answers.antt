use Rattle.certify.proofs.FileLengths.{file_length}
use Rattle.certify.proofs.laws.files_have_this_length.Goals as goal

pub returns : goal.returns
returns c components intervals = file_length components intervals
