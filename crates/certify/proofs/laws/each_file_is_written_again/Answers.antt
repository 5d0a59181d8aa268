use Rattle.certify.proofs.ReadAndWritten.{written_again}
use Rattle.certify.proofs.laws.each_file_is_written_again.Goals as goal

pub returns : goal.returns
returns c comps bytes intervals low is = written_again comps bytes intervals low is
