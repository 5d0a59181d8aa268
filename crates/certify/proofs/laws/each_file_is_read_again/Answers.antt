use Rattle.certify.proofs.WrittenAndRead.{read_again}
use Rattle.certify.proofs.laws.each_file_is_read_again.Goals as goal

pub returns : goal.returns
returns c comps intervals can fitting = read_again comps intervals can fitting
