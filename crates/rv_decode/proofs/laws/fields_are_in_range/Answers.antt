use Rattle.rv_decode.proofs.RangeLemmas.{in_range, registers}
use Rattle.rv_decode.proofs.laws.fields_are_in_range.Goals as goal

pub returns-clause-registers : goal.returns-clause-registers
returns-clause-registers c = registers

pub returns-clause-formats : goal.returns-clause-formats
returns-clause-formats c = in_range
