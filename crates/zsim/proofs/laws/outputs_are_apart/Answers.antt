-- The words of a run are tested for it, and a replay has no such names.
use Rattle.zsim.proofs.OutputsApart.{apart}
use Rattle.zsim.proofs.laws.outputs_are_apart.Goals as goal

pub returns : goal.returns
returns c = λ words e is. apart words e is
