use Rattle.mesi_dir.proofs.CoreSets.{cores_in-none, zeros_have_none}
use Rattle.mesi_dir.proofs.core_set.CoreSet.empty.Goals as goal

pub returns : goal.returns
returns c = cores_in-none _ zeros_have_none
