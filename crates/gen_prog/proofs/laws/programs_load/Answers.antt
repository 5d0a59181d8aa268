use Rattle.gen_prog.proofs.Loading.{programs_load}
use Rattle.gen_prog.proofs.laws.programs_load.Goals as goal

pub returns : goal.returns
returns c = programs_load
