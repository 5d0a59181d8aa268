use Rattle.std.proofs.Common.{ap, ◌∙◌}
use Rattle.mesi_dir.specs.CoreSets.{with_core}
use Rattle.mesi_dir.proofs.CoreSets.{cores_in-none, one_core, zeros_have_none}
use Rattle.mesi_dir.proofs.core_set.CoreSet.of.Goals as goal

pub returns : goal.returns
returns c = c.add.ensures.cores ∙ (ap (with_core c.args.core) (cores_in-none _ zeros_have_none) ∙ one_core c.args.core c.requires)
