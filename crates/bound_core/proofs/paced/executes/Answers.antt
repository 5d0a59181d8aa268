use Rattle.std.proofs.Common.{◌∙◌, sym}
use Rattle.rv_core.proofs.Fetches.{never-needs}
use Rattle.bound_core.proofs.paced.executes.Goals as goal

pub step-requires-clause-there : goal.step-requires-clause-there
step-requires-clause-there g c = never-needs (g.P.Program.image c.args.program.now) c.args.core.now (sym c.is_fetching.ensures.value ∙ c.if-is_fetching.false)
