use Rattle.std.proofs.Common.{◌∙◌, sym}
use Rattle.rv_core.proofs.Fetches.{never-needs}
use Rattle.rv_core.proofs.state.Core.next.Goals as goal

pub step-requires-clause-there : goal.step-requires-clause-there
step-requires-clause-there g c =
    never-needs (g.P.Program.image c.args.program.now) c.args.self.now (sym c.is_fetching.ensures.value ∙ c.if-is_fetching.false)
