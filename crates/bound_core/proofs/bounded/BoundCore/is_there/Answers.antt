use Rattle.std.proofs.Common.{◌∙◌, ap, sym}
use Rattle.zs_num.specs.Request.{line_at}
use Rattle.rv_core.specs.Step.{is_latest}
use Rattle.rv_core.proofs.Fetches.{latest-needs}
use Rattle.bound_core.specs.NumberedCores.{NumberedCore}
use Rattle.bound_core.proofs.bounded.BoundCore.is_there.Goals as goal

pub returns-clause-latest : goal.returns-clause-latest
returns-clause-latest g c is =
    let same = ap (λ (n : NumberedCore). is_latest n.timed.core.fetched_line (line_at n.timed.core.pc)) c.self.view_is in
    sym same ∙ sym c.is_in_latest_line.ensures.value ∙ is

pub returns-clause-there : goal.returns-clause-there
returns-clause-there g c is = latest-needs (g.P.Program.image c.args._program.now) c.args.self.now.timed.core (returns-clause-latest g c is)
