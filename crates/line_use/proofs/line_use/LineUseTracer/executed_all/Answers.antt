use Rattle.std.proofs.Common.{List, subst, sym}
use Rattle.trace.specs.Trace.{Step}
use Rattle.line_use.specs.Right.{IsRight}
use Rattle.line_use.proofs.StepsMore.{right_stretch}
use Rattle.line_use.proofs.line_use.LineUseTracer.executed_all.Goals as goal

pub invariant_of-self : goal.invariant_of-self
invariant_of-self c =
    let tables = c.self.inside.uses.items in
    subst (λ (all : List Step). IsRight all tables) (sym c.then_executed_all-self-inside.ensures)
    (right_stretch c.self.inside.told.steps c.args.core c.args.pc c.args.count tables c.self.invariant)
