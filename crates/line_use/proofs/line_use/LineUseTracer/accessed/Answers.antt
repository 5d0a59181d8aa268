use Rattle.std.proofs.Common.{List, subst, sym}
use Rattle.trace.specs.Trace.{Step}
use Rattle.line_use.specs.Right.{IsRight}
use Rattle.line_use.proofs.StepsMore.{right_accessed}
use Rattle.line_use.proofs.line_use.LineUseTracer.accessed.Goals as goal

pub invariant_of-self-2 : goal.invariant_of-self-2
invariant_of-self-2 c =
    let steps = c.self.inside.told.steps in
    let new = c.add_use.new.uses.items in
    subst (λ (all : List Step). IsRight all new) (sym c.then_accessed-self-inside.ensures)
    (right_accessed steps c.self.inside.uses.items new c.args.pc c.args.entry.now c.args.leaving c.in_ok-add_use.ensures.ok c.self.invariant)
