use Rattle.std.proofs.Common.{List, subst, sym}
use Rattle.trace.specs.Trace.{Step}
use Rattle.last_jumps.specs.Kept.{AreKept}
use Rattle.last_jumps.proofs.StepsMore.{kept_stretch}
use Rattle.last_jumps.proofs.last_jumps.LastJumpsTracer.executed_all.Goals as goal

pub invariant_of-self-2 : goal.invariant_of-self-2
invariant_of-self-2 c =
    let new = c.execute_all.new.cores.items in
    subst (λ (all : List Step). AreKept all new) (sym c.then_executed_all-self-inside.ensures)
    (kept_stretch c.self.inside.told.steps c.self.inside.cores.items new c.args.core c.args.pc c.args.count c.requires c.self.invariant c.in_ok-execute_all.ensures.ok)
