use Rattle.std.proofs.Common.{List, subst, sym}
use Rattle.trace.specs.Trace.{Step}
use Rattle.last_jumps.specs.Kept.{AreKept}
use Rattle.last_jumps.proofs.StepsMore.{kept_ended}
use Rattle.last_jumps.proofs.last_jumps.LastJumpsTracer.ended.Goals as goal

pub invariant_of-self : goal.invariant_of-self
invariant_of-self c =
    let cores = c.self.inside.cores.items in
    subst (λ (all : List Step). AreKept all cores) (sym c.then_ended-self-inside.ensures)
    (kept_ended c.self.inside.told.steps cores _ c.self.invariant)
