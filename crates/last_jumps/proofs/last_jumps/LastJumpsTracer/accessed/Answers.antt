use Rattle.std.proofs.Common.{List, subst, sym}
use Rattle.trace.specs.Trace.{Step}
use Rattle.last_jumps.specs.Kept.{AreKept}
use Rattle.last_jumps.proofs.StepsMore.{kept_accessed}
use Rattle.last_jumps.proofs.last_jumps.LastJumpsTracer.accessed.Goals as goal

pub invariant_of-self : goal.invariant_of-self
invariant_of-self c =
    let cores = c.self.inside.cores.items in
    subst (λ (all : List Step). AreKept all cores) (sym c.then_accessed-self-inside.ensures)
    (kept_accessed c.self.inside.told.steps cores c.args.pc c.args.entry.now c.args.leaving c.self.invariant)
