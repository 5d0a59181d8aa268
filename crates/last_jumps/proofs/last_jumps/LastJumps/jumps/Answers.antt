use Rattle.std.proofs.Common.{◌≡◌, List, IfOk, subst, ap, ◌∙◌}
use Rattle.profile_rows.specs.declared.halt_row.Jump.{Jump}
use Rattle.trace.specs.Trace.{Step}
use Rattle.last_jumps.specs.Jumps.{executed_by, last_jumps}
use Rattle.last_jumps.specs.Kept.{Kept, jumps_with, kept_at}
use Rattle.last_jumps.proofs.OneMore.{with_next}
use Rattle.last_jumps.proofs.last_jumps.LastJumps.jumps.Goals as goal

pub returns : goal.returns
returns c =
    let core = c.args.core in
    let next = c.args.next in
    let steps = c.self.inside.told.steps in
    let kept : jumps_with next (kept_at c.self.inside.cores.items core) ≡ last_jumps core c.args.self.now next
    = ap (λ (k : Kept). jumps_with next k) (c.self.invariant core) ∙ with_next (executed_by core steps) next ∙ ap (λ (s : List Step). last_jumps core s next) c.self.view_is in
    subst (λ (all : List Jump). IfOk c.jumps_at.result (λ jumps. jumps.items ≡ all)) kept c.jumps_at.ensures
