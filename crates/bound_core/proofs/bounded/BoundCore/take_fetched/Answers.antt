use Rattle.std.proofs.Common.{◌≡◌, ap, refl, subst, sym}
use Rattle.bound_core.specs.NumberedCores.{NumberedCore}
use Rattle.reference.specs.TimedCore.{TimedCore, ran_to}
use Rattle.bound_core.proofs.FetchedNext.{fetched_is_next, taking}
use Rattle.bound_core.proofs.bounded.BoundCore.take_fetched.Goals as goal

pub returns-then-has_fetched_before-clause-same_end : goal.returns-then-has_fetched_before-clause-same_end
returns-then-has_fetched_before-clause-same_end g c =
    let image = g.P.Program.image c.args.program.now in
    let end = c.args.end in
    let now = c.args.self.now.timed in
    let asked = c.if-has_fetched_before.ensures in
    let next : ran_to image end (taking now) ≡ ran_to image end now = fetched_is_next image end now c.requires (asked.free refl) (asked.early refl) (asked.there refl) in
    rw c.begin_execution.ensures.value (subst (λ (t : TimedCore). ran_to image end (taking t) ≡ ran_to image end now) (sym (ap (λ (n : NumberedCore). n.timed) c.self.view_is)) next)
