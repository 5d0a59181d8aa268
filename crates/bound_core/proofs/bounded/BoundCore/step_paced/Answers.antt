use Rattle.std.proofs.Common.{ap, arith}
use Rattle.bound_core.specs.NumberedCores.{NumberedCore}
use Rattle.reference.proofs.Instructions.{paced_grows, paced_soon}
use Rattle.bound_core.proofs.bounded.BoundCore.step_paced.Goals as goal

pub invariant_of-self : goal.invariant_of-self
invariant_of-self g c =
    let was = c.self.inside in
    let did = c.behind-self-inside.ensures in
    let grows = paced_grows was.pace c.upcoming-upcoming.result c.pc-pc.result c.takes-taken.result was.clock in
    let behind = paced_soon was.pace 1 c.upcoming-upcoming.result c.pc-pc.result c.takes-taken.result was.clock (omega arith) c.self.invariant.1 in
    (omega (arith, c.self.invariant.0, did.clock, grows), rw (did.pace, did.clock) behind.soon)

pub returns-then-is_counted-clause-within : goal.returns-then-is_counted-clause-within
returns-then-is_counted-clause-within g c =
    let was = c.self.inside in
    let behind = paced_soon was.pace 1 c.upcoming-upcoming.result c.pc-pc.result c.takes-taken.result was.clock (omega arith) c.self.invariant.1 in
    omega (arith, c.behind-self-inside.ensures.clock, behind.within, ap (λ (n : NumberedCore). n.timed.clock) c.self.view_is)
