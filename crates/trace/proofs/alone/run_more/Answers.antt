use Rattle.std.proofs.Common.{◌≡◌, false, ◌∙◌, ap}
use Rattle.bound_core.specs.NumberedCores.{NumberedCore}
use Rattle.trace.specs.EachCore.{untold_steps}
use Rattle.trace.proofs.AloneTold.{still_ran, still_told}
use Rattle.trace.proofs.alone.run_more.Goals as goal

pub returns-clause-same_end : goal.returns-clause-same_end
returns-clause-same_end c =
    let image = c.args.program.now in
    let core = c.run_stretch.new.core in
    let next = c.run_step.new.core in
    let on = c.in_ok-goes_on.goes_on in
    let did = c.in_ok-goes_on.ensures in
    let stays : on ≡ false → next.timed ≡ core.timed = λ off. ap (λ (x : NumberedCore). x.timed) (did.stays off) in
    still_ran image c.args.end 0 core.timed next.timed (untold_steps 0 c.run_stretch.new.way.items) (untold_steps 0 c.run_step.new.way.items) on did.goes_on did.next stays
    ∙ c.in_ok-run_stretch.ensures.same_end

pub returns-clause-tells : goal.returns-clause-tells
returns-clause-tells c = λ number.
    let image = c.args.program.now in
    let core = c.run_stretch.new.core in
    let next = c.run_step.new.core in
    let on = c.in_ok-goes_on.goes_on in
    let did = c.in_ok-goes_on.ensures in
    let stays : on ≡ false → next.timed ≡ core.timed = λ off. ap (λ (x : NumberedCore). x.timed) (did.stays off) in
    still_told image c.args.end number core.timed next.timed (untold_steps number c.run_stretch.new.way.items) (untold_steps number c.run_step.new.way.items) on did.goes_on did.next stays (did.tells number)
    ∙ c.in_ok-run_stretch.ensures.tells number
