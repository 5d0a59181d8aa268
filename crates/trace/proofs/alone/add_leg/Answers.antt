use Rattle.std.proofs.Common.{false, refl, ◌∙◌, ap}
use Rattle.rv_core.specs.declared.leg.Leg.{Leg}
use Rattle.trace.specs.EachCore.{untold_steps}
use Rattle.trace.proofs.Untold.{leg_behind}
use Rattle.trace.proofs.alone.add_leg.Goals as goal

pub returns-clause-tells : goal.returns-clause-tells
returns-clause-tells c = λ number.
    let leg : Leg = record { pc = c.args.pc; count = c.args.count; made = false } in
    ap (untold_steps number) c.in_ok-push.ensures.items ∙ leg_behind number c.args.way.now.items leg refl
