use Rattle.std.proofs.Common.{◌≡◌, ℕ, subst, arith}
use Rattle.component.specs.Components.{IsControllerOf}
use Rattle.component.specs.Gained.{Gains}
use Rattle.component.proofs.Gathered.{none_gained, one_more}
use Rattle.component.proofs.fresh.add_controllers.Goals as goal

pub loop-controller-init : goal.loop-controller-init
loop-controller-init c = none_gained (IsControllerOf c.args.machine.now) c.args.list.now.items

pub loop-controller-preserved : goal.loop-controller-preserved
loop-controller-preserved c =
    rw c.in_ok-push.ensures.items (one_more (IsControllerOf c.args.machine.now) c.args.list.now.items c.loop-controller._controller c.loop-controller.list.items c.controller_of.result c.loop-controller.invariant c.controller_of.ensures.controller c.controller_of.ensures.free c.controller_of.ensures.closed)

pub returns : goal.returns
returns c =
    let machine = c.args.machine.now in
    let all : c.loop-controller._controller ≡ machine.controllers.count = omega (arith, c.loop-controller-test.false, c.loop-controller.auto) in
    subst (λ (n : ℕ). Gains (IsControllerOf machine) n c.args.list.now.items c.loop-controller.list.items) all c.loop-controller.invariant
