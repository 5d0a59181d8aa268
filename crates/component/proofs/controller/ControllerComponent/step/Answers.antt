use Rattle.component.proofs.SameState.{controller_with_free}
use Rattle.component.proofs.controller.ControllerComponent.step.Goals as goal

pub returns : goal.returns
returns c =
    rw (c.max-served.ensures, c.floor-latency.ensures) (controller_with_free c.args.self.now c.args.kind c.args.start _ _)
