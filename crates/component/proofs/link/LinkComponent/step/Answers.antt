use Rattle.component.proofs.SameState.{link_with_free}
use Rattle.component.proofs.link.LinkComponent.step.Goals as goal

pub returns : goal.returns
returns c =
    rw (c.max-served.ensures, c.floor-latency.ensures) (link_with_free c.args.self.now c.args.kind c.args.start _)
