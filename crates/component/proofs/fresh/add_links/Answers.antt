use Rattle.component.specs.declared.comp.Comp.TheVariants.{Link as ALink}
use Rattle.component.specs.Components.{IsLinkOf}
use Rattle.component.proofs.Gathered.{one_more}
use Rattle.component.proofs.fresh.add_links.Goals as goal

pub loop-link-preserved : goal.loop-link-preserved
loop-link-preserved c =
    let m = c.args.machine.now in
    rw c.in_ok-push.ensures.items (one_more (IsLinkOf m) c.args.list.now.items c.loop-link._link c.loop-link.list.items (ALink c.fresh_link.result) c.loop-link.invariant (rw c.in-Some.is c.fresh_link.ensures.times) c.fresh_link.ensures.free tt)
