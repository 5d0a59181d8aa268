-- The event is the domain's, and was unfired.
use Rattle.weave_run.proofs.Postings.{event_below, fired_there, may_publish}
use Rattle.weave_run.proofs.post.fire_and_publish.Goals as goal

pub publish_all-requires-clause-there : goal.publish_all-requires-clause-there
publish_all-requires-clause-there g c =
    event_below g.C.Component.serves g.C.Component.floor g.C.Component.stepped g.C.Component.greatest c.domains_keep_to_the_weave.ensures c.args.plan.now c.requires.can c.args.crossings.now c.args.post.now c.requires.post c.fire-fired.new.domain
    c.fire-fired.result c.fire-fired.ensures

pub publish_all-requires-clause-may : goal.publish_all-requires-clause-may
publish_all-requires-clause-may g c =
    may_publish g.C.Component.serves g.C.Component.floor g.C.Component.stepped g.C.Component.greatest c.domains_keep_to_the_weave.ensures c.args.plan.now c.requires.can c.args.crossings.now c.args.post.now c.requires.post c.fire-fired.new.domain
    c.fire-fired.result c.fire-fired.ensures

pub returns : goal.returns
returns g c =
    fired_there g.C.Component.serves g.C.Component.floor g.C.Component.stepped g.C.Component.greatest c.domains_keep_to_the_weave.ensures c.args.plan.now c.requires.can c.args.crossings.now c.args.post.now c.requires.post c.fire-fired.new.domain
    c.fire-fired.result c.fire-fired.ensures c.publish_all.new.seat c.publish_all.ensures
