-- By the laws of a domain that keeps to the weave.
use Rattle.weave_run.proofs.Running.{can_fire, has_fired}
use Rattle.weave_run.proofs.run.fire.Goals as goal

pub fire-requires : goal.fire-requires
fire-requires g c =
    can_fire g.C.Component.serves g.C.Component.floor g.C.Component.stepped g.C.Component.greatest c.domains_keep_to_the_weave.ensures c.args.plan.now c.requires.can c.args.domain.now c.requires.kept
    c.requires.may.0 c.requires.may.1

pub returns : goal.returns
returns g c =
    has_fired g.C.Component.serves g.C.Component.floor g.C.Component.stepped g.C.Component.greatest c.domains_keep_to_the_weave.ensures c.args.plan.now c.requires.can c.args.domain.now _ _ c.requires.kept
    c.requires.may.0 c.requires.may.1 c.fire.ensures
