-- The event that may fire is the domain's next in the solution.
use Rattle.weave_core.proofs.FollowLaws.{fires_follow as holds}
use Rattle.weave_core.proofs.laws.fires_follow.Goals as goal

pub returns : goal.returns
returns g c = holds g.C.Component.serves g.C.Component.floor g.C.Component.stepped c.sound_domains_follow.ensures
