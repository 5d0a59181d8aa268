-- By the definitions alone.
use Rattle.weave_core.proofs.FollowLaws.{looks_follow as holds}
use Rattle.weave_core.proofs.laws.looks_follow.Goals as goal

pub returns : goal.returns
returns g c = holds g.C.Component.stepped
