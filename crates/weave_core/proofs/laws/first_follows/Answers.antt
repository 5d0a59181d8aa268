-- By the definitions alone.
use Rattle.weave_core.proofs.FollowLaws.{first_follows as holds}
use Rattle.weave_core.proofs.laws.first_follows.Goals as goal

pub returns : goal.returns
returns g c = holds g.C.Component.stepped
