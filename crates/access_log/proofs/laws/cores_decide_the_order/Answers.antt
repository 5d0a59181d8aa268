use Rattle.access_log.proofs.Decided.{cores_decide}
use Rattle.access_log.proofs.laws.cores_decide_the_order.Goals as goal

pub returns : goal.returns
returns c entries others rising same = cores_decide entries others rising same
