use Rattle.access_log.proofs.Order.{recorded_sorts}
use Rattle.access_log.proofs.laws.recorded_order_sorts.Goals as goal

pub returns : goal.returns
returns c entries = recorded_sorts entries
