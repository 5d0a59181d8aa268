use Rattle.access_log.proofs.Sorted.{sorted_keeps}
use Rattle.access_log.proofs.laws.recorded_order_keeps_the_stamps.Goals as goal

pub returns : goal.returns
returns c banks cores entries some known stamped = sorted_keeps banks cores entries some known stamped
