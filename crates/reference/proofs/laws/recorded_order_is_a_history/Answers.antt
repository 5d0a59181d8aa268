use Rattle.reference.proofs.IntervalHistory.{recorded_history}
use Rattle.reference.proofs.laws.recorded_order_is_a_history.Goals as goal

pub returns : goal.returns
returns c time image end cores shards entries history =
    recorded_history time image end cores shards c.recorded_order_keeps_the_stamps.ensures entries history
