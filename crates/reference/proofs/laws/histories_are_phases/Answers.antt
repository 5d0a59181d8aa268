use Rattle.reference.proofs.IntervalHistory.{history_phase}
use Rattle.reference.proofs.laws.histories_are_phases.Goals as goal

pub returns : goal.returns
returns c time image end cores shards entries history = history_phase time image end cores shards entries history
