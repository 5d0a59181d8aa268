use Rattle.reference.proofs.IntervalHistory.{phase_history}
use Rattle.reference.proofs.laws.phases_are_histories.Goals as goal

pub returns : goal.returns
returns c time image end cores shards numbers s some begins phase = phase_history time image end cores shards numbers s some begins phase
