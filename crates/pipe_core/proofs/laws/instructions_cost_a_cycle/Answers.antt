use Rattle.pipe_core.proofs.Soon.{costs_a_cycle}
use Rattle.pipe_core.proofs.laws.instructions_cost_a_cycle.Goals as goal

pub returns : goal.returns
returns c = costs_a_cycle
