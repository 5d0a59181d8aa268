use Rattle.event_graph.proofs.CriticalSteps.{last_critical-more}
use Rattle.event_graph.proofs.laws.the_last_critical_event_moves_on.Goals as goal

pub returns : goal.returns
returns c = λ core events index e below. last_critical-more core events index e below
