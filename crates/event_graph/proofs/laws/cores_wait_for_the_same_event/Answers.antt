-- It is the critical event of the core with the greatest number.
use Rattle.event_graph.proofs.LastByCore.{last_same, last_stands}
use Rattle.event_graph.proofs.laws.cores_wait_for_the_same_event.Goals as goal

pub returns-clause-there : goal.returns-clause-there
returns-clause-there c = λ core events e numbered is. last_stands core events e numbered is

pub returns-clause-same : goal.returns-clause-same
returns-clause-same c = λ core to events others numbered other_numbers re. last_same core to events others numbered other_numbers re
