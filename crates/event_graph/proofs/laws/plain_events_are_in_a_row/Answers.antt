-- By the outcome.
use Rattle.event_graph.specs.AccessPaths.{head_time}
use Rattle.event_graph.specs.Timing.{bank_component, controller_component}
use Rattle.event_graph.proofs.MadeOfPieces.{plain_row}
use Rattle.event_graph.proofs.laws.plain_events_are_in_a_row.Goals as goal

pub returns : goal.returns
returns c = λ path e. plain_row (head_time path e.request) path.l2 path.controllers (bank_component path.l2 e) (controller_component path.l2 path.controllers e) e.outcome
