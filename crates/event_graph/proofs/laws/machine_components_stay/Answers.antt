-- By the law of one step.
use Rattle.std.proofs.Common.{length}
use Rattle.component.specs.ComponentStep.{comp_step}
use Rattle.component.specs.Components.{AreComponents}
use Rattle.event_graph.proofs.Kept.{after_keeps}
use Rattle.event_graph.proofs.laws.machine_components_stay.Goals as goal

pub returns : goal.returns
returns c = λ m comps events are. after_keeps comp_step (AreComponents m) (c.components_stay.ensures m) events comps are (length events)
