-- Sorted by (start, number), the events of each component stand in its order.
use Rattle.event_graph.proofs.ByComponent.{is_solution}
use Rattle.event_graph.proofs.laws.an_order_on_each_component_suffices.Goals as goal

pub returns : goal.returns
returns g c = λ events comps timed numbered sol. is_solution g.C.Component.stepped events comps numbered timed sol
