-- The events of a component, and what serving them makes of it.
use Rattle.std.specs.Prelude.{◌==◌, ℕ, List}
use Rattle.std.specs.List.{filter, fold}
use Rattle.component.specs.declared.kind.Kind.{Kind}
use Rattle.event_graph.specs.OneListWeave.{FiredEvent}

-- those of the component of this number
abbrev pub of_component : ℕ → List FiredEvent → List FiredEvent
of_component number xs = filter (λ x. x.event.component == number) xs

-- the component after it served these, one after the other
abbrev pub after_serving : {C : Type 0} → (stepped : C → Kind → ℕ → C × ℕ) → C → List FiredEvent → C
after_serving stepped c xs = fold (λ before x. (stepped before x.event.kind x.start).0) c xs
