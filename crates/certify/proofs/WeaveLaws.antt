-- What is used of the weave: its laws.
use Rattle.std.proofs.Common.{◌≡◌, ◌↔◌, ℕ, List, map}
use Rattle.std.specs.Prelude.{slice_get}
use Rattle.std.specs.List.Sorted.{IsPermutation}
use Rattle.std.specs.Option.{option_map}
use Rattle.component.specs.declared.comp.Comp.{Comp}
use Rattle.component.specs.ComponentStep.{comp_step}
use Rattle.component.specs.Serving.{comp_latency, comp_serves}
use Rattle.event_graph.specs.declared.event.Event.{Event}
use Rattle.event_graph.specs.Fits.{GraphFits}
use Rattle.event_graph.specs.Numbered.{IsNumbered}
use Rattle.event_graph.specs.OneListWeave.{FiredEvent, after_firings, weave, woven}
use Rattle.event_graph.specs.ServedEvents.{after_serving, of_component}
use Rattle.event_graph.specs.TimingSolution.{IsInOrder, IsSolution}

pub record WeaveLaws : Type 0 where
  pub one_solution : (events : List Event) (comps : List Comp) (timed : List FiredEvent) → IsNumbered events → GraphFits comp_serves comp_latency events comps
      → (IsSolution comp_step events comps timed ↔ (timed ≡ woven comp_step events comps))
  pub fires_in_order : (events : List Event) (comps : List Comp) → IsNumbered events → GraphFits comp_serves comp_latency events comps → IsInOrder (weave comp_step events comps).fired
  pub fires_once : (events : List Event) (comps : List Comp) → IsNumbered events → GraphFits comp_serves comp_latency events comps
      → IsPermutation events (map (λ x. x.event) (weave comp_step events comps).fired)
  pub own_events : (events : List Event) (comps : List Comp) (firings number : ℕ) → IsNumbered events → GraphFits comp_serves comp_latency events comps
      → slice_get (after_firings comp_step events comps firings).comps number
      ≡ option_map (λ c. after_serving comp_step c (of_component number (after_firings comp_step events comps firings).fired)) (slice_get comps number)
