-- That no sum of the one-list weave passes its type: the greatest sum of each step is at most 2^62.
use Rattle.std.specs.Prelude.{◌≤◌, ◌^◌, ℕ, List, slice_get, Option, IfSome}
use Rattle.component.specs.declared.kind.Kind.{Kind}
use Rattle.event_graph.specs.declared.event.Event.{Event}
use Rattle.event_graph.specs.OneListWeave.{least_ready, Weave, after_firings}

module _ {C : Type 0} (stepped : C → Kind → ℕ → C × ℕ) where
  abbrev pub IsSmallStep : (C → Kind → ℕ → ℕ) → Weave C → Option (Event × ℕ) → Type 0
  IsSmallStep greatest w next = IfSome next (λ x. IfSome (slice_get w.comps x.0.component) (λ c. greatest c x.0.kind x.1 ≤ 2 ^ 62))

  abbrev pub AreSmallSteps : (C → Kind → ℕ → ℕ) → List Event → List C → Type 0
  AreSmallSteps greatest events comps =
      (firings : ℕ) → IsSmallStep greatest (after_firings stepped events comps firings) (least_ready (after_firings stepped events comps firings).fired events)
