-- When a graph fits components.
use Rattle.std.specs.Prelude.{◌≡◌, ◌+◌, ℕ, Bool, IsTrue, List, slice_get, Some}
use Rattle.component.specs.declared.kind.Kind.{Kind}
use Rattle.event_graph.specs.declared.event.Event.{Event}

-- The event's component is there, serves the event's kind, and takes at least from `min_start` to `min_finish` for it:
-- that is its floor.
pub record EventFits {C : Type 0} (serves : C → Kind → Bool) (floor : C → Kind → ℕ) (comps : List C) (e : Event) : Type 0 where
  pub component : C
  pub there : slice_get comps e.component ≡ Some component
  pub served : IsTrue (serves component e.kind)
  pub floor_is : e.min_start + floor component e.kind ≡ e.min_finish

-- each event fits
abbrev pub GraphFits : {C : Type 0} → (C → Kind → Bool) → (C → Kind → ℕ) → List Event → List C → Type 0
GraphFits serves floor events comps = (i : ℕ) (e : Event) → slice_get events i ≡ Some e → EventFits serves floor comps e
