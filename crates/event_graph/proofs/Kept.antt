-- What a step of a component keeps of the components, a weave keeps.
use Rattle.std.proofs.Common.{◌≡◌, ℕ, zero, suc, List, set, Option, Some, None, refl}
use Rattle.std.specs.Prelude.{slice_get}
use Rattle.component.specs.declared.kind.Kind.{Kind}
use Rattle.event_graph.specs.declared.event.Event.{Event}
use Rattle.event_graph.specs.OneListWeave.{Weave, after_firings, fire, fire_least, least_ready, served}

module _ {C : Type 0} (stepped : C → Kind → ℕ → C × ℕ) (P : List C → Type 0)
    (keeps : (comps : List C) (number : ℕ) (c : C) (kind : Kind) (start : ℕ) → P comps → slice_get comps number ≡ Some c → P (set comps number (stepped c kind start).0)) where
  served_keeps : (w : Weave C) → P w.comps → (e : Event) (start : ℕ) (o : Option C) → slice_get w.comps e.component ≡ o → P (served stepped w e start o).comps
  served_keeps w h e start None is = h
  served_keeps w h e start (Some c) is = keeps w.comps e.component c e.kind start h is

  fire_keeps : (w : Weave C) → P w.comps → (o : Option (Event × ℕ)) → P (fire stepped w o).comps
  fire_keeps w h None = h
  fire_keeps w h (Some next) = served_keeps w h next.0 next.1 (slice_get w.comps next.0.component) refl

  fire_least_keeps : (events : List Event) (w : Weave C) → P w.comps → P (fire_least stepped events w).comps
  unfolding fire_least
  fire_least_keeps events w h = fire_keeps w h (least_ready w.fired events)

  pub after_keeps : (events : List Event) (comps : List C) → P comps → (firings : ℕ) → P (after_firings stepped events comps firings).comps
  unfolding after_firings
  after_keeps events comps h zero = h
  after_keeps events comps h (suc firings) = fire_least_keeps events (after_firings stepped events comps firings) (after_keeps events comps h firings)
