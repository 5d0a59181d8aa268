-- How events fire: the next one, a firing of the weave, and what is known of the events so far.
use Rattle.std.specs.Prelude.{◌≡◌, ◌<◌, ◌⊎◌, ◌++◌, ◌∷◌, [], ℕ, Bool, IsTrue, List, Some, slice_get, slice_set}
use Rattle.std.specs.List.{Contains}
use Rattle.component.specs.declared.kind.Kind.{Kind}
use Rattle.event_graph.specs.declared.event.Event.{Event}
use Rattle.event_graph.specs.declared.fired.Fired.{Fired}
use Rattle.event_graph.specs.OneListWeave.{FiredEvent, Weave, finish_in, is_event_before, is_parent_fired, is_ready, start_of}

-- where these fired, x is ready, starts by the start rule, and comes before each other ready event
pub record IsNext (fired : List FiredEvent) (events : List Event) (x : FiredEvent) : Type 0 where
  pub event : Contains events x.event
  pub ready : IsTrue (is_ready fired x.event)
  pub start : x.start ≡ start_of (finish_in fired) x.event
  pub first : (y : Event) → Contains events y → IsTrue (is_ready fired y) → (y ≡ x.event) ⊎ IsTrue (is_event_before x.event x.start y (start_of (finish_in fired) y))

-- a firing: x fires next, and its component c serves it
pub record FiresNext {C : Type 0} (serves : C → Kind → Bool) (stepped : C → Kind → ℕ → C × ℕ) (events : List Event) (before after : Weave C) (x : FiredEvent) (c : C) : Type 0 where
  pub next : IsNext before.fired events x
  pub there : slice_get before.comps x.event.component ≡ Some c
  pub served : IsTrue (serves c x.event.kind)
  pub finish : x.finish ≡ (stepped c x.event.kind x.start).1
  pub fired : after.fired ≡ before.fired ++ x ∷ []
  pub comps : after.comps ≡ slice_set before.comps x.event.component (stepped c x.event.kind x.start).0

-- an event of the graph, whose parents are among these and give it its start, and which takes time
pub record FiredByTheRules (events : List Event) (fired : List FiredEvent) (x : FiredEvent) : Type 0 where
  pub event : Contains events x.event
  pub first : IsTrue (is_parent_fired fired x.event.first)
  pub second : IsTrue (is_parent_fired fired x.event.second)
  pub start : x.start ≡ start_of (finish_in fired) x.event
  pub later : x.start < x.finish

-- an event as these leave it: no earlier than what fired allows, and its finish, which is 0 until it fires
abbrev pub time_so_far : List FiredEvent → Event → Fired
time_so_far fired e = record { number = e.number; start = start_of (finish_in fired) e; finish = finish_in fired e.number }
