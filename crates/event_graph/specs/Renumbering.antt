-- The same events under other numbers.
use Rattle.std.specs.Prelude.{◌≡◌, ◌<◌, ℕ, List, length, Option, Some, slice_get}
use Rattle.std.specs.List.{Contains}
use Rattle.std.specs.Option.{option_map}
use Rattle.event_graph.specs.declared.event.Event.{Event}
use Rattle.event_graph.specs.declared.event.Parent.{Parent}
use Rattle.event_graph.specs.OneListWeave.{FiredEvent}

abbrev pub renumbered_parent : (to : ℕ → ℕ) → Option Parent → Option Parent
renumbered_parent to parent = option_map (λ p. record { number = to p.number; delay = p.delay }) parent

-- the event whose number, and whose parents' numbers, are others
abbrev pub renumbered : (to : ℕ → ℕ) → Event → Event
renumbered to e = record e { number = to e.number; first = renumbered_parent to e.first; second = renumbered_parent to e.second }

-- as it fired
abbrev pub renumbered_fired : (to : ℕ → ℕ) → FiredEvent → FiredEvent
renumbered_fired to x = record x { event = renumbered to x.event }

-- each of the events is among the others under its other number, and no other is there
pub record AreRenumbered (to : ℕ → ℕ) (events others : List Event) : Type 0 where
  pub apart : (i j : ℕ) → i < length events → j < length events → to i ≡ to j → i ≡ j
  pub there : (e : Event) → Contains events e → Contains others (renumbered to e)
  pub no_other : (o : Event) → Contains others o → (e : Event) × (Contains events e × (o ≡ renumbered to e))

-- Of two events of one component that start in the same cycle, both numberings put the same one first.
abbrev pub AreAlikeAtTies : (to : ℕ → ℕ) → List FiredEvent → Type 0
AreAlikeAtTies to timed = (x y : FiredEvent) → Contains timed x → Contains timed y → x.event.component ≡ y.event.component → x.start ≡ y.start
    → x.event.number < y.event.number → to x.event.number < to y.event.number

-- The events of these, which stand in order of number, have the same times under their other numbers.
abbrev pub HaveTheTimesOf : (to : ℕ → ℕ) → (timed others : List FiredEvent) → Type 0
HaveTheTimesOf to timed others = (i : ℕ) (x : FiredEvent) → slice_get timed i ≡ Some x → slice_get others (to i) ≡ Some (renumbered_fired to x)
