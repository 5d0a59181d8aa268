-- The one-list weave: while an event is unfired, of the events whose parents are fired the one with the least (start,
-- number) fires.
use Rattle.std.specs.Prelude.{◌+◌, ◌==◌, ◌&&◌, ◌||◌, ℕ, zero, suc, max, Bool, true, not, cond, nat_lt, List, [], ◌∷◌, ◌++◌, map, length, slice_get, slice_set, Option, Some, None, is_some}
use Rattle.std.specs.List.{find}
use Rattle.component.specs.declared.kind.Kind.{Kind}
use Rattle.event_graph.specs.declared.event.Event.{Event}
use Rattle.event_graph.specs.declared.event.Parent.{Parent}
use Rattle.event_graph.specs.declared.fired.Fired.{Fired}

-- an event with its start and its finish
pub record FiredEvent : Type 0 where
  pub event : Event
  pub start : ℕ
  pub finish : ℕ

-- the lesser start first, and at a tie the lesser number
abbrev pub is_event_before : Event → ℕ → Event → ℕ → Bool
is_event_before e start other other_start = nat_lt start other_start || (start == other_start && nat_lt e.number other.number)

-- The start rule.

-- the finish of a parent and its delay
abbrev pub after_parent : (ℕ → ℕ) → Option Parent → ℕ
after_parent finish None = 0
after_parent finish (Some p) = finish p.number + p.delay

-- no earlier than `min_start`, and than each parent's finish and its delay
abbrev pub start_of : (ℕ → ℕ) → Event → ℕ
start_of finish e = max e.min_start (max (after_parent finish e.first) (after_parent finish e.second))

-- What is known of the events that fired.

abbrev pub find_fired : List FiredEvent → ℕ → Option FiredEvent
find_fired fired number = find (λ x. x.event.number == number) fired

abbrev pub finish_or_zero : Option FiredEvent → ℕ
finish_or_zero None = 0
finish_or_zero (Some x) = x.finish

-- the finish of the event of this number
abbrev pub finish_in : List FiredEvent → ℕ → ℕ
finish_in fired number = finish_or_zero (find_fired fired number)

abbrev pub is_fired : List FiredEvent → ℕ → Bool
is_fired fired number = is_some (find_fired fired number)

abbrev pub is_parent_fired : List FiredEvent → Option Parent → Bool
is_parent_fired fired None = true
is_parent_fired fired (Some p) = is_fired fired p.number

-- unfired, with its parents fired
abbrev pub is_ready : List FiredEvent → Event → Bool
is_ready fired e = not (is_fired fired e.number) && (is_parent_fired fired e.first && is_parent_fired fired e.second)

-- the earlier of an event at its start and another one
abbrev pub earlier : Event × ℕ → Option (Event × ℕ) → Event × ℕ
earlier a None = a
earlier a (Some b) = cond (is_event_before b.0 b.1 a.0 a.1) b a

-- the ready event with the least (start, number), and its start
abbrev pub least_ready : List FiredEvent → List Event → Option (Event × ℕ)
least_ready fired [] = None
least_ready fired (e ∷ es) =
    cond (is_ready fired e) (Some (earlier (e, start_of (finish_in fired) e) (least_ready fired es))) (least_ready fired es)

-- what is known of an event

abbrev pub fired_or_unfired : Event → Option FiredEvent → FiredEvent
fired_or_unfired e None = record { event = e; start = 0; finish = 0 }
fired_or_unfired e (Some x) = x

abbrev pub fired_event_in : List FiredEvent → Event → FiredEvent
fired_event_in fired e = fired_or_unfired e (find_fired fired e.number)

-- The firings of the weave.

-- the events that fired, in the order in which they did, and the components
pub record Weave (C : Type 0) : Type 0 where
  pub fired : List FiredEvent
  pub comps : List C

module _ {C : Type 0} (stepped : C → Kind → ℕ → C × ℕ) where
  -- after the event's component served it from this start
  abbrev pub served : Weave C → Event → ℕ → Option C → Weave C
  served w e start None = w
  served w e start (Some c) = record {
    fired = w.fired ++ (record { event = e; start = start; finish = (stepped c e.kind start).1 }) ∷ [];
    comps = slice_set w.comps e.component (stepped c e.kind start).0;
  }

  abbrev pub fire : Weave C → Option (Event × ℕ) → Weave C
  fire w None = w
  fire w (Some next) = served w next.0 next.1 (slice_get w.comps next.0.component)

  -- the least ready event fires
  unfoldable pub fire_least : List Event → Weave C → Weave C
  fire_least events w = fire w (least_ready w.fired events)

  -- after so many firings
  unfoldable pub after_firings : List Event → List C → ℕ → Weave C
  after_firings events comps zero = record { fired = []; comps = comps }
  after_firings events comps (suc firings) = fire_least events (after_firings events comps firings)

  -- after as many firings as there are events
  abbrev pub weave : List Event → List C → Weave C
  weave events comps = after_firings events comps (length events)

  -- What the weave answers: each event with its start and finish, in order of number, and the components after.

  unfoldable pub woven : List Event → List C → List FiredEvent
  woven events comps = map (fired_event_in (weave events comps).fired) events

  abbrev pub comps_after : List Event → List C → List C
  comps_after events comps = (weave events comps).comps

-- an event's number, start and finish
abbrev pub fired_of : FiredEvent → Fired
fired_of x = record { number = x.event.number; start = x.start; finish = x.finish }
