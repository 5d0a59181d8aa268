-- What the finishes so far tell of the events that haven't fired, also while only a part of the children has been told.
use Rattle.std.specs.Prelude.{◌+◌, ◌==◌, ℕ, Bool, cond, max, List, map, slice_index_or, Option, Some, None}
use Rattle.event_graph.specs.declared.event.Event.{Event}
use Rattle.event_graph.specs.declared.event.Parent.{Parent}
use Rattle.event_graph.specs.declared.fired.Fired.{Fired}
use Rattle.event_graph.specs.OneListWeave.{after_parent}
use Rattle.weave_seq.specs.declared.children.ParentSlot.{ParentSlot}
use Rattle.weave_seq.specs.declared.children.ParentSlot.TheVariants.{First, Second}
use Rattle.weave_seq.specs.SoFar.{SoFar}

-- the finish of an event is 0 until it fires: no finish of one that fired is
abbrev pub finish_at : List Fired → ℕ → ℕ
finish_at times number = (slice_index_or times number (record { number = 0; start = 0; finish = 0 })).finish

-- 1 for a parent that hasn't fired
abbrev pub unfired_parent : (ℕ → ℕ) → Option Parent → ℕ
unfired_parent finish None = 0
unfired_parent finish (Some p) = cond (finish p.number == 0) 1 0

-- an event of which the finishes `first` are known for its first parent and `second` for its second one
module _ (first second finish : ℕ → ℕ) where
  abbrev pub known_time : Event → Fired
  known_time e = record {
    number = e.number;
    start = max e.min_start (max (after_parent first e.first) (after_parent second e.second));
    finish = finish e.number;
  }

  abbrev pub known_waits : Event → ℕ
  known_waits e = cond (finish e.number == 0) (unfired_parent first e.first + unfired_parent second e.second) 255

  abbrev pub known : List Event → SoFar
  known events = record { times = map known_time events; waits = map known_waits events }

-- the finishes before this event fired
abbrev pub before_firing : ℕ → (ℕ → ℕ) → ℕ → ℕ
before_firing of finish number = cond (number == of) 0 (finish number)

-- the children that have the event in their first slot are told before those that have it in their second
abbrev pub known_to_first : ParentSlot → Bool → ℕ → (ℕ → ℕ) → ℕ → ℕ
known_to_first First told of finish = cond told finish (before_firing of finish)
known_to_first Second told of finish = finish

abbrev pub known_to_second : ParentSlot → Bool → ℕ → (ℕ → ℕ) → ℕ → ℕ
known_to_second First told of finish = before_firing of finish
known_to_second Second told of finish = cond told finish (before_firing of finish)

-- what is known before and after the children that have the event in this slot are told
abbrev pub told_to : ParentSlot → Bool → ℕ → (ℕ → ℕ) → List Event → SoFar
told_to slot told of finish events = known (known_to_first slot told of finish) (known_to_second slot told of finish) finish events

-- what is known where these finishes are known to all
abbrev pub known_to_all : (ℕ → ℕ) → List Event → SoFar
known_to_all finish events = known finish finish finish events
