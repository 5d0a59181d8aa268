-- An events file as it grows.
use Rattle.std.specs.Prelude.{◌≡◌, ℕ, List, ◌++◌, length, map}
use Rattle.std.specs.List.{flat_map}
use Rattle.event_graph.specs.declared.event.Event.{Event}
use Rattle.event_graph.specs.declared.fired.Fired.{Fired}
use Rattle.event_graph.specs.OneListWeave.{FiredEvent}
use Rattle.certify.specs.EventsFile.{header_bytes, interval_bytes}

-- for how many components it is, how many intervals it has, and what stands behind the header
pub record EventsSoFar : Type 0 where
  pub components : ℕ
  pub count : ℕ
  pub body : List ℕ

-- the bytes of such a file
abbrev pub file_bytes : EventsSoFar → List ℕ
file_bytes s = header_bytes s.components s.count ++ s.body

-- the file that was given these intervals
abbrev pub events_so_far : (components : ℕ) → List (List FiredEvent) → EventsSoFar
events_so_far components intervals = record { components = components; count = length intervals; body = flat_map interval_bytes intervals }

-- each event fired once, and the list has them in order of number
abbrev pub AreFiringsOf : List Event → List Fired → Type 0
AreFiringsOf events fired = map (λ f. f.number) fired ≡ map (λ e. e.number) events
