-- What an events file has room for, and the graphs that it is for.
use Rattle.std.specs.Prelude.{◌≡◌, ◌<◌, ◌^◌, ℕ, List, All, length, map, Some}
use Rattle.component.specs.declared.comp.Comp.{Comp}
use Rattle.component.specs.Serving.{comp_latency, comp_serves}
use Rattle.event_graph.specs.declared.event.Parent.{Parent}
use Rattle.event_graph.specs.Fits.{GraphFits}
use Rattle.event_graph.specs.Numbered.{IsNumbered}
use Rattle.event_graph.specs.OneListWeave.{FiredEvent}
use Rattle.certify.specs.EventsFile.{bank_of, row_of}

-- cores and banks of 16 bits, rows of 64, and cycles and delays below 2^60
pub record CanBeWritten (x : FiredEvent) : Type 0 where
  pub core : x.event.core < 2 ^ 16
  pub bank : bank_of x.event.kind < 2 ^ 16
  pub row : row_of x.event.kind < 2 ^ 64
  pub min_start : x.event.min_start < 2 ^ 60
  pub start : x.start < 2 ^ 60
  pub finish : x.finish < 2 ^ 60
  pub first : (p : Parent) → x.event.first ≡ Some p → p.delay < 2 ^ 60
  pub second : (p : Parent) → x.event.second ≡ Some p → p.delay < 2 ^ 60

-- components whose numbers have 16 bits, and intervals and events whose numbers have 32
pub record CanBeFiled (components : ℕ) (intervals : List (List FiredEvent)) : Type 0 where
  pub narrow : components < 2 ^ 16
  pub few : length intervals < 2 ^ 32
  pub short : All (λ timed. length timed < 2 ^ 32) intervals
  pub each : All (λ timed. All CanBeWritten timed) intervals

-- the events of a graph that fits these components
pub record IsFitting (comps : List Comp) (timed : List FiredEvent) : Type 0 where
  pub numbered : IsNumbered (map (λ x. x.event) timed)
  pub fits : GraphFits comp_serves comp_latency (map (λ x. x.event) timed) comps
