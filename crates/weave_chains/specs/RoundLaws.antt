-- What the rounds of the weave rest on.
use Rattle.std.specs.Prelude.{◌≡◌, ◌+◌, ◌<◌, ◌≤◌, ◌^◌, ℕ, suc, Bool, true, List, All, Some, length, map, slice_get, take, IsPermutation}
use Rattle.std.specs.List.{Contains}
use Rattle.component.specs.declared.kind.Kind.{Kind}
use Rattle.zs_num.specs.declared.entry.Entry.{Entry}
use Rattle.event_graph.specs.declared.event.Event.{Event}
use Rattle.event_graph.specs.declared.piece.Piece.{Piece}
use Rattle.event_graph.specs.EventGraph.{all_events}
use Rattle.event_graph.specs.Expansion.{ParentsComeBefore}
use Rattle.event_graph.specs.Firing.{FiresNext}
use Rattle.event_graph.specs.Fits.{GraphFits}
use Rattle.event_graph.specs.InARow.{AreInARow}
use Rattle.event_graph.specs.Numbered.{IsNumbered}
use Rattle.event_graph.specs.OneListWeave.{FiredEvent, after_firings, finish_in, is_fired, start_of, weave}
use Rattle.event_graph.specs.SmallSteps.{AreSmallSteps}
use Rattle.event_graph.specs.TimingSolution.{IsInOrder}
use Rattle.weave_chains.specs.GraphFacts.{ArePlaced}

pub record RoundLaws {C : Type 0} (serves : C → Kind → Bool) (floor : C → Kind → ℕ) (stepped : C → Kind → ℕ → C × ℕ) (greatest : C → Kind → ℕ → ℕ) (pieces : Entry → List Piece) : Type 0 where
  pub placed : (entries : List Entry) → ArePlaced pieces entries
  pub parents : (e : Entry) → ParentsComeBefore (pieces e)
  pub short : (e : Entry) (k : ℕ) (p : Piece) → slice_get (pieces e) k ≡ Some p → p.offset + p.time ≤ 2 ^ 20
  pub once : (events : List Event) (comps : List C) → IsNumbered events → GraphFits serves floor events comps
      → IsPermutation events (map (λ x. x.event) (weave stepped events comps).fired)
  pub sorted : (events : List Event) (comps : List C) → IsNumbered events → GraphFits serves floor events comps → IsInOrder (weave stepped events comps).fired
  pub prefix : (events : List Event) (comps : List C) (firings : ℕ) → IsNumbered events → GraphFits serves floor events comps
      → (after_firings stepped events comps firings).fired ≡ take firings (weave stepped events comps).fired
  pub next : (events : List Event) (comps : List C) (firings : ℕ) → IsNumbered events → GraphFits serves floor events comps → firings < length events
      → (x : FiredEvent) × (c : C) × FiresNext serves stepped events (after_firings stepped events comps firings) (after_firings stepped events comps (suc firings)) x c
  pub order : (entries : List Entry) (comps : List C) (firings : ℕ) (next : FiredEvent) (c : C) (d : Event) → ((access : Entry) → AreInARow (pieces access)) → GraphFits serves floor (all_events pieces entries) comps
      → FiresNext serves stepped (all_events pieces entries) (after_firings stepped (all_events pieces entries) comps firings) (after_firings stepped (all_events pieces entries) comps (suc firings)) next c
      → Contains (all_events pieces entries) d → d.core ≡ next.event.core → d.number < next.event.number
      → is_fired (after_firings stepped (all_events pieces entries) comps firings).fired d.number ≡ true
  pub starts : (events : List Event) (comps : List C) (firings : ℕ) → IsNumbered events → GraphFits serves floor events comps → AreSmallSteps stepped greatest events comps
      → All (λ e. start_of (finish_in (after_firings stepped events comps firings).fired) e ≤ 2 ^ 62) events
