-- What is used of the events of accesses.
use Rattle.std.specs.Prelude.{◌≡◌, ◌+◌, ℕ, List, length, Some, slice_get}
use Rattle.zs_num.specs.declared.entry.Entry.{Entry}
use Rattle.event_graph.specs.declared.event.Event.{Event}
use Rattle.event_graph.specs.declared.piece.Piece.{Piece}
use Rattle.event_graph.specs.Critical.{last_critical}
use Rattle.event_graph.specs.EventGraph.{all_events, event_at}
use Rattle.event_graph.specs.Numbered.{IsNumbered}
use Rattle.event_graph.specs.PlacedEvents.{IsEventOf, IsOfSameCore, events_before, first_number}

pub record ArePlaced (pieces : Entry → List Piece) (entries : List Entry) : Type 0 where
  pub numbered : IsNumbered (all_events pieces entries)
  pub there : (a : ℕ) (e : Entry) (k : ℕ) (p : Piece) → slice_get entries a ≡ Some e → slice_get (pieces e) k ≡ Some p
      → slice_get (all_events pieces entries) (first_number pieces entries a + k) ≡ Some (event_at (events_before pieces entries a) e (pieces e) k p)
  pub next : (a : ℕ) (e : Entry) → slice_get entries a ≡ Some e → first_number pieces entries (a + 1) ≡ first_number pieces entries a + length (pieces e)
  pub each : (number : ℕ) (e : Event) → slice_get (all_events pieces entries) number ≡ Some e → IsEventOf pieces entries number e
  pub parents : (number : ℕ) (e : Event) → slice_get (all_events pieces entries) number ≡ Some e → IsOfSameCore pieces entries e e.first × IsOfSameCore pieces entries e e.second
  pub last : (core a : ℕ) (e : Event) → last_critical core (events_before pieces entries a) ≡ Some e
      → (slice_get (events_before pieces entries a) e.number ≡ Some e) × ((slice_get (all_events pieces entries) e.number ≡ Some e) × (e.core ≡ core))
  pub ends : (a : ℕ) (e : Entry) (k : ℕ) (p : Piece) → slice_get entries a ≡ Some e → slice_get (pieces e) k ≡ Some p → k + 1 ≡ length (pieces e)
      → last_critical e.core (events_before pieces entries (a + 1)) ≡ Some (event_at (events_before pieces entries a) e (pieces e) k p)
