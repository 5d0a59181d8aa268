-- That components that have the floors of an expansion serve its events.
use Rattle.std.proofs.Common.{◌+◌, ℕ, Bool, List, Option, ap}
use Rattle.zs_num.specs.declared.entry.Entry.{Entry}
use Rattle.component.specs.declared.kind.Kind.{Kind}
use Rattle.event_graph.specs.declared.piece.Piece.{Piece}
use Rattle.event_graph.specs.Fits.{EventFits, GraphFits}
use Rattle.event_graph.specs.Expansion.{HaveFloors}
use Rattle.event_graph.specs.FloorsServed.{AreFloorsOf}
use Rattle.event_graph.specs.EventGraph.{all_events}
use Rattle.event_graph.proofs.AllEvents.{every}

module _ (pieces : Entry → List Piece) (floors : ℕ → Kind → Option ℕ) (have : (e : Entry) → HaveFloors floors (pieces e)) where
  pub floors_fit : {C : Type 0} (serves : C → Kind → Bool) (floor : C → Kind → ℕ) (comps : List C) → AreFloorsOf floors serves floor comps
      → (entries : List Entry) → GraphFits serves floor (all_events pieces entries) comps
  floors_fit serves floor comps truth entries =
      every pieces (EventFits serves floor comps)
      (λ before e k p is.
      let found = truth p.component p.kind p.time (have e k p is) in
      record { component = found.component; there = found.there; served = found.served; floor_is = ap (λ (n : ℕ). e.start + p.offset + n) found.floor_is })
      entries
