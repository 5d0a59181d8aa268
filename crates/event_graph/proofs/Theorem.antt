-- The weave is the one solution of the timing rules, for lawful components.
use Rattle.std.proofs.Common.{◌≡◌, ◌↔◌, ◌+◌, ◌≤◌, ℕ, Bool, List, sym, subst, arith}
use Rattle.std.specs.Prelude.{IsTrue, slice_get}
use Rattle.component.specs.declared.kind.Kind.{Kind}
use Rattle.event_graph.specs.declared.event.Event.{Event}
use Rattle.event_graph.specs.Fits.{EventFits, GraphFits}
use Rattle.event_graph.specs.Numbered.{IsNumbered}
use Rattle.event_graph.specs.OneListWeave.{FiredEvent, woven}
use Rattle.event_graph.specs.TimingSolution.{IsSolution}
use Rattle.event_graph.proofs.Lists.{In, in_at}
use Rattle.event_graph.proofs.BetweenFirings.{IsLawful, IsServed}
use Rattle.event_graph.proofs.Solves.{solves}
use Rattle.event_graph.proofs.Unique.{is_woven}

module _ {C : Type 0} (serves : C → Kind → Bool) (floor : C → Kind → ℕ) (stepped : C → Kind → ℕ → C × ℕ) where
  pub lawful_from : ((c : C) (kind : Kind) → IsTrue (serves c kind) → 1 ≤ floor c kind)
      → ((c : C) (kind : Kind) (start : ℕ) → IsTrue (serves c kind) → start + floor c kind ≤ (stepped c kind start).1)
      → ((c : C) (kind : Kind) (start : ℕ) (other : Kind) → IsTrue (serves c kind) → serves (stepped c kind start).0 other ≡ serves c other)
      → IsLawful serves stepped
  lawful_from counts holds stays = record {
    stays = stays;
    grows = λ c kind start s. omega (arith, counts c kind s, holds c kind start s);
  }

  pub served_from : (events : List Event) (comps : List C) → GraphFits serves floor events comps → (e : Event) → In e events → IsServed serves comps e
  served_from events comps fits e m =
      let at : (i : ℕ) × (slice_get events i ≡ _) = in_at e events m in
      let f : EventFits serves floor comps e = fits at.0 e at.1 in
      (f.component, (f.there, f.served))

  pub one_solution : IsLawful serves stepped → (events : List Event) (comps : List C) (timed : List FiredEvent) → IsNumbered events → GraphFits serves floor events comps
      → (IsSolution stepped events comps timed ↔ (timed ≡ woven stepped events comps))
  one_solution lawful events comps timed numbered fits = (
    λ sol. is_woven serves stepped events comps lawful numbered (served_from events comps fits) timed sol,
    λ same. subst (λ xs. IsSolution stepped events comps xs) (sym same) (solves serves stepped events comps lawful numbered (served_from events comps fits)),
  )
