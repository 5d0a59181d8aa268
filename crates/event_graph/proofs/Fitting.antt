-- After every firing the graph fits the components, each of which served its own events.
use Rattle.std.proofs.Common.{◌≡◌, ◌+◌, ◌<◌, ◌==◌, ℕ, Bool, true, List, length, inl, inr, Some, sym, ◌∙◌, ap, subst, refl, arith, length-set}
use Rattle.std.specs.Prelude.{IsTrue, slice_get}
use Rattle.std.specs.Option.{option_map}
use Rattle.std.proofs.lemmas.Bool.{eq-eqb, eqb-true}
use Rattle.std.proofs.lemmas.Option.{slice_get_past, slice_get_cases}
use Rattle.component.specs.declared.kind.Kind.{Kind}
use Rattle.event_graph.specs.declared.event.Event.{Event}
use Rattle.event_graph.specs.Fits.{EventFits, GraphFits}
use Rattle.event_graph.specs.Numbered.{IsNumbered}
use Rattle.event_graph.specs.OneListWeave.{FiredEvent, after_firings}
use Rattle.event_graph.specs.ServedEvents.{after_serving, of_component}
use Rattle.event_graph.proofs.Kept.{after_keeps}
use Rattle.event_graph.proofs.Lists.{In, from_filter, in_filter}
use Rattle.event_graph.proofs.Progress.{holds}
use Rattle.event_graph.proofs.BetweenFirings.{HoldsBetween, IsLawful, IsServed}
use Rattle.event_graph.proofs.Theorem.{served_from}
use Rattle.event_graph.proofs.Turns.{serving_keeps, turns_grow}

module _ {C : Type 0} (serves : C → Kind → Bool) (floor : C → Kind → ℕ) (stepped : C → Kind → ℕ → C × ℕ) (lawful : IsLawful serves stepped)
    (floor_stays : (c : C) (kind : Kind) (start : ℕ) (other : Kind) → IsTrue (serves c kind) → floor (stepped c kind start).0 other ≡ floor c other)
    (events : List Event) (comps : List C) (numbered : IsNumbered events) (fits : GraphFits serves floor events comps) (n : ℕ) where
  between : HoldsBetween serves stepped events comps (after_firings stepped events comps n)
  between = holds serves stepped events comps lawful numbered (served_from serves floor stepped events comps fits) n

  as_many : length (after_firings stepped events comps n).comps ≡ length comps
  as_many = after_keeps stepped (λ cs. length cs ≡ length comps) (λ cs number c kind start h at. length-set cs number (stepped c kind start).0 ∙ h) events comps refl n

  pub own_events : (number : ℕ) → slice_get (after_firings stepped events comps n).comps number ≡ option_map (λ c. after_serving stepped c (of_component number (after_firings stepped events comps n).fired)) (slice_get comps number)
  own_events number =
      elim (slice_get_cases comps number).1 [
        | inl found ↦ between.left number found.0 found.2 ∙ ap (option_map (λ c. after_serving stepped c (of_component number (after_firings stepped events comps n).fired))) (sym found.2)
        | inr past ↦
            slice_get_past (after_firings stepped events comps n).comps number (omega (arith, as_many))
            ∙ ap (option_map (λ c. after_serving stepped c (of_component number (after_firings stepped events comps n).fired))) (sym (slice_get_past comps number (omega arith)))
      ]

  -- a component serves the kinds of all its events
  serves_each : (number : ℕ) (c : C) → slice_get comps number ≡ Some c → (x : FiredEvent) → In x (of_component number (after_firings stepped events comps n).fired) → IsTrue (serves c x.event.kind)
  serves_each number c there x m =
      let r : In x (after_firings stepped events comps n).fired × ((x.event.component == number) ≡ true) = from_filter (λ (t : FiredEvent). t.event.component == number) x (after_firings stepped events comps n).fired m in
      let s : IsServed serves comps x.event = served_from serves floor stepped events comps fits x.event (between.members x r.0) in
      let found : slice_get comps number ≡ Some s.0 = subst (λ k. slice_get comps k ≡ Some s.0) (eqb-true x.event.component number r.1) s.1.0 in
      let same : s.0 ≡ c = cc in
      subst (λ z. IsTrue (serves z x.event.kind)) same s.1.1

  pub fits_still : GraphFits serves floor events (after_firings stepped events comps n).comps
  fits_still i e at =
      let f : EventFits serves floor comps e = fits i e at in
      let k = serving_keeps stepped serves floor lawful.stays floor_stays f.component (of_component e.component (after_firings stepped events comps n).fired) (serves_each e.component f.component f.there) in
      record {
        component = after_serving stepped f.component (of_component e.component (after_firings stepped events comps n).fired);
        there = between.left e.component f.component f.there;
        served = subst IsTrue (sym (k.0 e.kind)) f.served;
        floor_is = ap (λ m. e.min_start + m) (k.1 e.kind) ∙ f.floor_is;
      }

  pub finishes_later : (x : FiredEvent) → In x (after_firings stepped events comps n).fired → x.start < x.finish
  finishes_later x m =
      let f : IsServed serves comps x.event = served_from serves floor stepped events comps fits x.event (between.members x m) in
      turns_grow stepped serves lawful.stays lawful.grows f.0 (of_component x.event.component (after_firings stepped events comps n).fired)
      (serves_each x.event.component f.0 f.1.0) (between.turns x.event.component f.0 f.1.0) x
      (in_filter (λ (t : FiredEvent). t.event.component == x.event.component) x (after_firings stepped events comps n).fired m (eq-eqb x.event.component x.event.component refl))
