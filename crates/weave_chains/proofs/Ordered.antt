-- The weave of the same accesses in another order.
use Rattle.std.proofs.Common.{◌≡◌, ℕ, Bool, List, [], ◌∷◌, map, length, sum_by, Some, sym, ◌∙◌, ap, subst, refl}
use Rattle.std.specs.Prelude.{slice_get}
use Rattle.std.specs.List.{Contains, range_with_len}
use Rattle.component.specs.declared.kind.Kind.{Kind}
use Rattle.zs_num.specs.declared.entry.Entry.{Entry}
use Rattle.event_graph.specs.declared.event.Event.{Event}
use Rattle.event_graph.specs.declared.piece.Piece.{Piece}
use Rattle.event_graph.specs.EventGraph.{all_events}
use Rattle.event_graph.specs.Fits.{EventFits, GraphFits}
use Rattle.event_graph.specs.OneListWeave.{FiredEvent, comps_after, fired_of, woven}
use Rattle.event_graph.specs.OrderByCore.{AreRenumberedByCore}
use Rattle.event_graph.specs.Renumbering.{AreAlikeAtTies, AreRenumbered, renumbered}
use Rattle.event_graph.specs.ServedEvents.{of_component}
use Rattle.event_graph.proofs.Lists.{at_in, contains_in, in_at, in_contains, in_map}
use Rattle.feedback.specs.FeedbackDelay.{feedback_delays}
use Rattle.stats.specs.Counts.{comp_count_in}
use Rattle.weave_chains.specs.declared.weave.Woven.{Woven}
use Rattle.weave_chains.specs.Ties.{HaveNoTie}
use Rattle.weave_chains.specs.Woven.{IsWoven, interval_of}
use Rattle.weave_chains.proofs.Counts.{counted_alike, in_interval, one, waited}

map_ext : {X Y : Type 0} (f g : X → Y) (xs : List X) → ((x : X) → f x ≡ g x) → map f xs ≡ map g xs
map_ext f g [] h = refl
map_ext f g (x ∷ xs) h = ap (λ z. z ∷ map f xs) (h x) ∙ ap (λ zs. g x ∷ zs) (map_ext f g xs h)

-- where no two of different cores meet, both orders put the events of a tie alike
pub alike_at_ties : (to : ℕ → ℕ) (events others : List Event) (timed : List FiredEvent) → AreRenumberedByCore to events others → map (λ (x : FiredEvent). x.event) timed ≡ events → HaveNoTie timed → AreAlikeAtTies to timed
alike_at_ties to events others timed re are none x y mx my component start less =
    let there : (z : FiredEvent) → Contains timed z → Contains events z.event =
    λ z m. subst (λ es. Contains es z.event) are (contains_in z.event (map (λ (w : FiredEvent). w.event) timed) (in_map (λ (w : FiredEvent). w.event) z timed (in_contains z timed m)))
    in
    re.rises x.event y.event (there x mx) (there y my) (none x y mx my component start) less

-- the events fit under other numbers
pub others_fit : {C : Type 0} (serves : C → Kind → Bool) (floor : C → Kind → ℕ) (to : ℕ → ℕ) (events others : List Event) (comps : List C) → AreRenumbered to events others → GraphFits serves floor events comps → GraphFits serves floor others comps
others_fit serves floor to events others comps re fits i e at =
    let o : (d : Event) × (Contains events d × (e ≡ renumbered to d)) = re.no_other e (contains_in e others (at_in e others i at)) in
    let n : (n : ℕ) × (slice_get events n ≡ Some o.0) = in_at o.0 events (in_contains o.0 events o.1.0) in
    let f : EventFits serves floor comps o.0 = fits n.0 o.0 n.1 in
    let moved : EventFits serves floor comps (renumbered to o.0) = record { component = f.component; there = f.there; served = f.served; floor_is = f.floor_is } in
    subst (λ z. EventFits serves floor comps z) (sym o.1.1) moved

module _ {C : Type 0} (stepped : C → Kind → ℕ → C × ℕ) (pieces : Entry → List Piece) (entries recorded : List Entry) (comps : List C) (cores : ℕ) where
  abbrev events : List Event
  events = all_events pieces entries

  abbrev others : List Event
  others = all_events pieces recorded

  pub woven_alike : map (λ (x : FiredEvent). x.event) (woven stepped events comps) ≡ events → map (λ (x : FiredEvent). x.event) (woven stepped others comps) ≡ others
      → feedback_delays others (map fired_of (woven stepped others comps)) cores ≡ feedback_delays events (map fired_of (woven stepped events comps)) cores
      → ((component : ℕ) → sum_by one (of_component component (woven stepped others comps)) ≡ sum_by one (of_component component (woven stepped events comps)))
      → ((component : ℕ) → sum_by waited (of_component component (woven stepped others comps)) ≡ sum_by waited (of_component component (woven stepped events comps)))
      → comps_after stepped others comps ≡ comps_after stepped events comps → length others ≡ length events
      → (w : Woven) (after : List C) → IsWoven stepped pieces entries comps cores w after → IsWoven stepped pieces recorded comps cores w after
  woven_alike are others_are delays numbers waits comps_are count w after is = record {
    delays = is.delays ∙ sym delays;
    counts = is.counts ∙ map_ext (comp_count_in (interval_of stepped pieces entries comps cores)) (comp_count_in (interval_of stepped pieces recorded comps cores)) (range_with_len 0 (length comps))
        (λ component.
        in_interval (interval_of stepped pieces entries comps cores) (woven stepped events comps) are refl component
        ∙ (counted_alike component (woven stepped events comps) (woven stepped others comps) (sym (numbers component)) (sym (waits component))
        ∙ sym (in_interval (interval_of stepped pieces recorded comps cores) (woven stepped others comps) others_are refl component)));
    events = is.events ∙ sym count;
    comps_are = is.comps_are ∙ sym comps_are;
  }
