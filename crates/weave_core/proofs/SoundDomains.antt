-- A domain that is sound for a solution fires its next event in that solution.
use Rattle.std.proofs.Common.{◌≡◌, ◌+◌, ◌<◌, ◌≤◌, ℕ, zero, suc, Bool, true, false, cond, eqb, List, [], ◌∷◌, ◌++◌, length, take, Some, slice_get, sym, ◌∙◌, ap, refl}
use Rattle.std.specs.List.{filter}
use Rattle.component.specs.declared.kind.Kind.{Kind}
use Rattle.event_graph.specs.declared.event.Event.{Event}
use Rattle.event_graph.specs.OneListWeave.{FiredEvent, weave, woven}
use Rattle.event_graph.specs.ServedEvents.{after_serving, of_component}
use Rattle.event_graph.specs.TimingSolution.{IsInOrder, IsSolution}
use Rattle.domain_map.specs.Domains.{Partition, IsPartition, domain_of_event}
use Rattle.weave_core.specs.DomainMachine.{DomainState, is_clear, next_in}
use Rattle.weave_core.specs.Interleavings.{of_domain}
use Rattle.weave_core.specs.SoundDomain.{IsNextFiring, IsSoundDomain}
use Rattle.weave_core.specs.Soundness.{AreSoundBounds, AreSoundWords}
use Rattle.weave_core.proofs.Lists.{get_take, last_at}
use Rattle.weave_core.proofs.Fronts.{filter_front, front_kept, front_next}
use Rattle.weave_core.proofs.Firing.{IsOrder}
use Rattle.weave_core.proofs.Joined.{eq_test}
use Rattle.weave_core.proofs.PendingEvents.{IsNextHere, may_fire, pending_is}
use Rattle.weave_core.proofs.Fires.{IsServed, gap_component, gap_domain}
use Rattle.weave_core.proofs.Solutions.{bounds_alike, order_alike, words_alike}
use Rattle.weave_core.proofs.Whole.{narrowed}

-- a front of a filtered list is what a front of the list leaves
pub front_cut : {X : Type 0} (test : X → Bool) (xs : List X) (n : ℕ) → (cut : ℕ) × (take n (filter test xs) ≡ filter test (take cut xs))
front_cut test [] zero = (0, refl)
front_cut test [] (suc n) = (0, refl)
front_cut test (x ∷ xs) zero = (0, refl)
front_cut {X} test (x ∷ xs) (suc n) = by_test (front_cut test xs n) (front_cut test xs (suc n)) (test x) refl
  where
    by_test : (cut : ℕ) × (take n (filter test xs) ≡ filter test (take cut xs)) → (cut : ℕ) × (take (suc n) (filter test xs) ≡ filter test (take cut xs))
        → (t : Bool) → test x ≡ t → (cut : ℕ) × (take (suc n) (cond t (x ∷ filter test xs) (filter test xs)) ≡ filter test (take cut (x ∷ xs)))
    by_test less same true e =
        (suc less.0, ap (λ (zs : List X). x ∷ zs) less.1 ∙ sym (ap (λ (u : Bool). cond u (x ∷ filter test (take less.0 xs)) (filter test (take less.0 xs))) e))
    by_test less same false e =
        (suc same.0, same.1 ∙ sym (ap (λ (u : Bool). cond u (x ∷ filter test (take same.0 xs)) (filter test (take same.0 xs))) e))

module _ {C : Type 0} (stepped : C → Kind → ℕ → C × ℕ) (events : List Event) (p : Partition) (comps : List C)
    (o : IsOrder events (weave stepped events comps).fired) (div : IsPartition events p) (serves : IsServed stepped comps (weave stepped events comps).fired)
    (here : (k : ℕ) (x : FiredEvent) → slice_get (weave stepped events comps).fired k ≡ Some x → domain_of_event p.places x.event < length p.events)
    (in_order : IsInOrder (weave stepped events comps).fired) where
  abbrev all : List FiredEvent
  all = (weave stepped events comps).fired

  -- its component has served what the domain fired on it, and nothing else
  pub mine_so_far : (domain cut : ℕ) (own : DomainState) (fired : own.fired ≡ of_domain p.places domain (take cut all)) (known : AreSoundWords all p own.known)
      (bounds : AreSoundBounds events all p domain own) (b : Event × ℕ) (n : IsNextHere events p all o div domain cut own fired known bounds b)
      → of_component n.x.event.component (take n.k all) ≡ of_component n.x.event.component own.fired
  mine_so_far domain cut own fired known bounds b n =
      let is = pending_is events p all o div domain cut own fired known bounds n.k n.x n.first.passes in
      let gap : (j : ℕ) (y : FiredEvent) → cut ≤ j → j < n.k → slice_get all j ≡ Some y → eqb (domain_of_event p.places y.event) domain ≡ false =
      gap_domain stepped events p comps all o div serves here domain cut n.k own fired known bounds n.x n.first
      in
      let gap_here : (j : ℕ) (y : FiredEvent) → cut ≤ j → j < n.k → slice_get all j ≡ Some y → eqb y.event.component n.x.event.component ≡ false =
      gap_component stepped events p comps all o div serves here domain cut n.k n.x.event.component is.0 gap
      in
      front_kept (λ (y : FiredEvent). eqb y.event.component n.x.event.component) all cut n.k is.1 gap_here
      ∙ (narrowed stepped events p comps all o div serves here n.x.event.component (take cut all)
      ∙ (ap (λ (d : ℕ). of_component n.x.event.component (of_domain p.places d (take cut all))) is.0
      ∙ ap (of_component n.x.event.component) (sym fired)))

  -- with the weave's own order
  pub next_entry : (domain cut : ℕ) (own : DomainState) (fired : own.fired ≡ of_domain p.places domain (take cut all)) (known : AreSoundWords all p own.known)
      (bounds : AreSoundBounds events all p domain own) (b : Event × ℕ) (n : IsNextHere events p all o div domain cut own fired known bounds b)
      → (slice_get (of_domain p.places domain all) (length own.fired) ≡ Some n.x)
      × ((c : C) × ((slice_get comps n.x.event.component ≡ Some c)
      × (n.x.finish ≡ (stepped (after_serving stepped c (of_component n.x.event.component own.fired)) n.x.event.kind n.x.start).1)))
  next_entry domain cut own fired known bounds b n =
      let is = pending_is events p all o div domain cut own fired known bounds n.k n.x n.first.passes in
      let gap : (j : ℕ) (y : FiredEvent) → cut ≤ j → j < n.k → slice_get all j ≡ Some y → eqb (domain_of_event p.places y.event) domain ≡ false =
      gap_domain stepped events p comps all o div serves here domain cut n.k own fired known bounds n.x n.first
      in
      let grown : of_domain p.places domain (take (n.k + 1) all) ≡ own.fired ++ n.x ∷ [] =
      front_next (λ (y : FiredEvent). eqb (domain_of_event p.places y.event) domain) all cut n.k n.x is.1 n.first.there (eq_test (domain_of_event p.places n.x.event) domain is.0) gap
      ∙ ap (λ (xs : List FiredEvent). xs ++ n.x ∷ []) (sym fired)
      in
      let front : of_domain p.places domain (take (n.k + 1) all) ≡ take (length (of_domain p.places domain (take (n.k + 1) all))) (of_domain p.places domain all) =
      filter_front (λ (y : FiredEvent). eqb (domain_of_event p.places y.event) domain) all (n.k + 1)
      in
      let at : slice_get (take (length (of_domain p.places domain (take (n.k + 1) all))) (of_domain p.places domain all)) (length own.fired) ≡ Some n.x =
      ap (λ (xs : List FiredEvent). slice_get xs (length own.fired)) (sym front ∙ grown) ∙ last_at own.fired n.x
      in
      let sv = serves.at n.k n.x n.first.there in
      let mine : of_component n.x.event.component (take n.k all) ≡ of_component n.x.event.component own.fired =
      mine_so_far domain cut own fired known bounds b n
      in (
        (get_take (of_domain p.places domain all) (length (of_domain p.places domain (take (n.k + 1) all))) (length own.fired) n.x at).1,
        (sv.0, (sv.1.0, sv.1.1 ∙ ap (λ (xs : List FiredEvent). (stepped (after_serving stepped sv.0 xs) n.x.event.kind n.x.start).1) mine)),
      )

  pub sound_follow : (timed : List FiredEvent) (solution : IsSolution stepped events comps timed) (is : timed ≡ woven stepped events comps) (domain : ℕ) (own : DomainState) (next : Event × ℕ)
      → IsSoundDomain stepped events p comps timed solution domain own → next_in events p domain own ≡ Some next → is_clear events p domain own next.1 ≡ true
      → (x : FiredEvent) × IsNextFiring stepped events p comps timed solution domain own next x
  sound_follow timed solution is domain own next s n clear =
      let order : solution.sorted ≡ all = order_alike stepped events comps o timed is solution.sorted solution.in_order solution.same in_order in
      let front : own.fired ≡ take (length own.fired) (of_domain p.places domain all) =
      s.fired ∙ ap (λ (xs : List FiredEvent). take (length own.fired) (of_domain p.places domain xs)) order
      in
      let cut : (cut : ℕ) × (take (length own.fired) (of_domain p.places domain all) ≡ of_domain p.places domain (take cut all)) =
      front_cut (λ (y : FiredEvent). eqb (domain_of_event p.places y.event) domain) all (length own.fired)
      in
      let fired : own.fired ≡ of_domain p.places domain (take cut.0 all) = front ∙ cut.1 in
      let known : AreSoundWords all p own.known = words_alike stepped events comps o timed is p own.known s.known in
      let bounds : AreSoundBounds events all p domain own = bounds_alike stepped events comps o timed is p domain own s.bounds in
      let f : IsNextHere events p all o div domain cut.0 own fired known bounds next = may_fire events p all o div domain cut.0 own fired known bounds next n clear in
      let e = next_entry domain cut.0 own fired known bounds next f in (
        f.x,
        record {
          firing = ap (λ (xs : List FiredEvent). slice_get (of_domain p.places domain xs) (length own.fired)) order ∙ e.0;
          event = f.event;
          start = f.start;
          component = e.1.0;
          there = e.1.1.0;
          finish = e.1.1.1;
        },
      )
