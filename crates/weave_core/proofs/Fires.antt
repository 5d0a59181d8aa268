-- A fire keeps each domain at the front of its events, and its components with it.
use Rattle.std.proofs.Common.{◌≡◌, ◌+◌, ◌<◌, ◌≤◌, ℕ, true, false, cond, eqb, List, [], ◌∷◌, ◌++◌, length, set, get_or, take, Option, Some, slice_get, sym, ◌∙◌, ap, subst, refl, inl, inr, arith, length-set}
use Rattle.std.proofs.lemmas.Bool.{false≢true, cases_lt, cases_eq}
use Rattle.std.proofs.lemmas.Bool.Decides.{eqb_tells}
use Rattle.std.proofs.lemmas.List.{get_or-set_same, get_or-set_other}
use Rattle.std.proofs.lemmas.Option.{same_Some}
use Rattle.std.specs.Option.{option_map, option_map_or}
use Rattle.component.specs.declared.kind.Kind.{Kind}
use Rattle.event_graph.specs.declared.event.Event.{Event}
use Rattle.event_graph.specs.OneListWeave.{FiredEvent, Weave, is_fired, served}
use Rattle.event_graph.specs.ServedEvents.{after_serving, of_component}
use Rattle.domain_map.specs.Domains.{Partition, IsPartition, domain_at, domain_of_event}
use Rattle.weave_core.specs.DomainMachine.{DomainState, MachineState, effect_of, fire, fire_event, fresh_domain, is_allowed, is_clear, next_in, state_of}
use Rattle.weave_core.specs.Soundness.{AreSoundBounds, AreSoundWords}
use Rattle.weave_core.specs.Interleavings.{of_domain}
use Rattle.weave_core.proofs.Lists.{finding_option, test_cases}
use Rattle.weave_core.proofs.Fronts.{fold-push, front_kept, front_next}
use Rattle.weave_core.proofs.Updates.{get_set_other, get_set_same}
use Rattle.weave_core.proofs.First.{IsFirst}
use Rattle.weave_core.proofs.Firing.{IsOrder, finding, fired_before, from_domain}
use Rattle.weave_core.proofs.Joined.{eq_test, test_eq}
use Rattle.weave_core.proofs.PendingEvents.{IsNextHere, is_pending, may_fire, pending_is, pending_test}
use Rattle.weave_core.proofs.Steps.{Holds, Stands, bounds_of}

-- each event's finish is what its component computed, after the events of its own that fired before
pub record IsServed {C : Type 0} (stepped : C → Kind → ℕ → C × ℕ) (comps : List C) (all : List FiredEvent) : Type 0 where
  pub at : (k : ℕ) (x : FiredEvent) → slice_get all k ≡ Some x → (c : C) × ((slice_get comps x.event.component ≡ Some c)
      × (x.finish ≡ (stepped (after_serving stepped c (of_component x.event.component (take k all))) x.event.kind x.start).1))

module _ {C : Type 0} (stepped : C → Kind → ℕ → C × ℕ) (events : List Event) (p : Partition) (comps : List C) (all : List FiredEvent)
    (o : IsOrder events all) (div : IsPartition events p) (serves : IsServed stepped comps all)
    (here : (k : ℕ) (x : FiredEvent) → slice_get all k ≡ Some x → domain_of_event p.places x.event < length p.events) where
  -- the cut of the domain moves behind the event
  abbrev moved : (ℕ → ℕ) → (domain after : ℕ) → ℕ → ℕ
  moved cut domain after d = cond (eqb d domain) after (cut d)

  moved_same : (cut : ℕ → ℕ) (domain after d : ℕ) → d ≡ domain → moved cut domain after d ≡ after
  moved_same cut domain after d e = ap (λ t. cond t after (cut d)) (eq_test d domain e)

  moved_other : (cut : ℕ → ℕ) (domain after d : ℕ) → (d ≡ domain → ⊥) → moved cut domain after d ≡ cut d
  moved_other cut domain after d h =
      elim (eqb_tells d domain) [
        | inl t ↦ absurd (h t.1)
        | inr f ↦ ap (λ t. cond t after (cut d)) f.0
      ]

  -- between the cut and its next event a domain has no events
  pub gap_domain : (domain cut k : ℕ) (own : DomainState) (fired_is : own.fired ≡ of_domain p.places domain (take cut all))
      (known : AreSoundWords all p own.known) (bounds : AreSoundBounds events all p domain own) (x : FiredEvent)
      → IsFirst (is_pending events p all o div domain cut own fired_is known bounds) all k x
      → (j : ℕ) (y : FiredEvent) → cut ≤ j → j < k → slice_get all j ≡ Some y → eqb (domain_of_event p.places y.event) domain ≡ false
  gap_domain domain cut k own fired_is known bounds x f j y a b h =
      elim (test_cases (eqb (domain_of_event p.places y.event) domain)) [
        | inr fails_it ↦ fails_it
        | inl passes_it ↦
            absurd (false≢true (sym (f.before j y b h)
            ∙ pending_test events p all o div domain cut own fired_is known bounds j y (test_eq (domain_of_event p.places y.event) domain passes_it) a))
      ]

  pub gap_component : (domain cut k number : ℕ) → domain_at p.places number ≡ domain
      → ((j : ℕ) (y : FiredEvent) → cut ≤ j → j < k → slice_get all j ≡ Some y → eqb (domain_of_event p.places y.event) domain ≡ false)
      → (j : ℕ) (y : FiredEvent) → cut ≤ j → j < k → slice_get all j ≡ Some y → eqb y.event.component number ≡ false
  gap_component domain cut k number d none j y a b h =
      elim (test_cases (eqb y.event.component number)) [
        | inr fails_it ↦ fails_it
        | inl passes_it ↦
            absurd (false≢true (sym (none j y a b h)
            ∙ eq_test (domain_of_event p.places y.event) domain (ap (domain_at p.places) (test_eq y.event.component number passes_it) ∙ d)))
      ]

  -- the finished state: the domain has fired x, and its component served it
  abbrev fired_state : MachineState C → (domain : ℕ) → FiredEvent → C → MachineState C
  fired_state s domain x c = record s {
    domains = set s.domains domain (record (state_of s domain) { fired = (state_of s domain).fired ++ x ∷ [] });
    comps = set s.comps x.event.component (stepped c x.event.kind x.start).0;
  }

  abbrev with_served : MachineState C → (domain : ℕ) → Weave C → MachineState C
  with_served s domain w = record s { domains = set s.domains domain (record (state_of s domain) { fired = w.fired }); comps = w.comps }

  effect_is : (s : MachineState C) (domain : ℕ) (b : Event × ℕ) (x : FiredEvent) (c : C) → next_in events p domain (state_of s domain) ≡ Some b → x.event ≡ b.0 → x.start ≡ b.1
      → slice_get s.comps x.event.component ≡ Some c → x.finish ≡ (stepped c x.event.kind x.start).1
      → effect_of events p stepped s (fire domain) ≡ fired_state s domain x c
  effect_is s domain b x c next e t there finish =
      let pair : ◌≡◌ {A = Event × ℕ} b (x.event, x.start) = ap (λ (z : Event). (z, b.1)) (sym e) ∙ ap (λ (n : ℕ). (x.event, n)) (sym t) in
      ap (λ (z : Option (Event × ℕ)). option_map_or (fire_event events p stepped s domain) z s) next
      ∙ (ap (fire_event events p stepped s domain) pair
      ∙ (ap (λ (z : Option C). with_served s domain (served stepped (record { fired = (state_of s domain).fired; comps = s.comps }) x.event x.start z)) there
      ∙ ap (λ (n : ℕ). with_served s domain (record {
        fired = (state_of s domain).fired ++ (record { event = x.event; start = x.start; finish = n }) ∷ [];
        comps = set s.comps x.event.component (stepped c x.event.kind x.start).0;
      })) (sym finish)))

  written_within : {X : Type 0} (Q : ℕ → X → Type 0) (xs : List X) (i : ℕ) (v d : X) → i < length xs → Q i v → ((j : ℕ) → (j ≡ i → ⊥) → Q j (get_or xs j d))
      → (j : ℕ) → Q j (get_or (set xs i v) j d)
  written_within {X} Q xs i v d below new old j =
      elim (cases_eq j i) [
        | inl same ↦ subst (λ n. Q n (get_or (set xs i v) n d)) (sym same) (subst (λ (z : X). Q i z) (sym (get_or-set_same xs i v d below)) new)
        | inr apart ↦ subst (λ (z : X). Q j z) (sym (get_or-set_other xs i j v d apart)) (old j apart)
      ]

  more_fired : (domain cut later number : ℕ) → cut ≤ later → is_fired (of_domain p.places domain (take cut all)) number ≡ true
      → is_fired (of_domain p.places domain (take later all)) number ≡ true
  more_fired domain cut later number l h =
      let r = finding (of_domain p.places domain (take cut all)) number h in
      let place = from_domain events all o p.places domain cut r.0 r.1.1.0 in
      let f : is_fired (of_domain p.places domain (take later all)) r.0.event.number ≡ true =
      fired_before events all o p.places domain later place.0 r.0 (omega (arith, place.1.0, l)) place.1.1.0 place.1.1.1
      in
      ap (is_fired (of_domain p.places domain (take later all))) (sym r.1.1.1) ∙ f

  -- the domain's next event fires
  fires_next : (s : MachineState C) (domain : ℕ) (h : Holds stepped events p comps all o div s) (b : Event × ℕ) → next_in events p domain (state_of s domain) ≡ Some b
      → IsNextHere events p all o div domain (h.cut domain) (state_of s domain) (h.domains domain).fired (h.domains domain).known (bounds_of stepped events p comps all o div _ _ _ _ (h.domains domain)) b
      → Holds stepped events p comps all o div (effect_of events p stepped s (fire domain))
  fires_next s domain h b next n =
      let own = h.domains domain in
      let is = pending_is events p all o div domain (h.cut domain) (state_of s domain) own.fired own.known (bounds_of stepped events p comps all o div _ _ _ _ own) n.k n.x n.first.passes in
      let gap : (j : ℕ) (y : FiredEvent) → h.cut domain ≤ j → j < n.k → slice_get all j ≡ Some y → eqb (domain_of_event p.places y.event) domain ≡ false =
      gap_domain domain (h.cut domain) n.k (state_of s domain) own.fired own.known (bounds_of stepped events p comps all o div _ _ _ _ own) n.x n.first
      in
      let sv = serves.at n.k n.x n.first.there in
      let gap_here : (j : ℕ) (y : FiredEvent) → h.cut domain ≤ j → j < n.k → slice_get all j ≡ Some y → eqb y.event.component n.x.event.component ≡ false =
      gap_component domain (h.cut domain) n.k n.x.event.component is.0 gap
      in
      let front : of_component n.x.event.component (take n.k all) ≡ of_component n.x.event.component (take (h.cut domain) all) =
      front_kept (λ (y : FiredEvent). eqb y.event.component n.x.event.component) all (h.cut domain) n.k is.1 gap_here
      in
      let c : C = after_serving stepped sv.0 (of_component n.x.event.component (take (h.cut domain) all)) in
      let finish : n.x.finish ≡ (stepped (after_serving stepped sv.0 (of_component n.x.event.component (take (h.cut domain) all))) n.x.event.kind n.x.start).1 =
      sv.1.1 ∙ ap (λ (xs : List FiredEvent). (stepped (after_serving stepped sv.0 xs) n.x.event.kind n.x.start).1) front
      in
      let there : slice_get s.comps n.x.event.component ≡ Some (after_serving stepped sv.0 (of_component n.x.event.component (take (h.cut domain) all))) =
      h.comps_are n.x.event.component
      ∙ (ap (λ (z : Option C). option_map (λ c. after_serving stepped c (of_component n.x.event.component (take (h.cut (domain_at p.places n.x.event.component)) all))) z) sv.1.0
      ∙ ap (λ d. Some (after_serving stepped sv.0 (of_component n.x.event.component (take (h.cut d) all)))) is.0)
      in
      let up : (d : ℕ) → h.cut d ≤ moved h.cut domain (n.k + 1) d =
      λ d. elim (cases_eq d domain) [
        | inl same ↦
            let m : moved h.cut domain (n.k + 1) d ≡ n.k + 1 = moved_same h.cut domain (n.k + 1) d same in
            let e : h.cut d ≡ h.cut domain = ap h.cut same in
            omega (arith, m, e, is.1)
        | inr apart ↦
            let m : moved h.cut domain (n.k + 1) d ≡ h.cut d = moved_other h.cut domain (n.k + 1) d apart in
            omega (arith, m)
      ]
      in
      subst (λ (z : MachineState C). Holds stepped events p comps all o div z)
      (sym (effect_is s domain b n.x (after_serving stepped sv.0 (of_component n.x.event.component (take (h.cut domain) all))) next n.event n.start there finish))
      (record {
        count = length-set s.domains domain _ ∙ h.count;
        cut = moved h.cut domain (n.k + 1);
        domains = written_within (λ d z. Stands stepped events p comps all o div s.words (moved h.cut domain (n.k + 1) d) d z) s.domains domain
            (record (state_of s domain) { fired = (state_of s domain).fired ++ n.x ∷ [] }) fresh_domain
            (subst (λ d. d < length s.domains) is.0 (omega (arith, here n.k n.x n.first.there, h.count)))
            (record {
              fired =
                  ap (λ (xs : List FiredEvent). xs ++ n.x ∷ []) own.fired
                  ∙ (sym (front_next (λ (y : FiredEvent). eqb (domain_of_event p.places y.event) domain) all (h.cut domain) n.k n.x is.1 n.first.there (eq_test (domain_of_event p.places n.x.event) domain is.0) gap)
                  ∙ ap (λ m. of_domain p.places domain (take m all)) (sym (moved_same h.cut domain (n.k + 1) domain refl)));
              known = own.known;
              floor = record { each = own.floor.each };
              kept = own.kept;
            })
            (λ d apart. subst (λ m. Stands stepped events p comps all o div s.words m d (state_of s d)) (sym (moved_other h.cut domain (n.k + 1) d apart)) (h.domains d));
        words = λ number. record {
          sound = (h.words number).sound;
          fired = λ x e exact. more_fired x.source (h.cut x.source) (moved h.cut domain (n.k + 1) x.source) x.parent (up x.source) ((h.words number).fired x e exact);
        };
        comps_are = λ number.
            elim (cases_eq number n.x.event.component) [
              | inl same ↦
                  let grown : of_component n.x.event.component (take (n.k + 1) all) ≡ of_component n.x.event.component (take (h.cut domain) all) ++ n.x ∷ [] =
                  front_next (λ (y : FiredEvent). eqb y.event.component n.x.event.component) all (h.cut domain) n.k n.x is.1 n.first.there (eq_test n.x.event.component n.x.event.component refl) gap_here
                  in
                  let at : slice_get (set s.comps n.x.event.component (stepped (after_serving stepped sv.0 (of_component n.x.event.component (take (h.cut domain) all))) n.x.event.kind n.x.start).0) n.x.event.component
                  ≡ option_map (λ c. after_serving stepped c (of_component n.x.event.component (take (moved h.cut domain (n.k + 1) (domain_at p.places n.x.event.component)) all))) (slice_get comps n.x.event.component) =
                  get_set_same s.comps n.x.event.component _ _ there
                  ∙ sym (ap (λ (z : Option C). option_map (λ c. after_serving stepped c (of_component n.x.event.component (take (moved h.cut domain (n.k + 1) (domain_at p.places n.x.event.component)) all))) z) sv.1.0
                  ∙ (ap (λ m. Some (after_serving stepped sv.0 (of_component n.x.event.component (take m all)))) (moved_same h.cut domain (n.k + 1) (domain_at p.places n.x.event.component) is.0)
                  ∙ (ap (λ (xs : List FiredEvent). Some (after_serving stepped sv.0 xs)) grown
                  ∙ ap (λ (z : C). Some z) (fold-push (λ before (x : FiredEvent). (stepped before x.event.kind x.start).0) sv.0 (of_component n.x.event.component (take (h.cut domain) all)) n.x))))
                  in
                  subst (λ m. slice_get (set s.comps n.x.event.component (stepped (after_serving stepped sv.0 (of_component n.x.event.component (take (h.cut domain) all))) n.x.event.kind n.x.start).0) m
                  ≡ option_map (λ c. after_serving stepped c (of_component m (take (moved h.cut domain (n.k + 1) (domain_at p.places m)) all))) (slice_get comps m)) (sym same) at
              | inr apart ↦
                  let kept : of_component number (take (h.cut (domain_at p.places number)) all) ≡ of_component number (take (moved h.cut domain (n.k + 1) (domain_at p.places number)) all) =
                  elim (cases_eq (domain_at p.places number) domain) [
                    | inr other ↦ ap (λ m. of_component number (take m all)) (sym (moved_other h.cut domain (n.k + 1) (domain_at p.places number) other))
                    | inl mine ↦
                        ap (λ d. of_component number (take (h.cut d) all)) mine
                        ∙ (sym (front_kept (λ (y : FiredEvent). eqb y.event.component number) all (h.cut domain) (n.k + 1) (omega (arith, is.1))
                        (λ j y a l e.
                        elim (cases_lt j n.k) [
                          | inl less ↦ gap_component domain (h.cut domain) n.k number mine gap j y a less e
                          | inr m ↦
                              let same : j ≡ n.k = omega (arith, l) in
                              let is_x : n.x ≡ y = same_Some n.x y (sym n.first.there ∙ (ap (slice_get all) (sym same) ∙ e)) in
                              elim (test_cases (eqb y.event.component number)) [
                                | inr fails_it ↦ fails_it
                                | inl passes_it ↦ absurd (apart (sym (ap (λ (z : FiredEvent). z.event.component) is_x ∙ test_eq y.event.component number passes_it)))
                              ]
                        ]))
                        ∙ ap (λ m. of_component number (take m all)) (sym (moved_same h.cut domain (n.k + 1) (domain_at p.places number) mine)))
                  ]
                  in
                  get_set_other s.comps n.x.event.component number _ apart
                  ∙ (h.comps_are number
                  ∙ ap (λ (xs : List FiredEvent). option_map (λ c. after_serving stepped c xs) (slice_get comps number)) kept)
            ];
      })

  pub fires : (s : MachineState C) (domain : ℕ) → Holds stepped events p comps all o div s → is_allowed events p stepped s (fire domain) ≡ true
      → Holds stepped events p comps all o div (effect_of events p stepped s (fire domain))
  fires s domain h allowed =
      let own = h.domains domain in
      let g : (b : Event × ℕ) × ((next_in events p domain (state_of s domain) ≡ Some b) × (is_clear events p domain (state_of s domain) b.1 ≡ true)) =
      finding_option (next_in events p domain (state_of s domain)) (λ (b : Event × ℕ). is_clear events p domain (state_of s domain) b.1) allowed
      in
      fires_next s domain h g.0 g.1.0 (may_fire events p all o div domain (h.cut domain) (state_of s domain) own.fired own.known (bounds_of stepped events p comps all o div _ _ _ _ own) g.0 g.1.0 g.1.1)
