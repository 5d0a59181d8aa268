-- Every step keeps each domain at the front of its events in the weave, and all words and floors sound.
use Rattle.std.proofs.Common.{◌≡◌, ◌+◌, ◌≤◌, ℕ, Bool, true, false, not, ◌&&◌, eqb, leb, List, length, set, get_or, take, Option, Some, slice_get, sym, ◌∙◌, ap, subst, inl, inr, arith, length-set}
use Rattle.std.proofs.lemmas.Bool.{false≢true, cases_lt}
use Rattle.std.proofs.lemmas.Bool.Decides.{nat_tests}
use Rattle.std.proofs.lemmas.Option.{same_Some}
use Rattle.std.specs.Option.{option_map, option_map_or}
use Rattle.zs_num.specs.declared.time.Word.{Word}
use Rattle.zs_num.specs.declared.time.Word.TheVariants.{Bound, Exact}
use Rattle.component.specs.declared.kind.Kind.{Kind}
use Rattle.event_graph.specs.declared.event.Event.{Event}
use Rattle.event_graph.specs.OneListWeave.{FiredEvent, find_fired, finish_in, finish_or_zero, is_fired}
use Rattle.event_graph.specs.ServedEvents.{after_serving, of_component}
use Rattle.domain_map.specs.declared.crossing.Crossing.{Crossing}
use Rattle.domain_map.specs.Domains.{Partition, IsPartition, domain_at, domain_of_event}
use Rattle.weave_core.specs.DomainMachine.{DomainState, MachineState, cycle_of, effect_of, finish_of_parent, fresh_domain, is_allowed, crossing_passes, is_exact, latency_at, latency_of, limit_of, look, may_raise, publish, raise, state_of, word_at}
use Rattle.weave_core.specs.Raising.{MayRaise}
use Rattle.weave_core.specs.Soundness.{AreSoundBounds, AreSoundWords, IsSoundFloor, IsSoundWord}
use Rattle.weave_core.specs.Interleavings.{of_domain}
use Rattle.weave_core.proofs.Lists.{both, finding_option, test_cases, not_true}
use Rattle.weave_core.proofs.Updates.{read_after}
use Rattle.weave_core.proofs.Firing.{IsOrder, all_known, finding, finish_is, fired_before, from_domain}
use Rattle.weave_core.proofs.Joined.{latency_there, parent_of_crossing, sound_bounds, test_eq}
use Rattle.weave_core.proofs.Raised.{below_finish}

-- what holds of each element holds after one was written
pub written : {X : Type 0} (Q : ℕ → X → Type 0) (xs : List X) (i : ℕ) (v d : X) → Q i v → ((j : ℕ) → Q j (get_or xs j d)) → (j : ℕ) → Q j (get_or (set xs i v) j d)
written {X} Q xs i v d new old j =
    elim (read_after xs i v d j) [
      | inl r ↦ subst (λ (z : X). Q j z) (sym r.1) (subst (λ n. Q n v) (sym r.0) new)
      | inr e ↦ subst (λ (z : X). Q j z) (sym e) (old j)
    ]

module _ {C : Type 0} (stepped : C → Kind → ℕ → C × ℕ) (events : List Event) (p : Partition) (comps : List C) (all : List FiredEvent) (o : IsOrder events all) (div : IsPartition events p) where
  -- a domain with its events up to the cut fired
  pub record Stands (words : List Word) (cut domain : ℕ) (own : DomainState) : Type 0 where
    pub fired : own.fired ≡ of_domain p.places domain (take cut all)
    pub known : AreSoundWords all p own.known
    pub floor : IsSoundFloor all p domain own
    pub kept : (number : ℕ) (x : Crossing) → slice_get p.crossings number ≡ Some x → x.target ≡ domain
        → is_exact (word_at own.known number) ≡ true → is_exact (word_at words number) ≡ true

  -- so the bounds that it takes of what it was told are
  pub bounds_of : (words : List Word) (cut domain : ℕ) (own : DomainState) → Stands words cut domain own → AreSoundBounds events all p domain own
  bounds_of words cut domain own h = sound_bounds events p all o div domain own h.known h.floor

  -- the same, whatever the words are
  pub record Sits (cut domain : ℕ) (own : DomainState) : Type 0 where
    pub fired : own.fired ≡ of_domain p.places domain (take cut all)
    pub known : AreSoundWords all p own.known
    pub floor : IsSoundFloor all p domain own

  pub record AreFronts (s : MachineState C) : Type 0 where
    pub count : length s.domains ≡ length p.events
    pub cut : ℕ → ℕ
    pub domains : (domain : ℕ) → Sits (cut domain) domain (state_of s domain)

  pub bounds_from : (cut domain : ℕ) (own : DomainState) → Sits cut domain own → AreSoundBounds events all p domain own
  bounds_from cut domain own h = sound_bounds events p all o div domain own h.known h.floor

  -- a word is sound, and exact only where the parent has fired
  pub record IsTrueWord (cut : ℕ → ℕ) (number : ℕ) (w : Word) : Type 0 where
    pub sound : (x : Crossing) → slice_get p.crossings number ≡ Some x → IsSoundWord all x w
    pub fired : (x : Crossing) → slice_get p.crossings number ≡ Some x → is_exact w ≡ true
        → is_fired (of_domain p.places x.source (take (cut x.source) all)) x.parent ≡ true

  pub record Holds (s : MachineState C) : Type 0 where
    pub count : length s.domains ≡ length p.events
    pub cut : ℕ → ℕ
    pub domains : (domain : ℕ) → Stands s.words (cut domain) domain (state_of s domain)
    pub words : (number : ℕ) → IsTrueWord cut number (word_at s.words number)
    pub comps_are : (number : ℕ) → slice_get s.comps number
        ≡ option_map (λ c. after_serving stepped c (of_component number (take (cut (domain_at p.places number)) all))) (slice_get comps number)

  abbrev pub fronts : (s : MachineState C) → Holds s → AreFronts s
  fronts s h = record {
    count = h.count;
    cut = h.cut;
    domains = λ d. record { fired = (h.domains d).fired; known = (h.domains d).known; floor = (h.domains d).floor };
  }

  given : (s : MachineState C) (number : ℕ) (test : Crossing → Bool) → crossing_passes events p stepped number test ≡ true
      → (x : Crossing) × ((slice_get p.crossings number ≡ Some x) × (test x ≡ true))
  given s number test h = finding_option (slice_get p.crossings number) test h

  -- a look
  pub looks : (s : MachineState C) (domain number : ℕ) → Holds s → is_allowed events p stepped s (look domain number) ≡ true
      → Holds (effect_of events p stepped s (look domain number))
  looks s domain number h allowed = record {
    count = length-set s.domains domain _ ∙ h.count;
    cut = h.cut;
    domains = written (λ d own. Stands s.words (h.cut d) d own) s.domains domain _ fresh_domain
        (record {
          fired = (h.domains domain).fired;
          known = record {
            each = λ n x there.
                written (λ m w. (y : Crossing) → slice_get p.crossings m ≡ Some y → IsSoundWord all y w) (state_of s domain).known number (word_at s.words number) (Bound 0)
                ((h.words number).sound) (λ m y e. (h.domains domain).known.each m y e) n x there;
          };
          floor = record {
            each = λ n x there target unknown.
                (h.domains domain).floor.each n x there target
                (elim (read_after (state_of s domain).known number (word_at s.words number) (Bound 0) n) [
                  | inr e ↦ ap is_exact (sym e) ∙ unknown
                  | inl r ↦
                      elim (test_cases (is_exact (word_at (state_of s domain).known n))) [
                        | inr f ↦ f
                        | inl t ↦
                            let shut : is_exact (word_at s.words number) ≡ true = ap (λ m. is_exact (word_at s.words m)) (sym r.0) ∙ (h.domains domain).kept n x there target t in
                            absurd (false≢true (sym unknown ∙ (ap is_exact r.1 ∙ shut)))
                      ]
                ]);
          };
          kept = λ n x there target exact.
              elim (read_after (state_of s domain).known number (word_at s.words number) (Bound 0) n) [
                | inr e ↦ (h.domains domain).kept n x there target (ap is_exact (sym e) ∙ exact)
                | inl r ↦ ap (λ m. is_exact (word_at s.words m)) r.0 ∙ (ap is_exact (sym r.1) ∙ exact)
              ];
        })
        h.domains;
    words = h.words;
    comps_are = h.comps_are;
  }

  -- a raise

  raised : (s : MachineState C) (domain number bound : ℕ) (x : Crossing) (h : Holds s) → slice_get p.crossings number ≡ Some x
      → may_raise events p stepped s domain number bound x ≡ true
      → (bound ≤ finish_in all x.parent) × (is_fired (of_domain p.places x.source (take (h.cut x.source) all)) x.parent ≡ false)
  raised s domain number bound x h there allowed =
      let a = both (eqb x.source domain) _ allowed in
      let b = both (not (is_fired (state_of s domain).fired x.parent)) _ a.1 in
      let c = both (leb (cycle_of (word_at s.words number)) bound) _ b.1 in
      let source : x.source ≡ domain = test_eq x.source domain a.0 in
      let own : Stands s.words (h.cut domain) domain (state_of s domain) = h.domains domain in
      let unfired : is_fired (of_domain p.places domain (take (h.cut domain) all)) x.parent ≡ false =
      ap (λ (xs : List FiredEvent). is_fired xs x.parent) (sym own.fired) ∙ not_true (is_fired (state_of s domain).fired x.parent) b.0
      in
      let own_unfired : is_fired (state_of s domain).fired x.parent ≡ false = not_true (is_fired (state_of s domain).fired x.parent) b.0 in
      let may : MayRaise events p domain (state_of s domain) x bound = record { number = number; there = there; source = source; unfired = own_unfired; allowed = c.1 } in (
        below_finish events p all o div domain (h.cut domain) (state_of s domain) own.fired own.known (bounds_of _ _ _ _ own) x bound may,
        subst (λ n. is_fired (of_domain p.places n (take (h.cut n) all)) x.parent ≡ false) (sym source) unfired,
      )

  pub raises : (s : MachineState C) (domain number bound : ℕ) → Holds s → is_allowed events p stepped s (raise domain number bound) ≡ true
      → Holds (effect_of events p stepped s (raise domain number bound))
  raises s domain number bound h allowed =
      let g : (x : Crossing) × ((slice_get p.crossings number ≡ Some x) × (may_raise events p stepped s domain number bound x ≡ true)) =
      given s number (may_raise events p stepped s domain number bound) allowed
      in
      let r = raised s domain number bound g.0 h g.1.0 g.1.1 in
      let same : (y : Crossing) → slice_get p.crossings number ≡ Some y → g.0 ≡ y = λ y e. same_Some g.0 y (sym g.1.0 ∙ e) in
      record {
        count = h.count;
        cut = h.cut;
        domains = λ d. record {
          fired = (h.domains d).fired;
          known = (h.domains d).known;
          floor = (h.domains d).floor;
          kept = λ n x there target exact.
              elim (read_after s.words number (Bound bound) (Bound 0) n) [
                | inr e ↦ ap is_exact e ∙ (h.domains d).kept n x there target exact
                | inl v ↦
                    let was : is_exact (word_at s.words n) ≡ true = (h.domains d).kept n x there target exact in
                    let f : is_fired (of_domain p.places x.source (take (h.cut x.source) all)) x.parent ≡ true = (h.words n).fired x there was in
                    let is : g.0 ≡ x = same x (ap (slice_get p.crossings) (sym v.0) ∙ there) in
                    absurd (false≢true (sym (subst (λ (z : Crossing). is_fired (of_domain p.places z.source (take (h.cut z.source) all)) z.parent ≡ false) is r.1) ∙ f))
              ];
        };
        words = written (λ n w. IsTrueWord h.cut n w) s.words number (Bound bound) (Bound 0)
            (record {
              sound = λ y e. subst (λ (z : Crossing). bound ≤ finish_in all z.parent) (same y e) r.0;
              fired = λ y e exact. absurd (false≢true exact);
            })
            h.words;
        comps_are = h.comps_are;
      }

  -- a publish
  pub publishes : (s : MachineState C) (domain number : ℕ) → Holds s → is_allowed events p stepped s (publish domain number) ≡ true
      → Holds (effect_of events p stepped s (publish domain number))
  publishes s domain number h allowed =
      let g : (x : Crossing) × ((slice_get p.crossings number ≡ Some x) × ((eqb x.source domain && is_fired (state_of s domain).fired x.parent) ≡ true)) =
      given s number (λ x. eqb x.source domain && is_fired (state_of s domain).fired x.parent) allowed
      in
      let a = both (eqb g.0.source domain) (is_fired (state_of s domain).fired g.0.parent) g.1.1 in
      let source : g.0.source ≡ domain = test_eq g.0.source domain a.0 in
      let own : Stands s.words (h.cut domain) domain (state_of s domain) = h.domains domain in
      let fired : is_fired (of_domain p.places domain (take (h.cut domain) all)) g.0.parent ≡ true = ap (λ (xs : List FiredEvent). is_fired xs g.0.parent) (sym own.fired) ∙ a.1 in
      let r = finding (of_domain p.places domain (take (h.cut domain) all)) g.0.parent fired in
      let place = from_domain events all o p.places domain (h.cut domain) r.0 r.1.1.0 in
      let whole : find_fired all g.0.parent ≡ Some r.0 = subst (λ n. find_fired all n ≡ Some r.0) r.1.1.1 (all_known events all o place.0 r.0 place.1.1.0) in
      let finish : finish_of_parent events p stepped s domain number ≡ finish_in all g.0.parent =
      ap (λ (z : Option Crossing). option_map_or (λ x. finish_in (state_of s domain).fired x.parent) z 0) g.1.0
      ∙ (ap (λ (xs : List FiredEvent). finish_in xs g.0.parent) own.fired ∙ ap finish_or_zero (r.1.0 ∙ sym whole))
      in
      let same : (y : Crossing) → slice_get p.crossings number ≡ Some y → g.0 ≡ y = λ y e. same_Some g.0 y (sym g.1.0 ∙ e) in
      record {
        count = h.count;
        cut = h.cut;
        domains = λ d. record {
          fired = (h.domains d).fired;
          known = (h.domains d).known;
          floor = (h.domains d).floor;
          kept = λ n x there target exact.
              elim (read_after s.words number (Exact (finish_of_parent events p stepped s domain number)) (Bound 0) n) [
                | inr e ↦ ap is_exact e ∙ (h.domains d).kept n x there target exact
                | inl v ↦ ap is_exact v.1
              ];
        };
        words = written (λ n w. IsTrueWord h.cut n w) s.words number (Exact (finish_of_parent events p stepped s domain number)) (Bound 0)
            (record {
              sound = λ y e. subst (λ (z : Crossing). finish_of_parent events p stepped s domain number ≡ finish_in all z.parent) (same y e) finish;
              fired = λ y e exact.
                  subst (λ (z : Crossing). is_fired (of_domain p.places z.source (take (h.cut z.source) all)) z.parent ≡ true) (same y e)
                  (subst (λ n. is_fired (of_domain p.places n (take (h.cut n) all)) g.0.parent ≡ true) (sym source) fired);
            })
            h.words;
        comps_are = h.comps_are;
      }
