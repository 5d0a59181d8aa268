-- Every list of steps, from the start.
use Rattle.std.proofs.Common.{◌≡◌, ◌<◌, ℕ, zero, suc, Bool, true, false, cond, eqb, List, [], ◌∷◌, length, map, get_or, take, ◌⊎◌, Option, Some, None, slice_get, sym, ◌∙◌, ap, subst, refl, inl, inr, arith}
use Rattle.std.proofs.lemmas.List.{length-map}
use Rattle.std.proofs.lemmas.Bool.{false≢true}
use Rattle.std.specs.Option.{option_map}
use Rattle.zs_num.specs.declared.time.Word.{Word}
use Rattle.zs_num.specs.declared.time.Word.TheVariants.{Bound}
use Rattle.component.specs.declared.kind.Kind.{Kind}
use Rattle.event_graph.specs.declared.event.Event.{Event}
use Rattle.event_graph.specs.OneListWeave.{FiredEvent, weave}
use Rattle.event_graph.specs.ServedEvents.{after_serving, of_component}
use Rattle.domain_map.specs.declared.crossing.Crossing.{Crossing}
use Rattle.domain_map.specs.Domains.{Partition, IsPartition, domain_at, domain_of_event}
use Rattle.weave_core.specs.DomainMachine.{DomainState, MachineState, Step, after_steps, at_rest, effect_of, fresh_domain, is_allowed, is_exact, look, raise, fire, publish, barrier, state_of, take_step, word_at}
use Rattle.weave_core.specs.Soundness.{IsSoundWord}
use Rattle.weave_core.specs.Interleavings.{FollowsTheWeave, IsFront, of_domain}
use Rattle.weave_core.proofs.Fronts.{filter_front}
use Rattle.weave_core.proofs.Firing.{IsOrder}
use Rattle.weave_core.proofs.Joined.{eq_test, test_eq}
use Rattle.weave_core.proofs.Steps.{Holds, Stands, looks, publishes, raises}
use Rattle.weave_core.proofs.Fires.{IsServed, fires}
use Rattle.weave_core.proofs.Barriers.{barriers}

-- a list of one value, and the same value past its end
one_value : {X Y : Type 0} (v : Y) (xs : List X) (j : ℕ) → get_or (map (λ x. v) xs) j v ≡ v
one_value v [] j = refl
one_value v (x ∷ xs) zero = refl
one_value v (x ∷ xs) (suc j) = one_value v xs j

either_value : {X Y : Type 0} (v d : Y) (xs : List X) (j : ℕ) → (get_or (map (λ x. v) xs) j d ≡ v) ⊎ (get_or (map (λ x. v) xs) j d ≡ d)
either_value v d [] j = inr refl
either_value v d (x ∷ xs) zero = inl refl
either_value v d (x ∷ xs) (suc j) = either_value v d xs j

module _ {C : Type 0} (stepped : C → Kind → ℕ → C × ℕ) (events : List Event) (p : Partition) (comps : List C) (all : List FiredEvent)
    (o : IsOrder events all) (div : IsPartition events p) (serves : IsServed stepped comps all)
    (here : (k : ℕ) (x : FiredEvent) → slice_get all k ≡ Some x → domain_of_event p.places x.event < length p.events) where
  no_bound : (number : ℕ) → word_at (map (λ x. Bound 0) p.crossings) number ≡ Bound 0
  no_bound number = one_value (Bound 0) p.crossings number

  nothing_known : (words : List Word) → ((number : ℕ) → word_at words number ≡ Bound 0) → (domain : ℕ) (known : List Word) → ((number : ℕ) → word_at known number ≡ Bound 0)
      → Stands stepped events p comps all o div words 0 domain (record { fired = []; known = known; floor = 0 })
  nothing_known words w domain known k = record {
    fired = refl;
    known = record { each = λ number x there. subst (λ (z : Word). IsSoundWord all x z) (sym (k number)) (omega arith) };
    floor = record { each = λ number x there target unknown. omega arith };
    kept = λ number x there target exact. absurd (false≢true (ap is_exact (sym (k number)) ∙ exact));
  }

  begins : Holds stepped events p comps all o div (at_rest p comps)
  begins = record {
    count = length-map p.events _;
    cut = λ d. 0;
    domains = λ d.
        elim (either_value {X = List ℕ} (record { fired = []; known = map (λ (x : Crossing). Bound 0) p.crossings; floor = 0 }) fresh_domain p.events d) [
          | inl e ↦
              subst (λ (z : DomainState). Stands stepped events p comps all o div (map (λ (x : Crossing). Bound 0) p.crossings) 0 d z) (sym e)
              (nothing_known (map (λ (x : Crossing). Bound 0) p.crossings) no_bound d (map (λ (x : Crossing). Bound 0) p.crossings) no_bound)
          | inr e ↦
              subst (λ (z : DomainState). Stands stepped events p comps all o div (map (λ (x : Crossing). Bound 0) p.crossings) 0 d z) (sym e)
              (nothing_known (map (λ (x : Crossing). Bound 0) p.crossings) no_bound d [] (λ number. refl))
        ];
    words = λ number. record {
      sound = λ x there. subst (λ (z : Word). IsSoundWord all x z) (sym (no_bound number)) (omega arith);
      fired = λ x there exact. absurd (false≢true (ap is_exact (sym (no_bound number)) ∙ exact));
    };
    comps_are = λ number. same (slice_get comps number);
  }
    where
      same : (z : Option C) → z ≡ option_map (λ c. c) z
      same None = refl
      same (Some c) = refl

  one_step : (s : MachineState C) (step : Step) → Holds stepped events p comps all o div s → is_allowed events p stepped s step ≡ true
      → Holds stepped events p comps all o div (effect_of events p stepped s step)
  one_step s (look domain number) h a = looks stepped events p comps all o div s domain number h a
  one_step s (raise domain number bound) h a = raises stepped events p comps all o div s domain number bound h a
  one_step s (fire domain) h a = fires stepped events p comps all o div serves here s domain h a
  one_step s (publish domain number) h a = publishes stepped events p comps all o div s domain number h a
  one_step s barrier h a = barriers stepped events p comps all o div here s h a

  taken : (s : MachineState C) (step : Step) → Holds stepped events p comps all o div s → Holds stepped events p comps all o div (take_step events p stepped s step)
  unfolding take_step
  taken s step h = by_test (is_allowed events p stepped s step) refl
    where
      by_test : (t : Bool) → is_allowed events p stepped s step ≡ t → Holds stepped events p comps all o div (cond t (effect_of events p stepped s step) s)
      by_test true e = one_step s step h e
      by_test false e = h

  pub all_steps : (s : MachineState C) (steps : List Step) → Holds stepped events p comps all o div s → Holds stepped events p comps all o div (after_steps events p stepped s steps)
  all_steps s [] h = h
  all_steps s (step ∷ rest) h = all_steps (take_step events p stepped s step) rest (taken s step h)

  pub from_rest : (steps : List Step) → Holds stepped events p comps all o div (after_steps events p stepped (at_rest p comps) steps)
  from_rest steps = all_steps (at_rest p comps) steps begins

  pub fronts : (s : MachineState C) → Holds stepped events p comps all o div s → (domain : ℕ) → IsFront (state_of s domain).fired (of_domain p.places domain all)
  fronts s h domain =
      subst (λ (xs : List FiredEvent). xs ≡ take (length xs) (of_domain p.places domain all)) (sym (h.domains domain).fired)
      (filter_front (λ (x : FiredEvent). eqb (domain_of_event p.places x.event) domain) all (h.cut domain))

  -- a component's events are its domain's
  pub narrowed : (number : ℕ) (xs : List FiredEvent) → of_component number xs ≡ of_component number (of_domain p.places (domain_at p.places number) xs)
  narrowed number [] = refl
  narrowed number (x ∷ xs) =
      by_tests (eqb x.event.component number) refl (eqb (domain_of_event p.places x.event) (domain_at p.places number)) refl (narrowed number xs)
    where
      by_tests : (t : Bool) → eqb x.event.component number ≡ t → (u : Bool) → eqb (domain_of_event p.places x.event) (domain_at p.places number) ≡ u
          → of_component number xs ≡ of_component number (of_domain p.places (domain_at p.places number) xs)
          → cond t (x ∷ of_component number xs) (of_component number xs)
          ≡ of_component number (cond u (x ∷ of_domain p.places (domain_at p.places number) xs) (of_domain p.places (domain_at p.places number) xs))
      by_tests true a true b rest =
          ap (λ (zs : List FiredEvent). x ∷ zs) rest
          ∙ sym (ap (λ (v : Bool). cond v (x ∷ of_component number (of_domain p.places (domain_at p.places number) xs)) (of_component number (of_domain p.places (domain_at p.places number) xs))) a)
      by_tests true a false b rest =
          absurd (false≢true (sym b ∙ eq_test (domain_of_event p.places x.event) (domain_at p.places number) (ap (domain_at p.places) (test_eq x.event.component number a))))
      by_tests false a true b rest =
          rest ∙ sym (ap (λ (v : Bool). cond v (x ∷ of_component number (of_domain p.places (domain_at p.places number) xs)) (of_component number (of_domain p.places (domain_at p.places number) xs))) a)
      by_tests false a false b rest = rest

  pub comps_follow : (s : MachineState C) → Holds stepped events p comps all o div s → (number : ℕ)
      → slice_get s.comps number ≡ option_map (λ c. after_serving stepped c (of_component number (state_of s (domain_at p.places number)).fired)) (slice_get comps number)
  comps_follow s h number =
      h.comps_are number
      ∙ ap (λ (xs : List FiredEvent). option_map (λ c. after_serving stepped c xs) (slice_get comps number))
      (narrowed number (take (h.cut (domain_at p.places number)) all)
      ∙ ap (of_component number) (sym (h.domains (domain_at p.places number)).fired))

-- each event's domain is there
pub domain_there : (events : List Event) (p : Partition) (all : List FiredEvent) → IsOrder events all → IsPartition events p
    → ((i : ℕ) (e : Event) → slice_get events i ≡ Some e → e.component < length p.places)
    → (k : ℕ) (x : FiredEvent) → slice_get all k ≡ Some x → domain_of_event p.places x.event < length p.events
domain_there events p all o div within k x h =
    div.there.below x.event.component 0 (within x.event.number x.event (o.event k x h))

-- what the law says of a state that holds
pub follows : {C : Type 0} (stepped : C → Kind → ℕ → C × ℕ) (events : List Event) (p : Partition) (comps : List C)
    (o : IsOrder events (weave stepped events comps).fired) (div : IsPartition events p)
    (serves : IsServed stepped comps (weave stepped events comps).fired)
    (here : (k : ℕ) (x : FiredEvent) → slice_get (weave stepped events comps).fired k ≡ Some x → domain_of_event p.places x.event < length p.events) (s : MachineState C)
    → Holds stepped events p comps (weave stepped events comps).fired o div s → FollowsTheWeave stepped events p comps s
follows stepped events p comps o div serves here s h = record {
  fired = fronts stepped events p comps (weave stepped events comps).fired o div serves here s h;
  comps_are = comps_follow stepped events p comps (weave stepped events comps).fired o div serves here s h;
  words = record { each = λ number x there. (h.words number).sound x there };
  known = λ domain. (h.domains domain).known;
  floors = λ domain. (h.domains domain).floor;
}
