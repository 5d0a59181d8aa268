-- A round: one domain after the other runs, and tells the others.
use Rattle.std.proofs.Common.{◌≡◌, ◌+◌, ◌<◌, ◌≤◌, ◌^◌, ℕ, zero, suc, Bool, true, false, max, List, [], ◌∷◌, length, map, set, get_or, Some, None, slice_get, sym, ◌∙◌, ap, subst, refl, inl, inr, arith, length-set}
use Rattle.std.proofs.lemmas.Bool.{false≢true, cases_lt, cases_eq}
use Rattle.std.proofs.lemmas.List.{length-map}
use Rattle.std.proofs.lemmas.Option.{same_Some, none-some, slice_get-get_or, slice_get_within}
use Rattle.component.specs.declared.kind.Kind.{Kind}
use Rattle.event_graph.specs.declared.event.Event.{Event}
use Rattle.event_graph.specs.OneListWeave.{FiredEvent, is_fired, weave, woven}
use Rattle.event_graph.specs.declared.fired.Fired.{Fired}
use Rattle.weave_core.specs.Layout.{timed_from}
use Rattle.domain_map.specs.declared.crossing.Crossing.{Crossing}
use Rattle.domain_map.specs.Domains.{Partition, domain_of_event}
use Rattle.weave_core.specs.AtBarrier.{IsFirstLeft, MayGoOn, least_start_of}
use Rattle.weave_core.specs.DomainCalls.{DomainValue}
use Rattle.weave_core.specs.DomainMachine.{DomainState, is_clear, is_exact, with_floor, word_at}
use Rattle.weave_core.specs.Keeping.{HaveAllFired, IsKept, KeepingLaws, owns_of}
use Rattle.weave_core.specs.Soundness.{IsSoundFloor}
use Rattle.weave_run.specs.Rounds.{AllGrow, AllKeep, AllLearn, AreMet, CanWeavePlan, Grows, HasGoneOn, HasMet, HasRun, HasRunHere, HasRunRound, HasToldRest, HaveFloor, HaveLearned, IsResolved, KeepsToWeave, own_in, with_floors}
use Rattle.weave_run.specs.declared.plan.Plan.{Plan}
use Rattle.weave_run.proofs.Firings.{StandsIn, fired_by_more, fired_there, front_get, is_fired_at}
use Rattle.weave_run.proofs.Running.{same_value, same_words}
use Rattle.weave_run.proofs.Tellings.{get_set_other, get_set_same, grows_by_learning, grows_nothing, grows_twice, learn_more, learns_nothing, own_set_other, own_set_same, own_there, stays_exact}

pub still_fired : (a b : DomainState) (n : ℕ) → Grows a b → is_fired a.fired n ≡ true → is_fired b.fired n ≡ true
still_fired a b n g h = ap (λ (xs : List FiredEvent). is_fired xs n) g.fired ∙ fired_by_more a.fired g.rest n h

module _ {C : Type 0} (stepped : C → Kind → ℕ → C × ℕ) (plan : Plan C) where
  -- After domains ran, each was told of the finishes of what the others fired meanwhile.
  pub met_again : (old mid new : List (DomainValue C)) → AreMet stepped plan old → AllGrow old mid → AllKeep stepped plan new → AllLearn mid new
      → ((source at : ℕ) (y : FiredEvent) → length (own_in old source).fired ≤ at → slice_get (own_in mid source).fired at ≡ Some y
      → (number : ℕ) (x : Crossing) → slice_get plan.parts.value.crossings number ≡ Some x → x.parent ≡ y.event.number → IsResolved new number x)
      → HasMet stepped plan old new
  met_again old mid new m grow kept learn told = record {
    met = record {
      kept = kept;
      told = record {
        each = λ n x there fired.
            let f : StandsIn (own_in mid x.source).fired x.parent = fired_there (own_in mid x.source).fired x.parent (ap (λ (xs : List FiredEvent). is_fired xs x.parent) (sym (learn.each x.source).fired) ∙ fired) in
            elim (cases_lt f.place (length (own_in old x.source).fired)) [
              | inr past ↦ told x.source f.place f.firing (omega (arith, past)) f.there n x there (sym f.number)
              | inl less ↦
                  let g : Grows (own_in old x.source) (own_in mid x.source) = grow.each x.source in
                  let before : slice_get (own_in old x.source).fired f.place ≡ Some f.firing =
                  sym (front_get (own_in old x.source).fired g.rest f.place less) ∙ (ap (λ (xs : List FiredEvent). slice_get xs f.place) (sym g.fired) ∙ f.there)
                  in
                  stays_exact (own_in mid x.target) (own_in new x.target) n ((learn.each x.target).words n)
                  (stays_exact (own_in old x.target) (own_in mid x.target) n ((grow.each x.target).words n)
                  (m.told.each n x there (is_fired_at (own_in old x.source).fired f.place f.firing x.parent before f.number)))
            ];
      };
    };
    grow = record { each = λ d. grows_twice (own_in old d) (own_in mid d) (own_in new d) (grow.each d) (grows_by_learning (own_in mid d) (own_in new d) (learn.each d)) };
  }

  -- a domain ran, and told the others nothing yet
  pub record HasRunAt (old new : List (DomainValue C)) (domain place : ℕ) : Type 0 where
    pub kept : AllKeep stepped plan new
    pub grow : AllGrow old new
    pub others : (other : ℕ) → (other ≡ domain → ⊥) → own_in new other ≡ own_in old other
    pub before : place ≡ length (own_in old domain).fired
    pub goes_on : HasGoneOn plan.graph.value plan.parts.value domain (own_in old domain) (own_in new domain)

  pub ran_at : (vs : List (DomainValue C)) (d : ℕ) (v w : DomainValue C) → AreMet stepped plan vs → slice_get vs d ≡ Some v → HasRun stepped plan v w → HasRunAt vs (set vs d w) d (length v.own.fired)
  ran_at vs d v w m at h =
      let i : IsKept stepped plan.graph.value plan.parts.value plan.comps.value d v = m.kept.each d v at in
      let v_is : v.domain ≡ d = ap (λ (z : DomainValue C). z.domain) i.is in
      let w_is : w.domain ≡ d = h.same ∙ v_is in
      let below : d < length vs = slice_get_within vs d v at in
      let before : own_in vs d ≡ v.own = own_there vs d v at in
      let after : own_in (set vs d w) d ≡ w.own = own_set_same vs d w below in
      let kept_w : IsKept stepped plan.graph.value plan.parts.value plan.comps.value d w = subst (λ (n : ℕ). IsKept stepped plan.graph.value plan.parts.value plan.comps.value n w) w_is h.kept in
      record {
        kept = record {
          count = length-set vs d w ∙ m.kept.count;
          each = λ x u there.
              elim (cases_eq x d) [
                | inr other ↦ m.kept.each x u (sym (get_set_other vs d x w other) ∙ there)
                | inl same ↦
                    let u_is : w ≡ u = same_Some w u (sym (get_set_same vs d w below) ∙ (ap (slice_get (set vs d w)) (sym same) ∙ there)) in
                    subst (λ (n : ℕ). IsKept stepped plan.graph.value plan.parts.value plan.comps.value n u) (sym same)
                    (subst (IsKept stepped plan.graph.value plan.parts.value plan.comps.value d) u_is kept_w)
              ];
        };
        grow = record {
          each = λ x.
              elim (cases_eq x d) [
                | inr other ↦ subst (Grows (own_in vs x)) (sym (own_set_other vs d x w other)) (grows_nothing (own_in vs x))
                | inl same ↦
                    subst (λ (n : ℕ). Grows (own_in vs n) (own_in (set vs d w) n)) (sym same)
                    (subst (λ (a : DomainState). Grows a (own_in (set vs d w) d)) (sym before) (subst (Grows v.own) (sym after) h.grows))
              ];
        };
        others = λ x other. own_set_other vs d x w other;
        before = ap (λ (a : DomainState). length a.fired) (sym before);
        goes_on = subst (λ (n : ℕ). HasGoneOn plan.graph.value plan.parts.value n (own_in vs d) (own_in (set vs d w) d)) v_is
            (subst (λ (a : DomainState). HasGoneOn plan.graph.value plan.parts.value v.domain a (own_in (set vs d w) d)) (sym before)
            (subst (HasGoneOn plan.graph.value plan.parts.value v.domain v.own) (sym after) h.goes_on));
      }

  pub keeps_here : (vs : List (DomainValue C)) (n m : ℕ) (d : DomainValue C) → AllKeep stepped plan vs → n < length vs → m ≡ n → KeepsToWeave stepped plan (get_or vs m d)
  keeps_here vs n m d k below e =
      subst (λ (z : ℕ). KeepsToWeave stepped plan (get_or vs z d)) (sym e)
      (let i : IsKept stepped plan.graph.value plan.parts.value plan.comps.value n (get_or vs n d) = k.each n (get_or vs n d) (slice_get-get_or vs n d below) in
      subst (λ (z : ℕ). IsKept stepped plan.graph.value plan.parts.value plan.comps.value z (get_or vs n d)) (sym (ap (λ (v : DomainValue C). v.domain) i.is)) i)

  pub ran_number : (vs : List (DomainValue C)) (n m : ℕ) (d f w : DomainValue C) (fs : List Fired) → AreMet stepped plan vs → n < length vs → m ≡ n
      → (get_or vs m d).own.fired ≡ map (timed_from (get_or vs m d).events) fs → HasRun stepped plan (get_or vs m f) w → HasRunAt vs (set vs m w) n (length fs)
  ran_number vs n m d f w fs met below e log h =
      let there : slice_get vs n ≡ Some (get_or vs m f) = subst (λ (z : ℕ). slice_get vs n ≡ Some (get_or vs z f)) (sym e) (slice_get-get_or vs n f below) in
      let there_too : slice_get vs n ≡ Some (get_or vs m d) = subst (λ (z : ℕ). slice_get vs n ≡ Some (get_or vs z d)) (sym e) (slice_get-get_or vs n d below) in
      let same : get_or vs m f ≡ get_or vs m d = same_Some _ _ (sym there ∙ there_too) in
      let count : length (get_or vs m f).own.fired ≡ length fs =
      ap (λ (v : DomainValue C). length v.own.fired) same ∙ (ap length log ∙ length-map fs (timed_from (get_or vs m d).events))
      in
      subst (λ (z : ℕ). HasRunAt vs (set vs z w) n (length fs)) (sym e)
      (subst (λ (z : ℕ). HasRunAt vs (set vs n w) n z) count (ran_at vs n (get_or vs m f) w met there h))

  pub run_here : (old mid new : List (DomainValue C)) (d place : ℕ) → AreMet stepped plan old → HasRunAt old mid d place → HasToldRest stepped plan mid new d place → HasRunHere stepped plan old new d
  run_here old mid new d place m a b = record {
    has_met = met_again old mid new m a.grow b.kept b.learn
        (λ source at y past there. elim (cases_eq source d) [
          | inl same ↦
              b.told at y (let e = a.before in let f = ap (λ (n : ℕ). length (own_in old n).fired) same in omega (arith, e, f, past)) (ap (λ (n : ℕ). slice_get (own_in mid n).fired at) (sym same) ∙ there)
          | inr other ↦
              absurd
              (let w = slice_get_within (own_in mid source).fired at y there in let e = ap (λ (o : DomainState). length o.fired) (a.others source other) in omega (arith, w, e, past))
        ]);
    goes_on = λ e start next clear. still_fired (own_in mid d) (own_in new d) e.number (grows_by_learning (own_in mid d) (own_in new d) (b.learn.each d)) (a.goes_on e start next clear);
  }

  -- and told them more
  pub told_more : (old mid new : List (DomainValue C)) (d : ℕ) → HasRunHere stepped plan old mid d → HaveLearned stepped plan mid new → HasRunHere stepped plan old new d
  told_more old mid new d h l = record {
    has_met = record {
      met = record {
        kept = l.kept;
        told = record {
          each = λ n x there fired.
              stays_exact (own_in mid x.target) (own_in new x.target) n ((l.learn.each x.target).words n)
              (h.has_met.met.told.each n x there (ap (λ (xs : List FiredEvent). is_fired xs x.parent) (sym (l.learn.each x.source).fired) ∙ fired));
        };
      };
      grow = record {
        each = λ z. grows_twice (own_in old z) (own_in mid z) (own_in new z) (h.has_met.grow.each z) (grows_by_learning (own_in mid z) (own_in new z) (l.learn.each z));
      };
    };
    goes_on = λ e start next clear. still_fired (own_in mid d) (own_in new d) e.number (grows_by_learning (own_in mid d) (own_in new d) (l.learn.each d)) (h.goes_on e start next clear);
  }

  pub learned_nothing : (vs : List (DomainValue C)) → AllKeep stepped plan vs → HaveLearned stepped plan vs vs
  learned_nothing vs k = record { kept = k; learn = record { each = λ d. learns_nothing (own_in vs d) } }

  pub learned_twice : (first old new : List (DomainValue C)) → HaveLearned stepped plan first old → HaveLearned stepped plan old new → HaveLearned stepped plan first new
  learned_twice first old new h k = record { kept = k.kept; learn = learn_more first old new h.learn k.learn }

  -- the domains below a number have run
  pub record HasRunUpto (old new : List (DomainValue C)) (number : ℕ) : Type 0 where
    pub met : AreMet stepped plan new
    pub grow : AllGrow old new
    pub advanced : (index : ℕ) (x : FiredEvent) → IsFirstLeft stepped plan.graph.value plan.parts.value plan.comps.value (owns_of old) index x
        → is_clear plan.graph.value plan.parts.value (domain_of_event plan.parts.value.places x.event) (own_in old (domain_of_event plan.parts.value.places x.event)) x.start ≡ true
        → domain_of_event plan.parts.value.places x.event < number → is_fired (own_in new (domain_of_event plan.parts.value.places x.event)).fired x.event.number ≡ true

  pub none_ran : (vs : List (DomainValue C)) → AreMet stepped plan vs → HasRunUpto vs vs 0
  none_ran vs m = record { met = m; grow = record { each = λ d. grows_nothing (own_in vs d) }; advanced = λ index x f clear l. absurd (omega (arith, l)) }

module _ {C : Type 0} (serves : C → Kind → Bool) (floor : C → Kind → ℕ) (stepped : C → Kind → ℕ → C × ℕ) (greatest : C → Kind → ℕ → ℕ) (laws : KeepingLaws serves floor stepped greatest)
    (plan : Plan C) (can : CanWeavePlan serves floor stepped greatest plan) where
  abbrev events : List Event
  events = plan.graph.value

  abbrev partition : Partition
  partition = plan.parts.value

  abbrev all : List FiredEvent
  all = (weave stepped events plan.comps.value).fired

  pub one_ran : (first old new : List (DomainValue C)) (number : ℕ) → HasRunUpto stepped plan first old number → HasRunHere stepped plan old new number → HasRunUpto stepped plan first new (number + 1)
  one_ran first old new number h r = record {
    met = r.has_met.met;
    grow = record { each = λ x. grows_twice (own_in first x) (own_in old x) (own_in new x) (h.grow.each x) (r.has_met.grow.each x) };
    advanced = λ index x f clear l.
        let d : ℕ = domain_of_event partition.places x.event in
        by_fired index x f clear l (is_fired (own_in old (domain_of_event partition.places x.event)).fired x.event.number) refl;
  }
    where
      by_fired : (index : ℕ) (x : FiredEvent) → IsFirstLeft stepped events partition plan.comps.value (owns_of first) index x
          → is_clear events partition (domain_of_event partition.places x.event) (own_in first (domain_of_event partition.places x.event)) x.start ≡ true
          → domain_of_event partition.places x.event < number + 1 → (t : Bool) → is_fired (own_in old (domain_of_event partition.places x.event)).fired x.event.number ≡ t
          → is_fired (own_in new (domain_of_event partition.places x.event)).fired x.event.number ≡ true
      by_fired index x f clear l true e = still_fired (own_in old (domain_of_event partition.places x.event)) (own_in new (domain_of_event partition.places x.event)) x.event.number (r.has_met.grow.each (domain_of_event partition.places x.event)) e
      by_fired index x f clear l false e =
          elim (cases_lt (domain_of_event partition.places x.event) number) [
            | inl less ↦ absurd (false≢true (sym e ∙ h.advanced index x f clear less))
            | inr past ↦
                let here : number ≡ domain_of_event partition.places x.event = omega (arith, l, past) in
                let left : IsFirstLeft stepped events partition plan.comps.value (owns_of old) index x =
                record {
                  there = f.there;
                  unfired = e;
                  before = λ j y k at.
                      still_fired (own_in first (domain_of_event partition.places y.event)) (own_in old (domain_of_event partition.places y.event)) y.event.number (h.grow.each (domain_of_event partition.places y.event)) (f.before j y k at);
                }
                in
                let go : MayGoOn events partition (owns_of old) x = laws.goes_on events partition plan.comps.value can old index x h.met.kept h.met.told left in
                let g = h.grow.each (domain_of_event partition.places x.event) in
                let clear_now : is_clear events partition (domain_of_event partition.places x.event) (own_in old (domain_of_event partition.places x.event)) x.start ≡ true =
                laws.stays_clear events partition (domain_of_event partition.places x.event) (own_in first (domain_of_event partition.places x.event)) (own_in old (domain_of_event partition.places x.event)) x.start
                (let same = g.floor in omega (arith, same)) g.words clear
                in
                subst (λ (n : ℕ). HasGoneOn events partition n (own_in old n) (own_in new n)) here r.goes_on x.event x.start go.next clear_now
          ]

  pub all_ran : (first new : List (DomainValue C)) (number : ℕ) → HasRunUpto stepped plan first new number → length partition.events ≤ number → HasRunRound stepped plan first new
  all_ran first new number h l = record {
    has_met = record { met = h.met; grow = h.grow };
    advanced = λ index x f clear. h.advanced index x f clear (let b = laws.here events partition plan.comps.value can index x f.there in omega (arith, b, l));
  }

-- the rounds so far

same_fired : {C : Type 0} (floor : ℕ) (vs : List (DomainValue C)) (d : ℕ) → (own_in (with_floors floor vs) d).fired ≡ (own_in vs d).fired
same_fired floor [] zero = refl
same_fired floor [] (suc d) = refl
same_fired floor (v ∷ vs) zero = refl
same_fired floor (v ∷ vs) (suc d) = same_fired floor vs d

same_known : {C : Type 0} (floor : ℕ) (vs : List (DomainValue C)) (d : ℕ) → (own_in (with_floors floor vs) d).known ≡ (own_in vs d).known
same_known floor [] zero = refl
same_known floor [] (suc d) = refl
same_known floor (v ∷ vs) zero = refl
same_known floor (v ∷ vs) (suc d) = same_known floor vs d

floor_there : {C : Type 0} (floor : ℕ) (vs : List (DomainValue C)) (d : ℕ) → d < length vs → (own_in (with_floors floor vs) d).floor ≡ floor
floor_there floor [] d l = absurd (omega arith)
floor_there floor (v ∷ vs) zero l = refl
floor_there floor (v ∷ vs) (suc d) l = floor_there floor vs d (omega arith)

pub floored : {C : Type 0} (floor : ℕ) (vs : List (DomainValue C)) (d : ℕ) (u : DomainValue C) → slice_get (with_floors floor vs) d ≡ Some u
    → (v : DomainValue C) × ((slice_get vs d ≡ Some v) × (u ≡ record v { own = with_floor floor v.own }))
floored floor [] d u h = absurd (none-some u h)
floored floor (v ∷ vs) zero u h = (v, (refl, sym (same_Some _ u h)))
floored floor (v ∷ vs) (suc d) u h = floored floor vs d u h

module _ {C : Type 0} (stepped : C → Kind → ℕ → C × ℕ) (plan : Plan C) where
  pub record HasRounds (vs : List (DomainValue C)) (floor round : ℕ) : Type 0 where
    pub met : AreMet stepped plan vs
    pub floors : HaveFloor vs floor
    pub small : floor ≤ 2 ^ 62
    pub upto : (i : ℕ) (y : FiredEvent) → i < round → slice_get (weave stepped plan.graph.value plan.comps.value).fired i ≡ Some y
        → is_fired (own_in vs (domain_of_event plan.parts.value.places y.event)).fired y.event.number ≡ true

  pub no_round : (vs : List (DomainValue C)) → AreMet stepped plan vs → HaveFloor vs 0 → HasRounds vs 0 0
  no_round vs m low = record { met = m; floors = low; small = omega arith; upto = λ i y l at. absurd (omega (arith, l)) }

  pub rises : (vs : List (DomainValue C)) (floor round front : ℕ) → HasRounds vs floor round → (d : ℕ) (v : DomainValue C) → slice_get vs d ≡ Some v → v.own.floor ≤ max front floor
  rises vs floor round front h d v at = let same = h.floors.each d v at in omega (arith, same)

module _ {C : Type 0} (serves : C → Kind → Bool) (floor_of : C → Kind → ℕ) (stepped : C → Kind → ℕ → C × ℕ) (greatest : C → Kind → ℕ → ℕ) (laws : KeepingLaws serves floor_of stepped greatest)
    (plan : Plan C) (can : CanWeavePlan serves floor_of stepped greatest plan) (vs : List (DomainValue C)) (floor round : ℕ) (h : HasRounds stepped plan vs floor round) where
  abbrev graph : List Event
  graph = plan.graph.value

  abbrev cut : Partition
  cut = plan.parts.value

  abbrev order : List FiredEvent
  order = (weave stepped graph plan.comps.value).fired

  abbrev home : FiredEvent → ℕ
  home y = domain_of_event cut.places y.event

  pub all_fired : length graph ≤ round → HaveAllFired stepped graph cut plan.comps.value (owns_of vs)
  all_fired l = λ index x at. h.upto index x (let b = slice_get_within order index x at in let n = (laws.count graph cut plan.comps.value can).0 in omega (arith, l, b, n)) at

  pub none_ready : least_start_of graph cut (owns_of vs) ≡ None → HaveAllFired stepped graph cut plan.comps.value (owns_of vs)
  none_ready none = laws.all_done graph cut plan.comps.value can vs h.met.kept h.met.told none

  module _ (front : ℕ) (least_is : least_start_of graph cut (owns_of vs) ≡ Some front) where
    abbrev higher : ℕ
    higher = max front floor

    abbrev lifted : List (DomainValue C)
    lifted = with_floors (max front floor) vs

    kept_at : (d : ℕ) (u : DomainValue C) → slice_get lifted d ≡ Some u → IsKept stepped graph cut plan.comps.value d u
    kept_at d u at =
        let w = floored (max front floor) vs d u at in
        let k : IsKept stepped graph cut plan.comps.value d w.0 = h.met.kept.each d w.0 w.1.0 in
        let own : own_in vs d ≡ w.0.own = own_there vs d w.0 w.1.0 in
        let sound : IsSoundFloor (woven stepped graph plan.comps.value) cut d (with_floor front w.0.own) =
        subst (λ (a : DomainState). IsSoundFloor (woven stepped graph plan.comps.value) cut d (with_floor front a)) own (laws.floors_hold graph cut plan.comps.value can vs front h.met.kept h.met.told least_is d)
        in
        let same : w.0.own.floor ≡ floor = h.floors.each d w.0 w.1.0 in
        subst (IsKept stepped graph cut plan.comps.value d) (sym w.1.1)
        (record {
          is = same_value (record w.0 { own = with_floor (max front floor) w.0.own }) graph cut d (ap (λ (z : DomainValue C). z.events) k.is) (ap (λ (z : DomainValue C). z.partition) k.is) (ap (λ (z : DomainValue C). z.domain) k.is);
          keeps = record {
            fired = k.keeps.fired;
            parts_are = k.keeps.parts_are;
            known = k.keeps.known;
            floor = record {
              each = λ n x there target unknown.
                  let a = sound.each n x there target unknown in
                  let b = k.keeps.floor.each n x there target unknown in
                  omega (arith, a, b, same);
            };
            wide = k.keeps.wide;
          };
        })

    pub lifted_met : AreMet stepped plan lifted
    lifted_met = record {
      kept = record { count = length-map vs (λ (v : DomainValue C). record v { own = with_floor (max front floor) v.own }) ∙ h.met.kept.count; each = kept_at };
      told = record {
        each = λ n x there fired.
            ap (λ (ws : _). is_exact (word_at ws n)) (same_known (max front floor) vs x.target)
            ∙ h.met.told.each n x there (ap (λ (xs : List FiredEvent). is_fired xs x.parent) (sym (same_fired (max front floor) vs x.source)) ∙ fired);
      };
    }

    fired_then : (new : List (DomainValue C)) → HasRunRound stepped plan lifted new → (y : FiredEvent) → is_fired (own_in vs (home y)).fired y.event.number ≡ true → is_fired (own_in new (home y)).fired y.event.number ≡ true
    fired_then new r y fired =
        still_fired (own_in lifted (home y)) (own_in new (home y)) y.event.number (r.has_met.grow.each (home y)) (ap (λ (xs : List FiredEvent). is_fired xs y.event.number) (same_fired (max front floor) vs (home y)) ∙ fired)

    next_fires : (new : List (DomainValue C)) → HasRunRound stepped plan lifted new → (y : FiredEvent) → slice_get order round ≡ Some y → (t : Bool) → is_fired (own_in vs (home y)).fired y.event.number ≡ t
        → is_fired (own_in new (home y)).fired y.event.number ≡ true
    next_fires new r y at true e = fired_then new r y e
    next_fires new r y at false e =
        let left : IsFirstLeft stepped graph cut plan.comps.value (owns_of vs) round y = record { there = at; unfired = e; before = λ j z l b. h.upto j z l b } in
        let go : MayGoOn graph cut (owns_of vs) y = laws.goes_on graph cut plan.comps.value can vs round y h.met.kept h.met.told left in
        let start_is : go.start ≡ front = same_Some go.start front (sym go.least_is ∙ least_is) in
        let below : home y < length vs = (let b = laws.here graph cut plan.comps.value can round y at in let n = h.met.kept.count in omega (arith, b, n)) in
        let floor_is : (own_in lifted (home y)).floor ≡ max front floor = floor_there (max front floor) vs (home y) below in
        let clear : is_clear graph cut (home y) (own_in lifted (home y)) y.start ≡ true =
        laws.stays_clear graph cut (home y) (with_floor go.start (own_in vs (home y))) (own_in lifted (home y)) y.start (omega (arith, floor_is, start_is))
        (same_words (own_in lifted (home y)).known (own_in vs (home y)).known (same_known (max front floor) vs (home y))) go.clear
        in
        let left_then : IsFirstLeft stepped graph cut plan.comps.value (owns_of lifted) round y =
        record {
          there = at;
          unfired = ap (λ (xs : List FiredEvent). is_fired xs y.event.number) (same_fired (max front floor) vs (home y)) ∙ e;
          before = λ j z l b. ap (λ (xs : List FiredEvent). is_fired xs z.event.number) (same_fired (max front floor) vs (home z)) ∙ h.upto j z l b;
        }
        in
        r.advanced round y left_then clear

    pub next_round : (new : List (DomainValue C)) → front ≤ 2 ^ 62 → HasRunRound stepped plan lifted new → HasRounds stepped plan new (max front floor) (round + 1)
    next_round new low r = record {
      met = r.has_met.met;
      floors = record {
        each = λ d u at.
            let g = (r.has_met.grow.each d).floor in
            let own : (own_in new d).floor ≡ u.own.floor = ap (λ (a : DomainState). a.floor) (own_there new d u at) in
            let below : d < length vs = (let b = slice_get_within new d u at in let n = r.has_met.met.kept.count in let m = h.met.kept.count in omega (arith, b, n, m)) in
            sym own ∙ (g ∙ floor_there (max front floor) vs d below);
      };
      small = (let s = h.small in omega (arith, s, low));
      upto = λ i y l at.
          elim (cases_lt i round) [
            | inl less ↦ fired_then new r y (h.upto i y less at)
            | inr past ↦
                let same : i ≡ round = omega (arith, l, past) in
                next_fires new r y (ap (slice_get order) (sym same) ∙ at) (is_fired (own_in vs (home y)).fired y.event.number) refl
          ];
    }
