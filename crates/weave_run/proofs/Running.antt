-- A domain that runs.
use Rattle.std.proofs.Common.{◌≡◌, ◌<◌, ℕ, Bool, List, [], ◌∷◌, ◌++◌, Option, Some, sym, ◌∙◌, ap, subst, refl, inl, inr, arith}
use Rattle.std.proofs.lemmas.Bool.{cases_lt}
use Rattle.std.proofs.lemmas.List.{append-nil, append_assoc}
use Rattle.zs_num.specs.declared.time.Key.{Key}
use Rattle.zs_num.specs.declared.time.Word.{Word}
use Rattle.component.specs.declared.kind.Kind.{Kind}
use Rattle.event_graph.specs.declared.event.Event.{Event}
use Rattle.event_graph.specs.declared.fired.Fired.{Fired}
use Rattle.event_graph.specs.OneListWeave.{FiredEvent, is_fired}
use Rattle.domain_map.specs.Domains.{Partition}
use Rattle.weave_core.specs.DomainCalls.{CanFire, DomainValue, IsAnswer, IsFire, MayFire}
use Rattle.weave_core.specs.DomainMachine.{DomainState, SaysAsMuch, word_at}
use Rattle.weave_core.specs.Keeping.{KeepingLaws, KeepsTo, domain_with}
use Rattle.weave_core.specs.declared.next.Next.{Next}
use Rattle.weave_core.specs.declared.next.Next.TheVariants.{Fire}
use Rattle.weave_run.specs.Rounds.{CanWeavePlan, HasFiredNext, HasGoneOn, HasRun, KeepsToWeave}
use Rattle.weave_run.specs.declared.plan.Plan.{Plan}
use Rattle.weave_run.proofs.Firings.{fired_by_more, fired_last}

-- a value with these fields is this one
pub same_value : {C : Type 0} (v : DomainValue C) (events : List Event) (p : Partition) (domain : ℕ) → v.events ≡ events → v.partition ≡ p → v.domain ≡ domain
    → v ≡ record { domain = domain; events = events; partition = p; own = v.own; comps = v.comps }
same_value {C} v events p domain a b d =
    ap (λ (n : ℕ). let w : DomainValue C = record { domain = n; events = v.events; partition = v.partition; own = v.own; comps = v.comps } in w) d
    ∙ (ap (λ (es : List Event). let w : DomainValue C = record { domain = domain; events = es; partition = v.partition; own = v.own; comps = v.comps } in w) a
    ∙ ap (λ (q : Partition). let w : DomainValue C = record { domain = domain; events = events; partition = q; own = v.own; comps = v.comps } in w) b)

-- the same words say as much
pub same_words : (after before : List Word) → after ≡ before → (n : ℕ) → SaysAsMuch (word_at before n) (word_at after n)
same_words after before same n =
    subst (λ (ws : List Word). SaysAsMuch (word_at before n) (word_at ws n)) (sym same) (record { finish = λ e. e; bound = λ e. omega arith })

module _ {C : Type 0} (stepped : C → Kind → ℕ → C × ℕ) (plan : Plan C) where
  -- what a domain has done since it began to run
  pub record HasRunSo (old new : DomainValue C) : Type 0 where
    pub same : new.domain ≡ old.domain
    pub kept : KeepsToWeave stepped plan new
    pub rest : List FiredEvent
    pub fired : new.own.fired ≡ old.own.fired ++ rest
    pub known : new.own.known ≡ old.own.known
    pub floor : new.own.floor ≡ old.own.floor

  pub not_run : (v : DomainValue C) → KeepsToWeave stepped plan v → HasRunSo v v
  not_run v k = record { same = refl; kept = k; rest = []; fired = sym (append-nil v.own.fired); known = refl; floor = refl }

  pub one_more : (first old new : DomainValue C) (result : Fired) → HasRunSo first old → HasFiredNext stepped plan old new result → HasRunSo first new
  one_more first old new result h f = record {
    same = f.same ∙ h.same;
    kept = f.kept;
    rest = h.rest ++ (record { event = f.event; start = f.start; finish = result.finish }) ∷ [];
    fired = f.fired
        ∙ (ap (λ (xs : List FiredEvent). xs ++ (let x : FiredEvent = record { event = f.event; start = f.start; finish = result.finish } in x) ∷ []) h.fired
        ∙ append_assoc first.own.fired h.rest ((let x : FiredEvent = record { event = f.event; start = f.start; finish = result.finish } in x) ∷ []));
    known = f.known ∙ h.known;
    floor = f.floor ∙ h.floor;
  }

module _ {C : Type 0} (serves : C → Kind → Bool) (floor : C → Kind → ℕ) (stepped : C → Kind → ℕ → C × ℕ) (greatest : C → Kind → ℕ → ℕ) (laws : KeepingLaws serves floor stepped greatest)
    (plan : Plan C) (can : CanWeavePlan serves floor stepped greatest plan) where
  abbrev events : List Event
  events = plan.graph.value

  abbrev parts : Partition
  parts = plan.parts.value

  pub can_fire : (v : DomainValue C) → KeepsToWeave stepped plan v → (key : Key) → MayFire events parts v.domain v.own key → CanFire greatest v
  can_fire v k key may = subst (CanFire greatest) (sym k.is) (laws.can_fire events parts plan.comps.value can v.domain v.own v.comps key k.keeps may)

  pub has_fired : (old new : DomainValue C) (result : Fired) → KeepsToWeave stepped plan old → (key : Key) → MayFire events parts old.domain old.own key → IsFire stepped old new result → HasFiredNext stepped plan old new result
  has_fired old new result k key may fire =
      let f : IsFire stepped (domain_with stepped events parts plan.comps.value old.domain old.own old.comps) new result = subst (λ (v : DomainValue C). IsFire stepped v new result) k.is fire in
      let r = laws.fires events parts plan.comps.value can old.domain old.own old.comps key new result k.keeps may f in
      let same : new.domain ≡ old.domain = ap (λ (v : DomainValue C). v.domain) f.new_is in
      let finish : result.finish ≡ (stepped f.component f.event.kind f.start).1 = ap (λ (z : Fired). z.finish) f.result_is in
      record {
        same = same;
        kept = record {
          is = same_value new events parts new.domain (ap (λ (v : DomainValue C). v.events) f.new_is) (ap (λ (v : DomainValue C). v.partition) f.new_is) refl;
          keeps = subst (λ (d : ℕ). KeepsTo stepped events parts plan.comps.value d new.own new.comps) (sym same) r.0;
        };
        event = f.event;
        start = f.start;
        next = f.next;
        fired = ap (λ (v : DomainValue C). v.own.fired) f.new_is
            ∙ ap (λ (n : ℕ). old.own.fired ++ (let x : FiredEvent = record { event = f.event; start = f.start; finish = n } in x) ∷ []) (sym finish);
        known = ap (λ (v : DomainValue C). v.own.known) f.new_is;
        floor = ap (λ (v : DomainValue C). v.own.floor) f.new_is;
        number = ap (λ (z : Fired). z.number) f.result_is;
        finish = r.1;
      }

  -- the domain's first fire, and those after it
  pub goes_first : (old new : DomainValue C) (result : Fired) → HasFiredNext stepped plan old new result → HasGoneOn events parts old.domain old.own new.own
  goes_first old new result f e start next clear =
      let same : ◌≡◌ {A = Event × ℕ} (f.event, f.start) (e, start) = same_pair f.event f.start e start (sym f.next ∙ next) in
      let number : f.event.number ≡ e.number = ap (λ (b : Event × ℕ). b.0.number) same in
      ap (λ (xs : List FiredEvent). is_fired xs e.number) f.fired
      ∙ fired_last old.own.fired (record { event = f.event; start = f.start; finish = result.finish }) e.number number
    where
      same_pair : (a : Event) (s : ℕ) (b : Event) (t : ℕ) → ◌≡◌ {A = Option (Event × ℕ)} (Some (a, s)) (Some (b, t)) → ◌≡◌ {A = Event × ℕ} (a, s) (b, t)
      same_pair a s b t h = cc

  pub goes_still : (first old new : DomainValue C) (result : Fired) (d : ℕ) → HasGoneOn events parts d first.own old.own → HasFiredNext stepped plan old new result → HasGoneOn events parts d first.own new.own
  goes_still first old new result d h f e start next clear =
      ap (λ (xs : List FiredEvent). is_fired xs e.number) f.fired
      ∙ fired_by_more old.own.fired ((record { event = f.event; start = f.start; finish = result.finish }) ∷ []) e.number (h e start next clear)

  -- another answer than that the next event may fire
  pub goes_nowhere : (v : DomainValue C) (answer : Next) (own : DomainState) → KeepsToWeave stepped plan v → IsAnswer events parts v.domain v.own answer → ((key : Key) → answer ≡ Fire key → ⊥)
      → HasGoneOn events parts v.domain v.own own
  goes_nowhere v answer own k is not_fire e start next clear =
      let r = laws.fires_on events parts plan.comps.value can v.domain v.own v.comps answer e start k.keeps is next clear in
      absurd (not_fire r.0 r.1)

  pub done : (old new : DomainValue C) → HasRunSo stepped plan old new → HasGoneOn events parts old.domain old.own new.own → HasRun stepped plan old new
  done old new h g = record {
    same = h.same;
    kept = h.kept;
    grows = record { rest = h.rest; fired = h.fired; floor = h.floor; words = λ n. same_words new.own.known old.own.known h.known n };
    goes_on = g;
  }

  -- the loop's steps
  pub stops : (first now : DomainValue C) (step : ℕ) (answer : Next) → HasRunSo stepped plan first now → (step ≡ 0 → now ≡ first) → (0 < step → HasGoneOn events parts first.domain first.own now.own)
      → IsAnswer now.events now.partition now.domain now.own answer → ((key : Key) → answer ≡ Fire key → ⊥) → HasRun stepped plan first now
  stops first now step answer h fresh goes is not_fire =
      done first now h (elim (cases_lt 0 step) [
        | inl some ↦ goes some
        | inr none ↦
            let e : step ≡ 0 = omega (arith, none) in
            subst (λ (v : DomainValue C). HasGoneOn events parts v.domain v.own now.own) (fresh e)
            (goes_nowhere now answer now.own h.kept (subst (λ (v : DomainValue C). IsAnswer v.events v.partition v.domain v.own answer) h.kept.is is) not_fire)
      ])

  pub goes_after : (first old new : DomainValue C) (result : Fired) (step : ℕ) → (step ≡ 0 → old ≡ first) → (0 < step → HasGoneOn events parts first.domain first.own old.own)
      → HasFiredNext stepped plan old new result → HasGoneOn events parts first.domain first.own new.own
  goes_after first old new result step fresh goes f =
      elim (cases_lt 0 step) [
        | inl some ↦ goes_still first old new result first.domain (goes some) f
        | inr none ↦
            let e : step ≡ 0 = omega (arith, none) in
            subst (λ (v : DomainValue C). HasGoneOn events parts v.domain v.own new.own) (fresh e) (goes_first old new result f)
      ]
