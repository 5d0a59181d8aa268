-- One firing of the program, by the laws of the weave.
use Rattle.std.proofs.Common.{◌≡◌, ◌+◌, ◌<◌, ◌≤◌, ◌^◌, ℕ, suc, Bool, List, [], ◌∷◌, ◌++◌, length, set, get_or, All, Some, None, false, sym, ◌∙◌, ap, subst, arith}
use Rattle.std.specs.Prelude.{IsTrue, IfSome, slice_get}
use Rattle.std.specs.List.{Contains}
use Rattle.zs_num.specs.declared.time.Key.{Key}
use Rattle.component.specs.declared.kind.Kind.{Kind}
use Rattle.component.specs.declared.kind.Kind.TheVariants.{Lookup}
use Rattle.event_graph.specs.declared.event.Event.{Event}
use Rattle.event_graph.specs.declared.event.Parent.{Parent}
use Rattle.event_graph.specs.Firing.{FiredByTheRules, FiresNext}
use Rattle.event_graph.specs.Fits.{GraphFits}
use Rattle.event_graph.specs.Numbered.{IsNumbered}
use Rattle.event_graph.specs.OneListWeave.{FiredEvent, after_firings, finish_in, start_of}
use Rattle.event_graph.specs.SmallSteps.{AreSmallSteps, IsSmallStep}
use Rattle.event_graph.proofs.Lists.{In, contains_in, get_within, in_push, read_is}
use Rattle.weave_seq.specs.declared.children.ParentSlot.{ParentSlot}
use Rattle.weave_seq.specs.declared.children.ParentSlot.TheVariants.{First}
use Rattle.weave_seq.specs.Chains.{parent_in}
use Rattle.weave_seq.specs.Known.{finish_at, known_to_all, told_to}
use Rattle.weave_seq.specs.SoFar.{IsFirst, NoneIsReady, SoFar}
use Rattle.weave_seq.proofs.FiringStep as step
use Rattle.weave_seq.proofs.FiringStep.{time_parts}
use Rattle.weave_seq.proofs.Telling.{so_far}

abbrev pub no_event : Event
no_event = record { number = 0; core = 0; component = 0; kind = Lookup; critical = false; min_start = 0; min_finish = 0; first = None; second = None }

pub by_all : {X : Type 0} (P : X → Type 0) (xs : List X) → All P xs → (x : X) → In x xs → P x
by_all P xs h x m = let c : Contains xs x = contains_in x xs m in subst P c.2 (h c.0 x c.1)

module _ {C : Type 0} (serves : C → Kind → Bool) (floor : C → Kind → ℕ) (stepped : C → Kind → ℕ → C × ℕ) (greatest : C → Kind → ℕ → ℕ)
    (firings : (events : List Event) (comps : List C) (n : ℕ) → IsNumbered events → GraphFits serves floor events comps → n < length events
    → (x : FiredEvent) × (c : C) × FiresNext serves stepped events (after_firings stepped events comps n) (after_firings stepped events comps (suc n)) x c)
    (rules : (events : List Event) (comps : List C) (n : ℕ) → IsNumbered events → GraphFits serves floor events comps → All (FiredByTheRules events (after_firings stepped events comps n).fired) (after_firings stepped events comps n).fired)
    (smalls : (events : List Event) (comps : List C) (n : ℕ) → IsNumbered events → GraphFits serves floor events comps → AreSmallSteps stepped greatest events comps
    → All (λ e. start_of (finish_in (after_firings stepped events comps n).fired) e ≤ 2 ^ 62) events)
    (events : List Event) (comps : List C) (numbered : IsNumbered events) (fits : GraphFits serves floor events comps) (small : AreSmallSteps stepped greatest events comps)
    (n : ℕ) (l : n < length events) (s : SoFar) (is : s ≡ known_to_all (finish_in (after_firings stepped events comps n).fired) events) where
  abbrev fired : List FiredEvent
  fired = (after_firings stepped events comps n).fired

  pub rule : (y : FiredEvent) → In y (after_firings stepped events comps n).fired → FiredByTheRules events (after_firings stepped events comps n).fired y
  rule = by_all (FiredByTheRules events (after_firings stepped events comps n).fired) (after_firings stepped events comps n).fired (rules events comps n numbered fits)

  pub x : FiredEvent
  x = (firings events comps n numbered fits l).0

  pub c : C
  c = (firings events comps n numbered fits l).1

  pub firing : FiresNext serves stepped events (after_firings stepped events comps n) (after_firings stepped events comps (suc n)) x c
  unfolding x c
  firing = (firings events comps n numbered fits l).2

  pub one_is_ready : NoneIsReady s → ⊥
  one_is_ready none = step.one_is_ready events numbered (after_firings stepped events comps n).fired rule x firing.next s is none

  small_step : greatest c x.event.kind x.start ≤ 2 ^ 62
  small_step =
      let a : IsSmallStep stepped greatest (after_firings stepped events comps n) (Some (x.event, x.start)) =
      subst (λ o. IsSmallStep stepped greatest (after_firings stepped events comps n) o) (step.least events numbered (after_firings stepped events comps n).fired rule x firing.next s is) (small n)
      in
      subst (λ o. IfSome o (λ z. greatest z x.event.kind x.start ≤ 2 ^ 62)) firing.there a

  later : x.start < x.finish
  later =
      let now : In x (after_firings stepped events comps (suc n)).fired = subst (λ xs. In x xs) (sym firing.fired) (in_push (after_firings stepped events comps n).fired x) in
      (by_all (FiredByTheRules events (after_firings stepped events comps (suc n)).fired) (after_firings stepped events comps (suc n)).fired (rules events comps (suc n) numbered fits) x now).later

  small_start : (e : Event) → In e events → start_of (finish_in ((after_firings stepped events comps n).fired ++ x ∷ [])) e ≤ 2 ^ 62
  small_start e m =
      subst (λ xs. start_of (finish_in xs) e ≤ 2 ^ 62) firing.fired
      (by_all (λ e. start_of (finish_in (after_firings stepped events comps (suc n)).fired) e ≤ 2 ^ 62) events (smalls events comps (suc n) numbered fits small) e m)

  module _ (key : Key) (first : IsFirst s key) where
    pub within : key.number < length events
    within = step.key_within events numbered (after_firings stepped events comps n).fired rule x firing.next s is key first

    pub at : slice_get events key.number ≡ Some x.event
    at = step.key_at events numbered (after_firings stepped events comps n).fired rule x firing.next s is key first

    pub start : key.start ≡ x.start
    start = step.key_start events numbered (after_firings stepped events comps n).fired rule x firing.next s is key first

    -- as the program reads the event
    abbrev event : Event
    event = get_or events key.number no_event

    event_is : get_or events key.number no_event ≡ x.event
    event_is = read_is events key.number no_event x.event at

    pub component_within : (cs : List C) → cs ≡ (after_firings stepped events comps n).comps → (get_or events key.number no_event).component < length cs
    component_within cs cs_are =
        omega (arith, ap (λ (e : Event). e.component) event_is, ap length cs_are, get_within (after_firings stepped events comps n).comps x.event.component c firing.there)

    module _ (cs : List C) (cs_are : cs ≡ (after_firings stepped events comps n).comps) (d : C) where
      comp_is : get_or cs (get_or events key.number no_event).component d ≡ c
      comp_is =
          ap (λ (e : Event). get_or cs e.component d) event_is
          ∙ (ap (λ zs. get_or zs x.event.component d) cs_are ∙ read_is (after_firings stepped events comps n).comps x.event.component d c firing.there)

      pub serves_it : IsTrue (serves (get_or cs (get_or events key.number no_event).component d) (get_or events key.number no_event).kind)
      serves_it =
          subst (λ z. IsTrue (serves z (get_or events key.number no_event).kind)) (sym comp_is)
          (subst (λ (e : Event). IsTrue (serves c e.kind)) (sym event_is) firing.served)

      pub is_small : greatest (get_or cs (get_or events key.number no_event).component d) (get_or events key.number no_event).kind key.start ≤ 2 ^ 62
      is_small =
          subst (λ z. greatest z (get_or events key.number no_event).kind key.start ≤ 2 ^ 62) (sym comp_is)
          (subst (λ (e : Event). greatest c e.kind key.start ≤ 2 ^ 62) (sym event_is) (subst (λ m. greatest c x.event.kind m ≤ 2 ^ 62) (sym start) small_step))

      pub stepped_is : stepped (get_or cs (get_or events key.number no_event).component d) (get_or events key.number no_event).kind key.start ≡ stepped c x.event.kind x.start
      stepped_is =
          ap (λ z. stepped z (get_or events key.number no_event).kind key.start) comp_is
          ∙ (ap (λ (e : Event). stepped c e.kind key.start) event_is ∙ ap (λ m. stepped c x.event.kind m) start)

      pub comps_next : (left : C) → left ≡ (stepped (get_or cs (get_or events key.number no_event).component d) (get_or events key.number no_event).kind key.start).0
          → set cs (get_or events key.number no_event).component left ≡ (after_firings stepped events comps (suc n)).comps
      comps_next left left_is =
          ap (λ zs. set zs (get_or events key.number no_event).component left) cs_are
          ∙ (ap (λ (e : Event). set (after_firings stepped events comps n).comps e.component left) event_is
          ∙ (ap (λ z. set (after_firings stepped events comps n).comps x.event.component z) (left_is ∙ ap (λ p. p.0) stepped_is) ∙ sym firing.comps))

      module _ (finish : ℕ) (finish_is : finish ≡ (stepped (get_or cs (get_or events key.number no_event).component d) (get_or events key.number no_event).kind key.start).1) (s' : SoFar)
          (s'_is : s' ≡ so_far (set s.times key.number (time_parts key.number key.start finish)) (set s.waits key.number 255)) where
        finish_same : finish ≡ x.finish
        finish_same = finish_is ∙ (ap (λ p. p.1) stepped_is ∙ sym firing.finish)

        pub after_it : 0 < finish
        after_it = omega (arith, finish_same, later)

        pub finish_here : finish_at s'.times key.number ≡ finish
        finish_here = step.finish_here events numbered (after_firings stepped events comps n).fired rule x firing.next s is key first finish finish_same after_it s' s'_is

        pub untold : s' ≡ told_to First false key.number (finish_at s'.times) events
        untold = step.untold events numbered (after_firings stepped events comps n).fired rule x firing.next s is key first finish finish_same after_it s' s'_is

        pub size : length s'.times ≡ length events
        size = step.size' events numbered (after_firings stepped events comps n).fired rule x firing.next s is key first finish finish_same after_it s' s'_is

        pub unfired : (slot : ParentSlot) (j : ℕ) (e : Event) (p : Parent) → slice_get events j ≡ Some e → parent_in slot e ≡ Some p → p.number ≡ key.number → finish_at s'.times j ≡ 0
        unfired = step.child_unfired events numbered (after_firings stepped events comps n).fired rule x firing.next s is key first finish finish_same after_it s' s'_is

        pub bounded : (slot : ParentSlot) (j : ℕ) (e : Event) (p : Parent) → slice_get events j ≡ Some e → parent_in slot e ≡ Some p → p.number ≡ key.number → finish + p.delay ≤ 2 ^ 62
        bounded slot j e p a b m = step.child_small events numbered (after_firings stepped events comps n).fired rule x firing.next s is key first finish finish_same after_it s' s'_is slot small_start j e p a b m

        pub known_next : (s'' : SoFar) → s'' ≡ known_to_all (finish_at s'.times) events → s'' ≡ known_to_all (finish_in (after_firings stepped events comps (suc n)).fired) events
        known_next s'' all =
            step.known_next events numbered (after_firings stepped events comps n).fired rule x firing.next s is key first finish finish_same after_it s' s'_is s'' all
            ∙ ap (λ xs. known_to_all (finish_in xs) events) (sym firing.fired)
