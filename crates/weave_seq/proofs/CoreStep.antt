-- One firing by cores, by the laws of the weave.
use Rattle.std.proofs.Common.{◌≡◌, ◌+◌, ◌<◌, ◌≤◌, ◌^◌, ℕ, suc, Bool, true, false, List, [], ◌∷◌, ◌++◌, length, map, set, get_or, All, Some, sym, ◌∙◌, ap, subst, refl, arith}
use Rattle.std.specs.Prelude.{IfSome, IsTrue, slice_get, slice_index}
use Rattle.std.specs.List.{Contains}
use Rattle.std.specs.List.Sorted.{IsPermutation}
use Rattle.std.proofs.lemmas.List.Sorted.{Contains-permutation}
use Rattle.zs_num.specs.KeyOrder.{is_key_before}
use Rattle.zs_num.specs.declared.time.Key.{Key}
use Rattle.component.specs.declared.kind.Kind.{Kind}
use Rattle.event_graph.specs.declared.event.Event.{Event}
use Rattle.event_graph.specs.declared.fired.Fired.{Fired}
use Rattle.event_graph.specs.Firing.{FiredByTheRules, FiresNext}
use Rattle.event_graph.specs.Fits.{GraphFits}
use Rattle.event_graph.specs.Numbered.{IsNumbered}
use Rattle.event_graph.specs.OneListWeave.{FiredEvent, after_firings, finish_in, fired_event_in, fired_of, is_fired, start_of, weave, woven}
use Rattle.event_graph.specs.SmallSteps.{AreSmallSteps}
use Rattle.event_graph.proofs.FindFired.{AreParentsFired, is_fired_from_in}
use Rattle.event_graph.proofs.Lists.{In, at_in, contains_in, from_map, get_some, in_contains, in_get, map_map}
use Rattle.weave_seq.specs.ByCore.{AreFirstKeys, AreFollowedFrom, FireInOrderByCore, HaveParentsOfTheirCore, IsFollowedBy}
use Rattle.weave_seq.specs.Known.{finish_at, known_to_all}
use Rattle.weave_seq.specs.SoFar.{IsFirst}
use Rattle.weave_seq.proofs.CoreFiring as one
use Rattle.weave_seq.proofs.CoreFiring.{AreTold, all_told, parent_small, start_told}
use Rattle.weave_seq.proofs.CoreKeys.{key_of, popped_in}
use Rattle.weave_seq.proofs.Firing as firing
use Rattle.weave_seq.proofs.Firing.{by_all}
use Rattle.weave_seq.proofs.FiringStep.{time_parts}

same_parts : (a b : ℕ) (c d : ℕ) (e f : ℕ) → a ≡ b → c ≡ d → e ≡ f → time_parts a c e ≡ time_parts b d f
same_parts a b c d e f p q r = ap (λ z. time_parts z c e) p ∙ (ap (λ z. time_parts b z e) q ∙ ap (λ z. time_parts b d z) r)

module _ {C : Type 0} (serves : C → Kind → Bool) (floor : C → Kind → ℕ) (stepped : C → Kind → ℕ → C × ℕ) (greatest : C → Kind → ℕ → ℕ)
    (firings : (events : List Event) (comps : List C) (n : ℕ) → IsNumbered events → GraphFits serves floor events comps → n < length events
    → (x : FiredEvent) × (c : C) × FiresNext serves stepped events (after_firings stepped events comps n) (after_firings stepped events comps (suc n)) x c)
    (rules : (events : List Event) (comps : List C) (n : ℕ) → IsNumbered events → GraphFits serves floor events comps → All (FiredByTheRules events (after_firings stepped events comps n).fired) (after_firings stepped events comps n).fired)
    (smalls : (events : List Event) (comps : List C) (n : ℕ) → IsNumbered events → GraphFits serves floor events comps → AreSmallSteps stepped greatest events comps
    → All (λ e. start_of (finish_in (after_firings stepped events comps n).fired) e ≤ 2 ^ 62) events)
    (events : List Event) (comps : List C) (numbered : IsNumbered events) (fits : GraphFits serves floor events comps) (small : AreSmallSteps stepped greatest events comps)
    (order : FireInOrderByCore stepped events comps) (parents : HaveParentsOfTheirCore events)
    (n : ℕ) (l : n < length events) (keys : List Key) (has : AreFirstKeys events (after_firings stepped events comps n).fired keys) where
  -- the event that the weave fires next
  abbrev x : FiredEvent
  x = firing.x serves floor stepped greatest firings rules smalls events comps numbered fits small n l (known_to_all (finish_in (after_firings stepped events comps n).fired) events) refl

  abbrev c : C
  c = firing.c serves floor stepped greatest firings rules smalls events comps numbered fits small n l (known_to_all (finish_in (after_firings stepped events comps n).fired) events) refl

  fires : FiresNext serves stepped events (after_firings stepped events comps n) (after_firings stepped events comps (suc n)) x c
  fires = firing.firing serves floor stepped greatest firings rules smalls events comps numbered fits small n l (known_to_all (finish_in (after_firings stepped events comps n).fired) events) refl

  rule : (y : FiredEvent) → In y (after_firings stepped events comps n).fired → FiredByTheRules events (after_firings stepped events comps n).fired y
  rule = firing.rule serves floor stepped greatest firings rules smalls events comps numbered fits small n l (known_to_all (finish_in (after_firings stepped events comps n).fired) events) refl

  after : (d e : Event) → Contains events d → Contains events e → d.core ≡ e.core → d.number < e.number → is_fired ((after_firings stepped events comps n).fired ++ x ∷ []) e.number ≡ true → is_fired ((after_firings stepped events comps n).fired ++ x ∷ []) d.number ≡ true
  after d e a b same l h = subst (λ xs. is_fired xs e.number ≡ true → is_fired xs d.number ≡ true) fires.fired (order (suc n) d e a b same l) h

  pub not_empty : keys ≡ [] → ⊥
  not_empty = one.not_empty events numbered (after_firings stepped events comps n).fired rule x fires.next parents (order n) after keys has

  module _ (key : Key) (rest : List Key) (popped : IsPermutation keys (key ∷ rest)) (least : All (λ other. is_key_before other key ≡ false) keys) where
    number : x.event.number ≡ key.number
    number = one.key_number events numbered (after_firings stepped events comps n).fired rule x fires.next parents (order n) after keys has key (popped_in keys rest key popped) least

    start : key.start ≡ x.start
    start = one.key_start events numbered (after_firings stepped events comps n).fired rule x fires.next parents (order n) after keys has key (popped_in keys rest key popped) least

    pub first : IsFirst (known_to_all (finish_in (after_firings stepped events comps n).fired) events) key
    first = one.is_first events numbered (after_firings stepped events comps n).fired rule x fires.next parents (order n) after keys has key (popped_in keys rest key popped) least

    pub key_within : key.number < length events
    key_within = firing.within serves floor stepped greatest firings rules smalls events comps numbered fits small n l (known_to_all (finish_in (after_firings stepped events comps n).fired) events) refl key first

    at : slice_get events key.number ≡ Some x.event
    at = firing.at serves floor stepped greatest firings rules smalls events comps numbered fits small n l (known_to_all (finish_in (after_firings stepped events comps n).fired) events) refl key first

    module _ (following : List ℕ) (links : AreFollowedFrom events 0 following) where
      followed : IsFollowedBy events x.event.number x.event.core (slice_index following key.number)
      followed = subst (λ z. IsFollowedBy events z x.event.core (slice_index following key.number)) (sym number) (links key.number x.event at (omega arith))

      next_keys : AreFirstKeys events ((after_firings stepped events comps n).fired ++ x ∷ []) rest → AreFirstKeys events (after_firings stepped events comps (suc n)).fired rest
      next_keys = subst (λ xs. AreFirstKeys events xs rest) (sym fires.fired)

      pub keys_without : (0 < slice_index following key.number → ⊥) → AreFirstKeys events (after_firings stepped events comps (suc n)).fired rest
      keys_without none =
          next_keys
          (one.no_more events numbered (after_firings stepped events comps n).fired rule x fires.next parents (order n) after keys has key (popped_in keys rest key popped) least rest popped
          (slice_index following key.number) followed none)

      module _ (some : 0 < slice_index following key.number) (d : Event) where
        pub next_within : slice_index following key.number < length events
        next_within =
            one.follow_within events numbered (after_firings stepped events comps n).fired rule x fires.next parents (order n) after keys has key (popped_in keys rest key popped) least rest popped
            (slice_index following key.number) followed some d

        parents_fired : AreParentsFired ((after_firings stepped events comps n).fired ++ x ∷ []) (get_or events (slice_index following key.number) d)
        parents_fired =
            one.follow_parents events numbered (after_firings stepped events comps n).fired rule x fires.next parents (order n) after keys has key (popped_in keys rest key popped) least rest popped
            (slice_index following key.number) followed some d

        now_fired : AreParentsFired (after_firings stepped events comps (suc n)).fired (get_or events (slice_index following key.number) d)
        now_fired = subst (λ xs. AreParentsFired xs (get_or events (slice_index following key.number) d)) (sym fires.fired) parents_fired

        starts_soon : start_of (finish_in (after_firings stepped events comps (suc n)).fired) (get_or events (slice_index following key.number) d) ≤ 2 ^ 62
        starts_soon =
            by_all (λ e. start_of (finish_in (after_firings stepped events comps (suc n)).fired) e ≤ 2 ^ 62) events (smalls events comps (suc n) numbered fits small)
            (get_or events (slice_index following key.number) d) (in_get events (slice_index following key.number) d next_within)

        module _ (times : List Fired) (told : AreTold (after_firings stepped events comps (suc n)).fired times) where
          pub small_first : IfSome (get_or events (slice_index following key.number) d).first (λ p. (p.number < length times) × (finish_at times p.number + p.delay ≤ 2 ^ 62))
          small_first =
              parent_small (after_firings stepped events comps (suc n)).fired times told (get_or events (slice_index following key.number) d).first (2 ^ 62) now_fired.0 (omega (arith, starts_soon))

          pub small_second : IfSome (get_or events (slice_index following key.number) d).second (λ p. (p.number < length times) × (finish_at times p.number + p.delay ≤ 2 ^ 62))
          small_second =
              parent_small (after_firings stepped events comps (suc n)).fired times told (get_or events (slice_index following key.number) d).second (2 ^ 62) now_fired.1 (omega (arith, starts_soon))

          pub keys_with : (begin : ℕ) → begin ≡ start_of (finish_at times) (get_or events (slice_index following key.number) d) → (keys' : List Key) → IsPermutation (key_of begin (slice_index following key.number) ∷ rest) keys'
              → AreFirstKeys events (after_firings stepped events comps (suc n)).fired keys'
          keys_with begin begin_is keys' pushed =
              subst (λ xs. AreFirstKeys events xs keys') (sym fires.fired)
              (one.one_more events numbered (after_firings stepped events comps n).fired rule x fires.next parents (order n) after keys has key (popped_in keys rest key popped) least rest popped
              (slice_index following key.number) followed some d begin
              (begin_is
              ∙ (start_told (after_firings stepped events comps (suc n)).fired times told (get_or events (slice_index following key.number) d) now_fired
              ∙ ap (λ xs. start_of (finish_in xs) (get_or events (slice_index following key.number) d)) fires.fired))
              keys' pushed)

    module _ (cs : List C) (cs_are : cs ≡ (after_firings stepped events comps n).comps) where
      pub component_within : (get_or events key.number firing.no_event).component < length cs
      component_within =
          firing.component_within serves floor stepped greatest firings rules smalls events comps numbered fits small n l (known_to_all (finish_in (after_firings stepped events comps n).fired) events) refl key first cs cs_are

      module _ (d : C) where
        pub serves_it : IsTrue (serves (get_or cs (get_or events key.number firing.no_event).component d) (get_or events key.number firing.no_event).kind)
        serves_it = firing.serves_it serves floor stepped greatest firings rules smalls events comps numbered fits small n l (known_to_all (finish_in (after_firings stepped events comps n).fired) events) refl key first cs cs_are d

        pub is_small : greatest (get_or cs (get_or events key.number firing.no_event).component d) (get_or events key.number firing.no_event).kind key.start ≤ 2 ^ 62
        is_small = firing.is_small serves floor stepped greatest firings rules smalls events comps numbered fits small n l (known_to_all (finish_in (after_firings stepped events comps n).fired) events) refl key first cs cs_are d

        pub comps_next : (left : C) → left ≡ (stepped (get_or cs (get_or events key.number firing.no_event).component d) (get_or events key.number firing.no_event).kind key.start).0
            → set cs (get_or events key.number firing.no_event).component left ≡ (after_firings stepped events comps (suc n)).comps
        comps_next = firing.comps_next serves floor stepped greatest firings rules smalls events comps numbered fits small n l (known_to_all (finish_in (after_firings stepped events comps n).fired) events) refl key first cs cs_are d

        pub told_next : (finish : ℕ) → finish ≡ (stepped (get_or cs (get_or events key.number firing.no_event).component d) (get_or events key.number firing.no_event).kind key.start).1
            → (times : List Fired) → length times ≡ length events → AreTold (after_firings stepped events comps n).fired times
            → AreTold (after_firings stepped events comps (suc n)).fired (set times key.number (time_parts key.number key.start finish))
        told_next finish finish_is times size told =
            let finish_same : finish ≡ x.finish =
            finish_is
            ∙ (ap (λ p. p.1) (firing.stepped_is serves floor stepped greatest firings rules smalls events comps numbered fits small n l (known_to_all (finish_in (after_firings stepped events comps n).fired) events) refl key first cs cs_are d)
            ∙ sym fires.finish)
            in
            subst (λ xs. AreTold xs (set times key.number (time_parts key.number key.start finish))) (sym fires.fired)
            (one.told_more events numbered (after_firings stepped events comps n).fired rule x fires.next parents (order n) after keys has times told (omega (arith, number, key_within, size))
            (set times key.number (time_parts key.number key.start finish))
            (ap (λ z. set times z (time_parts key.number key.start finish)) (sym number)
            ∙ ap (λ z. set times x.event.number z) (same_parts key.number x.event.number key.start x.start finish x.finish (sym number) start finish_same)))

-- once all have fired
module _ {C : Type 0} (stepped : C → Kind → ℕ → C × ℕ) (events : List Event) (comps : List C) (numbered : IsNumbered events) (once : IsPermutation events (map (λ x. x.event) (weave stepped events comps).fired)) where
  all_fired : (number : ℕ) → number < length events → is_fired (weave stepped events comps).fired number ≡ true
  all_fired number l =
      let e : (e : Event) × (slice_get events number ≡ Some e) = get_some events number l in
      let m : Contains (map (λ x. x.event) (weave stepped events comps).fired) e.0 = Contains-permutation events (map (λ x. x.event) (weave stepped events comps).fired) e.0 once (contains_in e.0 events (at_in e.0 events number e.1)) in
      let y : (y : FiredEvent) × (In y (weave stepped events comps).fired × (y.event ≡ e.0)) =
      from_map (λ (x : FiredEvent). x.event) e.0 (weave stepped events comps).fired (in_contains e.0 (map (λ x. x.event) (weave stepped events comps).fired) m)
      in
      is_fired_from_in (weave stepped events comps).fired y.0 number y.1.0 (ap (λ (z : Event). z.number) y.1.1 ∙ numbered.number number e.0 e.1)

  pub times_woven : (times : List Fired) → length times ≡ length events → AreTold (weave stepped events comps).fired times → times ≡ map fired_of (woven stepped events comps)
  unfolding woven
  times_woven times size told =
      all_told (weave stepped events comps).fired times told events numbered size all_fired
      ∙ sym (map_map (fired_event_in (weave stepped events comps).fired) fired_of events)
