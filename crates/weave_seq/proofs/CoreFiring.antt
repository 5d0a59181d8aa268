-- One firing of the least of the cores' first unfired events is one firing of the weave.
use Rattle.std.proofs.Common.{◌≡◌, ◌<◌, ◌≤◌, ◌+◌, ℕ, true, false, List, [], ◌∷◌, ◌++◌, map, length, set, get_or, inl, inr, All, Option, Some, None, is_some, sym, ◌∙◌, ap, subst, refl, arith}
use Rattle.std.proofs.lemmas.List.{length-map}
use Rattle.std.specs.Prelude.{IfSome, slice_get}
use Rattle.std.specs.List.{Contains}
use Rattle.std.specs.List.Sorted.{IsPermutation}
use Rattle.std.proofs.lemmas.Bool.{cases_Bool, cases_eq, cases_lt, false≢true}
use Rattle.std.proofs.lemmas.Bool.Decides.{nat_tests}
use Rattle.zs_num.specs.KeyOrder.{is_key_before}
use Rattle.zs_num.specs.declared.time.Key.{Key}
use Rattle.event_graph.specs.declared.event.Event.{Event}
use Rattle.event_graph.specs.declared.event.Parent.{Parent}
use Rattle.event_graph.specs.declared.fired.Fired.{Fired}
use Rattle.event_graph.specs.Firing.{FiredByTheRules, IsNext}
use Rattle.event_graph.specs.Numbered.{IsNumbered}
use Rattle.event_graph.specs.OneListWeave.{FiredEvent, after_parent, find_fired, finish_in, finish_or_zero, fired_event_in, fired_of, fired_or_unfired, is_event_before, is_fired, is_parent_fired, is_ready, start_of}
use Rattle.event_graph.proofs.FindFired.{AreParentsFired, Extends, find_push_new, find_push_other, fired_extends, some_from_fired, start_extends}
use Rattle.event_graph.proofs.Least.{ready_from, ready_parts}
use Rattle.event_graph.proofs.Lists.{In, at_in, contains_in, get-set_other, get-set_same, get_some, get_within, in_contains, read_is}
use Rattle.weave_seq.specs.ByCore.{AreFirstKeys, HaveFiredBelow, HaveParentsOfTheirCore, IsFirstKey, IsFollowedBy, IsOfCore}
use Rattle.weave_seq.specs.Known.{finish_at, known_time, known_to_all, known_waits}
use Rattle.weave_seq.specs.SoFar.{IsFirst}
use Rattle.weave_seq.proofs.CoreKeys.{key_of, pushed_cases, pushed_new, pushed_old, pushed_once, rest_in, rest_once, rest_other, still_in}
use Rattle.weave_seq.proofs.Firing.{by_all}
use Rattle.weave_seq.proofs.FiringStep as step
use Rattle.weave_seq.proofs.FiringStep.{clash}
use Rattle.weave_seq.proofs.Telling.{same_as_map}

-- the times of the events that fired
abbrev pub AreTold : List FiredEvent → List Fired → Type 0
AreTold fired times = (number : ℕ) (x : FiredEvent) → find_fired fired number ≡ Some x → slice_get times number ≡ Some (fired_of x)

pub none_told : (times : List Fired) → AreTold [] times
none_told times number x is = absurd (cc)

-- no event that comes later has an earlier key, nor has the event itself
later_key : (a : Event) (s : ℕ) (b : Event) (t : ℕ) (key : Key) → key.start ≡ s → a.number ≡ key.number → is_event_before a s b t ≡ true → is_key_before (key_of t b.number) key ≡ false
later_key a s b t key start number before = grind (arith, nat_tests)

same_key : (a : Event) (s : ℕ) (key : Key) → key.start ≡ s → a.number ≡ key.number → is_key_before (key_of s a.number) key ≡ false
same_key a s key start number = grind (arith, nat_tests)

-- the times that are read are those of what fired
module _ (fired : List FiredEvent) (times : List Fired) (told : AreTold fired times) where
  pub told_there : (number : ℕ) → is_fired fired number ≡ true → (number < length times) × (finish_at times number ≡ finish_in fired number)
  told_there number h =
      let r : (x : FiredEvent) × (find_fired fired number ≡ Some x) = some_from_fired (find_fired fired number) h in
      let at : slice_get times number ≡ Some (fired_of r.0) = told number r.0 r.1 in
      (get_within times number (fired_of r.0) at, ap (λ (t : Fired). t.finish) (read_is times number (record { number = 0; start = 0; finish = 0 }) (fired_of r.0) at) ∙ sym (ap finish_or_zero r.1))

  told_parent : (o : Option Parent) → is_parent_fired fired o ≡ true → after_parent (finish_at times) o ≡ after_parent (finish_in fired) o
  told_parent None h = refl
  told_parent (Some p) h = ap (λ n. n + p.delay) (told_there p.number h).1

  pub start_told : (e : Event) → AreParentsFired fired e → start_of (finish_at times) e ≡ start_of (finish_in fired) e
  start_told e h =
      let a : after_parent (finish_at times) e.first ≡ after_parent (finish_in fired) e.first = told_parent e.first h.0 in
      let b : after_parent (finish_at times) e.second ≡ after_parent (finish_in fired) e.second = told_parent e.second h.1 in
      cc

  pub parent_small : (o : Option Parent) (most : ℕ) → is_parent_fired fired o ≡ true → after_parent (finish_in fired) o ≤ most → IfSome o (λ p. (p.number < length times) × (finish_at times p.number + p.delay ≤ most))
  parent_small None most h l = tt
  parent_small (Some p) most h l = ((told_there p.number h).0, omega (arith, l, (told_there p.number h).1))

  pub all_told : (events : List Event) → IsNumbered events → length times ≡ length events → ((number : ℕ) → number < length events → is_fired fired number ≡ true) → times ≡ map (λ e. fired_of (fired_event_in fired e)) events
  all_told events numbered size all =
      same_as_map (λ e. fired_of (fired_event_in fired e)) events times size
      (λ j e at.
      let r : (x : FiredEvent) × (find_fired fired j ≡ Some x) = some_from_fired (find_fired fired j) (all j (get_within events j e at)) in
      let here : find_fired fired e.number ≡ Some r.0 = ap (λ n. find_fired fired n) (numbered.number j e at) ∙ r.1 in
      let is : fired_event_in fired e ≡ r.0 = ap (λ o. fired_or_unfired e o) here in
      told j r.0 r.1 ∙ ap (λ z. Some (fired_of z)) (sym is))

module _ (events : List Event) (numbered : IsNumbered events) (fired : List FiredEvent) (rule : (y : FiredEvent) → In y fired → FiredByTheRules events fired y) (x : FiredEvent) (next : IsNext fired events x)
    (parents : HaveParentsOfTheirCore events)
    (before : (d e : Event) → Contains events d → Contains events e → d.core ≡ e.core → d.number < e.number → is_fired fired e.number ≡ true → is_fired fired d.number ≡ true)
    (order : (d e : Event) → Contains events d → Contains events e → d.core ≡ e.core → d.number < e.number → is_fired (fired ++ x ∷ []) e.number ≡ true → is_fired (fired ++ x ∷ []) d.number ≡ true)
    (keys : List Key) (has : AreFirstKeys events fired keys) where
  x_at : slice_get events x.event.number ≡ Some x.event
  x_at = step.x_at events numbered fired rule x next (known_to_all (finish_in fired) events) refl

  x_unfired : is_fired fired x.event.number ≡ false
  x_unfired = (ready_parts fired x.event next.ready).0

  -- what fires then has not fired before, and all else stays
  extends : Extends fired (fired ++ x ∷ [])
  extends n h = find_push_other fired x n (λ same. false≢true (sym x_unfired ∙ (ap (λ z. is_fired fired z) same ∙ h)))

  now_fired : (n : ℕ) → n ≡ x.event.number → is_fired (fired ++ x ∷ []) n ≡ true
  now_fired n same = ap (λ o. is_some o) (find_push_new fired x n (ap (λ z. is_fired fired z) same ∙ x_unfired) (sym same))

  still_fired : (n : ℕ) → is_fired fired n ≡ true → is_fired (fired ++ x ∷ []) n ≡ true
  still_fired n h = fired_extends fired (fired ++ x ∷ []) extends n h

  other_fired : (n : ℕ) → (n ≡ x.event.number → ⊥) → is_fired (fired ++ x ∷ []) n ≡ is_fired fired n
  other_fired n ne = ap (λ o. is_some o) (find_push_other fired x n (λ same. ne (sym same)))

  x_below : HaveFiredBelow events fired x.event.number x.event.core
  x_below k of l =
      let n : of.event.number ≡ k = numbered.number k of.event of.there in
      let t : is_fired (fired ++ x ∷ []) of.event.number ≡ true =
      order of.event x.event (contains_in of.event events (at_in of.event events k of.there)) next.event of.of (omega (arith, n, l)) (now_fired x.event.number refl)
      in
      sym (other_fired k (λ same. omega (arith, same, l))) ∙ (ap (λ z. is_fired (fired ++ x ∷ []) z) (sym n) ∙ t)

  x_key : Contains keys (key_of x.start x.event.number)
  x_key =
      subst (λ n. Contains keys (key_of n x.event.number)) (sym next.start)
      (has.all x.event.number x.event x_at x_unfired x_below)

  pub not_empty : keys ≡ [] → ⊥
  not_empty none = (let z : In (key_of x.start x.event.number) [] = in_contains (key_of x.start x.event.number) [] (subst (λ ks. Contains ks (key_of x.start x.event.number)) none x_key) in z)

  -- the parents of an event have fired where those below it have
  parent_fired : (firsts : List FiredEvent) (number : ℕ) (e : Event) → slice_get events number ≡ Some e → HaveFiredBelow events firsts number e.core → AreParentsFired firsts e
  parent_fired firsts number e at below =
      let one : (o : Option Parent) → ((p : Parent) → o ≡ Some p → (p.number < number) × IsOfCore events p.number e.core) → is_parent_fired firsts o ≡ true = λ o.
      elim o as (λ o. ((p : Parent) → o ≡ Some p → (p.number < number) × IsOfCore events p.number e.core) → is_parent_fired firsts o ≡ true) [
        | None ↦ λ h. refl
        | Some p ↦ λ h. below p.number (h p refl).1 (h p refl).0
      ]
      in
      (one e.first (λ p is. (numbered.first number e p at is, (parents number e p at).0 is)), one e.second (λ p is. (numbered.second number e p at is, (parents number e p at).1 is)))

  -- an unfired first event stays so, if it isn't the one that fires
  module _ (k : Key) (f : IsFirstKey events fired k) (other : k.number ≡ x.event.number → ⊥) where
    other_core : f.event.core ≡ x.event.core → ⊥
    other_core same =
        elim (cases_lt k.number x.event.number) [
          | inl l ↦ false≢true (sym f.unfired ∙ x_below k.number (record { event = f.event; there = f.there; of = same }) l)
          | inr l ↦ false≢true (sym x_unfired ∙ f.below x.event.number (record { event = x.event; there = x_at; of = sym same }) (omega (arith, l, other)))
        ]

    stays_first : IsFirstKey events (fired ++ x ∷ []) k
    stays_first = record {
      event = f.event;
      there = f.there;
      start = f.start ∙ sym (start_extends fired (fired ++ x ∷ []) extends f.event (parent_fired fired k.number f.event f.there f.below));
      unfired = other_fired k.number other ∙ f.unfired;
      below = λ j of l. still_fired j (f.below j of l);
    }

  module _ (key : Key) (m : Contains keys key) (least : All (λ other. is_key_before other key ≡ false) keys) where
    found_ready : is_ready fired (has.each key m).event ≡ true
    found_ready =
        let e : IsFirstKey events fired key = has.each key m in
        ready_from fired e.event (ap (λ n. is_fired fired n) (numbered.number key.number e.event e.there) ∙ e.unfired) (parent_fired fired key.number e.event e.there e.below)

    is_x : (has.each key m).event ≡ x.event
    is_x =
        let e : IsFirstKey events fired key = has.each key m in
        elim (next.first e.event (contains_in e.event events (at_in e.event events key.number e.there)) found_ready) [
          | inl same ↦ same
          | inr before ↦
              absurd
              (clash x.event x.start e.event key (start_of (finish_in fired) e.event) e.start (numbered.number key.number e.event e.there) before
              (by_all (λ other. is_key_before other key ≡ false) keys least (key_of x.start x.event.number) (in_contains (key_of x.start x.event.number) keys x_key)))
        ]

    pub key_number : x.event.number ≡ key.number
    key_number = ap (λ (e : Event). e.number) (sym is_x) ∙ numbered.number key.number (has.each key m).event (has.each key m).there

    pub key_start : key.start ≡ x.start
    key_start = (has.each key m).start ∙ (ap (λ e. start_of (finish_in fired) e) is_x ∙ sym next.start)

    no_earlier : (j : ℕ) (t : Fired) → slice_get (known_to_all (finish_in fired) events).times j ≡ Some t → slice_get (known_to_all (finish_in fired) events).waits j ≡ Some 0 → is_key_before (key_of t.start j) key ≡ false
    no_earlier j t at ready =
        let l : j < length events = omega (arith, get_within (known_to_all (finish_in fired) events).times j t at, length-map events (known_time (finish_in fired) (finish_in fired) (finish_in fired))) in
        let e : (e : Event) × (slice_get events j ≡ Some e) = get_some events j l in
        let t_is : t ≡ known_time (finish_in fired) (finish_in fired) (finish_in fired) e.0 =
        (let a : slice_get (known_to_all (finish_in fired) events).times j ≡ Some (known_time (finish_in fired) (finish_in fired) (finish_in fired) e.0) = step.time_at events numbered fired rule x next (known_to_all (finish_in fired) events) refl j e.0 e.1 in cc)
        in
        let none : known_waits (finish_in fired) (finish_in fired) (finish_in fired) e.0 ≡ 0 =
        (let a : slice_get (known_to_all (finish_in fired) events).waits j ≡ Some (known_waits (finish_in fired) (finish_in fired) (finish_in fired) e.0) = step.waits_at events numbered fired rule x next (known_to_all (finish_in fired) events) refl j e.0 e.1 in cc)
        in
        let n : e.0.number ≡ j = numbered.number j e.0 e.1 in
        let late : is_key_before (key_of (start_of (finish_in fired) e.0) e.0.number) key ≡ false =
        elim (next.first e.0 (contains_in e.0 events (at_in e.0 events j e.1)) (step.waits_ready events numbered fired rule e.0 none)) [
          | inl same ↦ same_key e.0 (start_of (finish_in fired) e.0) key (key_start ∙ (next.start ∙ ap (λ z. start_of (finish_in fired) z) (sym same))) (ap (λ (z : Event). z.number) same ∙ key_number)
          | inr before ↦ later_key x.event x.start e.0 (start_of (finish_in fired) e.0) key key_start key_number before
        ]
        in
        subst (λ (z : Fired). is_key_before (key_of z.start j) key ≡ false) (sym t_is) (subst (λ z. is_key_before (key_of (start_of (finish_in fired) e.0) z) key ≡ false) n late)

    -- so it is the first of all that are ready
    pub is_first : IsFirst (known_to_all (finish_in fired) events) key
    is_first = record {
      time = known_time (finish_in fired) (finish_in fired) (finish_in fired) x.event;
      there = ap (λ n. slice_get (known_to_all (finish_in fired) events).times n) (sym key_number) ∙ step.time_at events numbered fired rule x next (known_to_all (finish_in fired) events) refl x.event.number x.event x_at;
      start = key_start ∙ next.start;
      ready = ap (λ n. slice_get (known_to_all (finish_in fired) events).waits n) (sym key_number) ∙ step.x_waits events numbered fired rule x next (known_to_all (finish_in fired) events) refl;
      first = no_earlier;
    }

    -- the queue after it
    module _ (rest : List Key) (popped : IsPermutation keys (key ∷ rest)) where
      not_x : (k : Key) → Contains rest k → k.number ≡ x.event.number → ⊥
      not_x k m' same = rest_other keys rest key popped has.once k m' (same ∙ key_number)

      rest_first : (k : Key) → Contains rest k → IsFirstKey events (fired ++ x ∷ []) k
      rest_first k m' = stays_first k (has.each k (rest_in keys rest key popped k m')) (not_x k m')

      -- a first event of another core was one before
      elsewhere : (number : ℕ) (e : Event) → slice_get events number ≡ Some e → (e.core ≡ x.event.core → ⊥) → is_fired (fired ++ x ∷ []) number ≡ false → HaveFiredBelow events (fired ++ x ∷ []) number e.core
          → Contains rest (key_of (start_of (finish_in (fired ++ x ∷ [])) e) number)
      elsewhere number e at ne unfired below =
          let apart : (k : ℕ) → IsOfCore events k e.core → k ≡ x.event.number → ⊥ = λ k of same.
          (let a : slice_get events x.event.number ≡ Some of.event = subst (λ z. slice_get events z ≡ Some of.event) same of.there in
          let b : slice_get events x.event.number ≡ Some x.event = x_at in
          let e_is : x.event ≡ of.event = cc in
          ne (sym of.of ∙ ap (λ (z : Event). z.core) (sym e_is)))
          in
          let me : number ≡ x.event.number → ⊥ = apart number (record { event = e; there = at; of = refl }) in
          let below' : HaveFiredBelow events fired number e.core = λ k of l'. sym (other_fired k (apart k of)) ∙ below k of l' in
          let start_is : start_of (finish_in (fired ++ x ∷ [])) e ≡ start_of (finish_in fired) e = start_extends fired (fired ++ x ∷ []) extends e (parent_fired fired number e at below') in
          let was : Contains keys (key_of (start_of (finish_in fired) e) number) = has.all number e at (sym (other_fired number me) ∙ unfired) below' in
          subst (λ n. Contains rest (key_of n number)) (sym start_is) (still_in keys rest key popped (key_of (start_of (finish_in fired) e) number) was (λ same. me (same ∙ sym key_number)))

      -- the next event of the core
      module _ (follow : ℕ) (followed : IsFollowedBy events x.event.number x.event.core follow) where
        follow_unfired : 0 < follow → is_fired (fired ++ x ∷ []) follow ≡ false
        follow_unfired some =
            let n : IsOfCore events follow x.event.core = followed.of_core some in
            let up : x.event.number < follow = followed.behind some in
            let number : n.event.number ≡ follow = numbered.number follow n.event n.there in
            elim (cases_Bool (is_fired fired follow)) [
              | inl t ↦
                  absurd
                  (false≢true
                  (sym x_unfired
                  ∙ before x.event n.event next.event (contains_in n.event events (at_in n.event events follow n.there)) (sym n.of) (omega (arith, number, up)) (ap (λ z. is_fired fired z) number ∙ t)))
              | inr unfired ↦ other_fired follow (λ same. omega (arith, same, up)) ∙ unfired
            ]

        here : (number : ℕ) (e : Event) → slice_get events number ≡ Some e → e.core ≡ x.event.core → is_fired (fired ++ x ∷ []) number ≡ false → HaveFiredBelow events (fired ++ x ∷ []) number e.core → (0 < follow) × (number ≡ follow)
        here number e at same unfired below =
            let of : IsOfCore events number x.event.core = record { event = e; there = at; of = same } in
            elim (cases_lt x.event.number number) [
              | inl l ↦
                  let near : (0 < follow) × (follow ≤ number) = followed.nearest number of l in
                  elim (cases_eq number follow) [
                    | inl is ↦ (near.0, is)
                    | inr ne ↦
                        let n : IsOfCore events follow x.event.core = followed.of_core near.0 in
                        let t : is_fired (fired ++ x ∷ []) follow ≡ true = below follow (record { event = n.event; there = n.there; of = n.of ∙ sym same }) (omega (arith, near.1, ne)) in
                        absurd (false≢true (sym (follow_unfired near.0) ∙ t))
                  ]
              | inr l ↦ elim (cases_eq number x.event.number) [
                | inl is ↦ absurd (false≢true (sym unfired ∙ now_fired number is))
                | inr ne ↦ absurd (false≢true (sym unfired ∙ still_fired number (x_below number of (omega (arith, l, ne)))))
              ]
            ]

        follow_below : 0 < follow → HaveFiredBelow events (fired ++ x ∷ []) follow x.event.core
        follow_below some k of l =
            elim (cases_lt x.event.number k) [
              | inl up ↦ absurd (omega (arith, (followed.nearest k of up).1, l))
              | inr down ↦ elim (cases_eq k x.event.number) [
                | inl is ↦ now_fired k is
                | inr ne ↦ still_fired k (x_below k of (omega (arith, down, ne)))
              ]
            ]

        pub no_more : (0 < follow → ⊥) → AreFirstKeys events (fired ++ x ∷ []) rest
        no_more none = record {
          each = rest_first;
          all = λ number e at unfired below.
              elim (cases_eq e.core x.event.core) [
                | inl same ↦ absurd (none (here number e at same unfired below).0)
                | inr ne ↦ elsewhere number e at ne unfired below
              ];
          once = rest_once keys rest key popped has.once;
        }

        module _ (some : 0 < follow) (d : Event) where
          follow_is : get_or events follow d ≡ (followed.of_core some).event
          follow_is = read_is events follow d (followed.of_core some).event (followed.of_core some).there

          follow_at : slice_get events follow ≡ Some (get_or events follow d)
          follow_at = (followed.of_core some).there ∙ ap (λ e. Some e) (sym follow_is)

          follow_core : (get_or events follow d).core ≡ x.event.core
          follow_core = ap (λ (e : Event). e.core) follow_is ∙ (followed.of_core some).of

          pub follow_within : follow < length events
          follow_within = get_within events follow (get_or events follow d) follow_at

          pub follow_parents : AreParentsFired (fired ++ x ∷ []) (get_or events follow d)
          follow_parents =
              parent_fired (fired ++ x ∷ []) follow (get_or events follow d) follow_at (subst (λ z. HaveFiredBelow events (fired ++ x ∷ []) follow z) (sym follow_core) (follow_below some))

          pub one_more : (start : ℕ) → start ≡ start_of (finish_in (fired ++ x ∷ [])) (get_or events follow d) → (keys' : List Key) → IsPermutation (key_of start follow ∷ rest) keys' → AreFirstKeys events (fired ++ x ∷ []) keys'
          one_more start start_is keys' pushed =
              let now : IsFirstKey events (fired ++ x ∷ []) (key_of start follow) = record {
                event = get_or events follow d;
                there = follow_at;
                start = start_is;
                unfired = follow_unfired some;
                below = subst (λ z. HaveFiredBelow events (fired ++ x ∷ []) follow z) (sym follow_core) (follow_below some);
              } in
              record {
                each = λ k m'. elim (pushed_cases rest keys' (key_of start follow) pushed k m') [ inl same ↦ subst (λ z. IsFirstKey events (fired ++ x ∷ []) z) same now | inr old ↦ rest_first k old ];
                all = λ number e at unfired below.
                    elim (cases_eq e.core x.event.core) [
                      | inl same ↦
                          let it : number ≡ follow = (here number e at same unfired below).1 in
                          let e_is : get_or events follow d ≡ e = read_is events follow d e (subst (λ z. slice_get events z ≡ Some e) it at) in
                          let key_is : key_of start follow ≡ key_of (start_of (finish_in (fired ++ x ∷ [])) e) number =
                          ap (λ z. key_of z follow) (start_is ∙ ap (λ z. start_of (finish_in (fired ++ x ∷ [])) z) e_is) ∙ ap (λ z. key_of (start_of (finish_in (fired ++ x ∷ [])) e) z) (sym it)
                          in
                          subst (λ z. Contains keys' z) key_is (pushed_new rest keys' (key_of start follow) pushed)
                      | inr ne ↦ pushed_old rest keys' (key_of start follow) pushed _ (elsewhere number e at ne unfired below)
                    ];
                once = pushed_once rest keys' (key_of start follow) pushed (rest_once keys rest key popped has.once)
                    (λ k m' same.
                    let k_first : IsFirstKey events (fired ++ x ∷ []) k = rest_first k m' in
                    let k_at : slice_get events follow ≡ Some k_first.event = subst (λ z. slice_get events z ≡ Some k_first.event) same k_first.there in
                    let core : k_first.event.core ≡ x.event.core = (let b : slice_get events follow ≡ Some (get_or events follow d) = follow_at in let e_is : k_first.event ≡ get_or events follow d = cc in ap (λ (z : Event). z.core) e_is ∙ follow_core) in
                    let old_first : IsFirstKey events fired k = has.each k (rest_in keys rest key popped k m') in
                    let old_core : old_first.event.core ≡ x.event.core = (let a : slice_get events k.number ≡ Some old_first.event = old_first.there in let b : slice_get events k.number ≡ Some k_first.event = k_first.there in let e_is : old_first.event ≡ k_first.event = cc in ap (λ (z : Event). z.core) e_is ∙ core) in
                    other_core k old_first (not_x k m') old_core);
              }

  -- the times after it
  pub told_more : (times : List Fired) → AreTold fired times → x.event.number < length times → (times' : List Fired) → times' ≡ set times x.event.number (fired_of x) → AreTold (fired ++ x ∷ []) times'
  told_more times told l times' times_are number y is =
      elim (cases_eq number x.event.number) [
        | inl same ↦
            let y_is : y ≡ x = (let a : find_fired (fired ++ x ∷ []) number ≡ Some x = find_push_new fired x number (ap (λ z. is_fired fired z) same ∙ x_unfired) (sym same) in cc) in
            let t : (t : Fired) × (slice_get times x.event.number ≡ Some t) = get_some times x.event.number l in
            ap (λ ts. slice_get ts number) times_are
            ∙ (ap (λ n. slice_get (set times x.event.number (fired_of x)) n) same
            ∙ (get-set_same times x.event.number t.0 (fired_of x) t.1 ∙ ap (λ z. Some (fired_of z)) (sym y_is)))
        | inr ne ↦
            ap (λ ts. slice_get ts number) times_are
            ∙ (get-set_other times x.event.number number (fired_of x) (λ q. ne (sym q)) ∙ told number y (sym (find_push_other fired x number (λ q. ne (sym q))) ∙ is))
      ]
