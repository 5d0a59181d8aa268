-- One firing of the program is one firing of the weave.
use Rattle.std.proofs.Common.{◌≡◌, ◌+◌, ◌<◌, ◌≤◌, ◌==◌, ◌^◌, ℕ, Bool, true, false, cond, max, List, [], ◌∷◌, ◌++◌, map, length, set, inl, inr, Option, Some, None, is_some, sym, ◌∙◌, ap, subst, refl, arith, length-set}
use Rattle.std.specs.Prelude.{slice_get}
use Rattle.std.proofs.lemmas.Bool.{cases_Bool, cases_eq, cases_lt, cond-true, cond-false, eq-eqb, eqb-true, ne_eqb}
use Rattle.std.proofs.lemmas.Bool.Decides.{nat_tests}
use Rattle.std.proofs.lemmas.List.{get_or-set_other, get_or-set_same, get_or_past, length-map}
use Rattle.zs_num.specs.KeyOrder.{is_key_before}
use Rattle.zs_num.specs.declared.time.Key.{Key}
use Rattle.event_graph.specs.declared.event.Event.{Event}
use Rattle.event_graph.specs.declared.event.Parent.{Parent}
use Rattle.event_graph.specs.declared.fired.Fired.{Fired}
use Rattle.event_graph.specs.Firing.{FiredByTheRules, IsNext}
use Rattle.event_graph.specs.Numbered.{IsNumbered}
use Rattle.event_graph.specs.OneListWeave.{FiredEvent, after_parent, find_fired, finish_in, finish_or_zero, is_event_before, is_fired, is_parent_fired, is_ready, least_ready, start_of}
use Rattle.event_graph.proofs.FindFired.{find_push_new, find_push_other, found_in, some_from_fired}
use Rattle.event_graph.proofs.Least.{least_is, ready_from, ready_parts, same_event}
use Rattle.event_graph.proofs.Lists.{In, at_in, contains_in, get-map, get-set_other, get-set_same, get_some, get_within, in_at, in_contains, map_same, read_is}
use Rattle.weave_seq.specs.declared.children.ParentSlot.{ParentSlot}
use Rattle.weave_seq.specs.declared.children.ParentSlot.TheVariants.{First, Second}
use Rattle.weave_seq.specs.Chains.{parent_in}
use Rattle.weave_seq.specs.Known.{before_firing, finish_at, known, known_time, known_to_all, known_waits, told_to, unfired_parent}
use Rattle.weave_seq.specs.SoFar.{IsFirst, NoneIsReady, SoFar}
use Rattle.weave_seq.proofs.TellSteps.{parent_below}
use Rattle.weave_seq.proofs.Telling.{same_as_map, so_far}

abbrev no_time : Fired
no_time = record { number = 0; start = 0; finish = 0 }

abbrev pub time_parts : ℕ → ℕ → ℕ → Fired
time_parts number start finish = record { number = number; start = start; finish = finish }

abbrev one_if : Bool → ℕ
one_if b = cond b 1 0

abbrev key_of : ℕ → ℕ → Key
key_of start number = record { start = start; number = number }

by_found : (o : Option FiredEvent) → is_some o ≡ false → finish_or_zero o ≡ 0
by_found None h = refl
by_found (Some x) h = absurd (cc)

-- an event that comes before another one has an earlier key
pub clash : (a : Event) (s : ℕ) (b : Event) (key : Key) (t : ℕ) → key.start ≡ t → b.number ≡ key.number → is_event_before a s b t ≡ true → is_key_before (key_of s a.number) key ≡ false → ⊥
clash a s b key t start number before late = grind (arith, nat_tests)

-- the known times depend on the finishes of events alone

same_after : (F G : ℕ → ℕ) (n : ℕ) → ((k : ℕ) → k < n → F k ≡ G k) → (o : Option Parent) → ((p : Parent) → o ≡ Some p → p.number < n) → after_parent F o ≡ after_parent G o
same_after F G n h None k = refl
same_after F G n h (Some p) k = ap (λ z. z + p.delay) (h p.number (k p refl))

same_unfired : (F G : ℕ → ℕ) (n : ℕ) → ((k : ℕ) → k < n → F k ≡ G k) → (o : Option Parent) → ((p : Parent) → o ≡ Some p → p.number < n) → unfired_parent F o ≡ unfired_parent G o
same_unfired F G n h None k = refl
same_unfired F G n h (Some p) k = ap (λ z. cond (z == 0) 1 0) (h p.number (k p refl))

abbrev Agree : ℕ → (ℕ → ℕ) → (ℕ → ℕ) → Type 0
Agree n F G = (k : ℕ) → k < n → F k ≡ G k

module _ (events : List Event) (numbered : IsNumbered events) where
  parents_within : (slot : ParentSlot) (j : ℕ) (e : Event) → slice_get events j ≡ Some e → (p : Parent) → parent_in slot e ≡ Some p → p.number < length events
  parents_within slot j e at p is = omega (arith, parent_below slot events numbered j e p at is, get_within events j e at)

  time_same : (A B D A' B' D' : ℕ → ℕ) → Agree (length events) A A' → Agree (length events) B B' → (j : ℕ) (e : Event) → slice_get events j ≡ Some e → D e.number ≡ D' e.number → known_time A B D e ≡ known_time A' B' D' e
  time_same A B D A' B' D' a b j e at d =
      let x : after_parent A e.first ≡ after_parent A' e.first = same_after A A' (length events) a e.first (λ p is. parents_within First j e at p is) in
      let y : after_parent B e.second ≡ after_parent B' e.second = same_after B B' (length events) b e.second (λ p is. parents_within Second j e at p is) in
      ap (λ n. time_parts e.number (max e.min_start (max n (after_parent B e.second))) (D e.number)) x
      ∙ (ap (λ n. time_parts e.number (max e.min_start (max (after_parent A' e.first) n)) (D e.number)) y
      ∙ ap (λ n. time_parts e.number (max e.min_start (max (after_parent A' e.first) (after_parent B' e.second))) n) d)

  waits_same : (A B D A' B' D' : ℕ → ℕ) → Agree (length events) A A' → Agree (length events) B B' → (j : ℕ) (e : Event) → slice_get events j ≡ Some e → D e.number ≡ D' e.number → known_waits A B D e ≡ known_waits A' B' D' e
  waits_same A B D A' B' D' a b j e at d =
      let x : unfired_parent A e.first ≡ unfired_parent A' e.first = same_unfired A A' (length events) a e.first (λ p is. parents_within First j e at p is) in
      let y : unfired_parent B e.second ≡ unfired_parent B' e.second = same_unfired B B' (length events) b e.second (λ p is. parents_within Second j e at p is) in
      ap (λ n. cond (D e.number == 0) (n + unfired_parent B e.second) 255) x
      ∙ (ap (λ n. cond (D e.number == 0) (unfired_parent A' e.first + n) 255) y
      ∙ ap (λ n. cond (n == 0) (unfired_parent A' e.first + unfired_parent B' e.second) 255) d)

  known_same : (F G : ℕ → ℕ) → Agree (length events) F G → known_to_all F events ≡ known_to_all G events
  known_same F G h =
      let number : (j : ℕ) (e : Event) → slice_get events j ≡ Some e → F e.number ≡ G e.number =
      λ j e at. h e.number (omega (arith, numbered.number j e at, get_within events j e at))
      in
      ap (λ ts. so_far ts (map (known_waits F F F) events))
      (map_same (known_time F F F) (known_time G G G) events
      (λ e m. let at : (j : ℕ) × (slice_get events j ≡ Some e) = in_at e events m in time_same F F F G G G h h at.0 e at.1 (number at.0 e at.1)))
      ∙ ap (λ ws. so_far (map (known_time G G G) events) ws)
      (map_same (known_waits F F F) (known_waits G G G) events
      (λ e m. let at : (j : ℕ) × (slice_get events j ≡ Some e) = in_at e events m in waits_same F F F G G G h h at.0 e at.1 (number at.0 e at.1)))

  -- the finishes that are kept
  kept_finish : (A B D : ℕ → ℕ) (j : ℕ) → j < length events → finish_at (map (known_time A B D) events) j ≡ D j
  kept_finish A B D j l =
      let e : (e : Event) × (slice_get events j ≡ Some e) = get_some events j l in
      ap (λ (f : Fired). f.finish) (read_is (map (known_time A B D) events) j no_time (known_time A B D e.0) (get-map (known_time A B D) e.0 events j e.1))
      ∙ ap D (numbered.number j e.0 e.1)

  finish_past : (ts : List Fired) → length ts ≡ length events → (j : ℕ) → length events ≤ j → finish_at ts j ≡ 0
  finish_past ts size j l = ap (λ (f : Fired). f.finish) (get_or_past ts j no_time (omega (arith, size, l)))

  -- telling keeps the finishes
  pub finishes_stay : (A B : ℕ → ℕ) (ts : List Fired) (s : SoFar) → length ts ≡ length events → s ≡ known A B (finish_at ts) events → finish_at s.times ≡ finish_at ts
  finishes_stay A B ts s size is =
      let each : (j : ℕ) → finish_at s.times j ≡ finish_at ts j =
      λ j.
      ap (λ v. finish_at v.times j) is
      ∙ elim (cases_lt j (length events)) [
        | inl l ↦ kept_finish A B (finish_at ts) j l
        | inr l ↦ finish_past (map (known_time A B (finish_at ts)) events) (length-map events (known_time A B (finish_at ts))) j l ∙ sym (finish_past ts size j l)
      ]
      in
      λ i j. each j i

  -- what is ready is known to wait for no parent
  module _ (fired : List FiredEvent) (rules : (x : FiredEvent) → In x fired → FiredByTheRules events fired x) where
    unfired_finish : (n : ℕ) → is_fired fired n ≡ false → finish_in fired n ≡ 0
    unfired_finish n h = by_found (find_fired fired n) h

    fired_finish : (n : ℕ) → is_fired fired n ≡ true → 0 < finish_in fired n
    fired_finish n h =
        let r : (x : FiredEvent) × (find_fired fired n ≡ Some x) = some_from_fired (find_fired fired n) h in
        omega (arith, ap finish_or_zero r.1, (rules r.0 (found_in fired n r.0 r.1).0).later)

    unfired_from : (n : ℕ) → finish_in fired n ≡ 0 → is_fired fired n ≡ false
    unfired_from n h = elim (cases_Bool (is_fired fired n)) [ inl t ↦ absurd (omega (arith, h, fired_finish n t)) | inr f ↦ f ]

    fired_from : (n : ℕ) → (finish_in fired n ≡ 0 → ⊥) → is_fired fired n ≡ true
    fired_from n h = elim (cases_Bool (is_fired fired n)) [ inl t ↦ t | inr f ↦ absurd (h (unfired_finish n f)) ]

    parent_waits : (o : Option Parent) → is_parent_fired fired o ≡ true → unfired_parent (finish_in fired) o ≡ 0
    parent_waits None h = refl
    parent_waits (Some p) h = ap (λ b. cond b 1 0) (ne_eqb (finish_in fired p.number) 0 (λ q. omega (arith, q, fired_finish p.number h)))

    parent_from : (o : Option Parent) → unfired_parent (finish_in fired) o ≡ 0 → is_parent_fired fired o ≡ true
    parent_from None h = refl
    parent_from (Some p) h = fired_from p.number (λ q. absurd (omega (arith, h, ap (λ b. one_if b) (eq-eqb (finish_in fired p.number) 0 q))))

    pub ready_waits : (e : Event) → is_ready fired e ≡ true → known_waits (finish_in fired) (finish_in fired) (finish_in fired) e ≡ 0
    ready_waits e h =
        let parts = ready_parts fired e h in
        cond-true (finish_in fired e.number == 0) (unfired_parent (finish_in fired) e.first + unfired_parent (finish_in fired) e.second) 255 (eq-eqb (finish_in fired e.number) 0 (unfired_finish e.number parts.0))
        ∙ omega (arith, parent_waits e.first parts.1.0, parent_waits e.second parts.1.1)

    pub waits_ready : (e : Event) → known_waits (finish_in fired) (finish_in fired) (finish_in fired) e ≡ 0 → is_ready fired e ≡ true
    waits_ready e h =
        elim (cases_Bool (finish_in fired e.number == 0)) [
          | inl t ↦
              let sum : unfired_parent (finish_in fired) e.first + unfired_parent (finish_in fired) e.second ≡ 0 =
              sym (cond-true (finish_in fired e.number == 0) (unfired_parent (finish_in fired) e.first + unfired_parent (finish_in fired) e.second) 255 t) ∙ h
              in
              ready_from fired e (unfired_from e.number (eqb-true (finish_in fired e.number) 0 t)) (parent_from e.first (omega (arith, sum)), parent_from e.second (omega (arith, sum)))
          | inr f ↦
              absurd (omega (arith, h, cond-false (finish_in fired e.number == 0) (unfired_parent (finish_in fired) e.first + unfired_parent (finish_in fired) e.second) 255 f))
        ]

    module _ (x : FiredEvent) (next : IsNext fired events x) (s : SoFar) (is : s ≡ known_to_all (finish_in fired) events) where
      member : In x.event events
      member = in_contains x.event events next.event

      pub x_at : slice_get events x.event.number ≡ Some x.event
      x_at =
          let at : (j : ℕ) × (slice_get events j ≡ Some x.event) = in_at x.event events member in
          ap (λ n. slice_get events n) (numbered.number at.0 x.event at.1) ∙ at.1

      pub time_at : (j : ℕ) (e : Event) → slice_get events j ≡ Some e → slice_get s.times j ≡ Some (known_time (finish_in fired) (finish_in fired) (finish_in fired) e)
      time_at j e at = ap (λ v. slice_get v.times j) is ∙ get-map (known_time (finish_in fired) (finish_in fired) (finish_in fired)) e events j at

      pub waits_at : (j : ℕ) (e : Event) → slice_get events j ≡ Some e → slice_get s.waits j ≡ Some (known_waits (finish_in fired) (finish_in fired) (finish_in fired) e)
      waits_at j e at = ap (λ v. slice_get v.waits j) is ∙ get-map (known_waits (finish_in fired) (finish_in fired) (finish_in fired)) e events j at

      pub x_waits : slice_get s.waits x.event.number ≡ Some 0
      x_waits = waits_at x.event.number x.event x_at ∙ ap (λ w. Some w) (ready_waits x.event next.ready)

      pub one_is_ready : NoneIsReady s → ⊥
      one_is_ready none = none x.event.number x_waits

      pub least : least_ready fired events ≡ Some (x.event, x.start)
      least =
          least_is fired events x.event member next.ready
          (λ y m ready. elim (next.first y (contains_in y events m) ready) [
            | inl same ↦ inl same
            | inr before ↦ inr (subst (λ n. is_event_before x.event n y (start_of (finish_in fired) y) ≡ true) next.start before)
          ])
          ∙ ap (λ n. Some (x.event, n)) (sym next.start)

      module _ (key : Key) (first : IsFirst s key) where
        times_size : length s.times ≡ length events
        times_size = ap (λ v. length v.times) is ∙ length-map events (known_time (finish_in fired) (finish_in fired) (finish_in fired))

        pub key_within : key.number < length events
        key_within = omega (arith, get_within s.times key.number first.time first.there, times_size)

        found : (e : Event) × (slice_get events key.number ≡ Some e)
        found = get_some events key.number key_within

        start_is : key.start ≡ start_of (finish_in fired) found.0
        start_is =
            let a : slice_get s.times key.number ≡ Some (known_time (finish_in fired) (finish_in fired) (finish_in fired) found.0) = time_at key.number found.0 found.1 in
            let b : slice_get s.times key.number ≡ Some first.time = first.there in
            let same : first.time ≡ known_time (finish_in fired) (finish_in fired) (finish_in fired) found.0 = cc in
            first.start ∙ ap (λ (t : Fired). t.start) same

        ready_found : is_ready fired found.0 ≡ true
        ready_found =
            let a : slice_get s.waits key.number ≡ Some (known_waits (finish_in fired) (finish_in fired) (finish_in fired) found.0) = waits_at key.number found.0 found.1 in
            let b : slice_get s.waits key.number ≡ Some 0 = first.ready in
            let same : known_waits (finish_in fired) (finish_in fired) (finish_in fired) found.0 ≡ 0 = cc in
            waits_ready found.0 same

        number_found : found.0.number ≡ key.number
        number_found = numbered.number key.number found.0 found.1

        not_earlier : is_event_before x.event x.start found.0 (start_of (finish_in fired) found.0) ≡ true → ⊥
        not_earlier before =
            let late : is_key_before (key_of x.start x.event.number) key ≡ false =
            subst (λ n. is_key_before (key_of n x.event.number) key ≡ false) (sym next.start)
            (first.first x.event.number (known_time (finish_in fired) (finish_in fired) (finish_in fired) x.event) (time_at x.event.number x.event x_at) x_waits)
            in
            clash x.event x.start found.0 key (start_of (finish_in fired) found.0) start_is number_found before late

        is_x : found.0 ≡ x.event
        is_x = elim (next.first found.0 (contains_in found.0 events (at_in found.0 events key.number found.1)) ready_found) [ inl same ↦ same | inr before ↦ absurd (not_earlier before) ]

        pub key_at : slice_get events key.number ≡ Some x.event
        key_at = found.1 ∙ ap (λ e. Some e) is_x

        pub key_number : x.event.number ≡ key.number
        key_number = ap (λ (e : Event). e.number) (sym is_x) ∙ number_found

        pub key_start : key.start ≡ x.start
        key_start = start_is ∙ (ap (λ e. start_of (finish_in fired) e) is_x ∙ sym next.start)

        unfired_x : finish_in fired key.number ≡ 0
        unfired_x = ap (λ n. finish_in fired n) (sym key_number) ∙ unfired_finish x.event.number (ready_parts fired x.event next.ready).0

        -- the state once the event has fired
        module _ (finish : ℕ) (finish_is : finish ≡ x.finish) (later : 0 < finish) (s' : SoFar)
            (s'_is : s' ≡ so_far (set s.times key.number (time_parts key.number key.start finish)) (set s.waits key.number 255)) where
          pub size' : length s'.times ≡ length events
          size' = ap (λ v. length v.times) s'_is ∙ (length-set s.times key.number (time_parts key.number key.start finish) ∙ times_size)

          waits_size' : length s'.waits ≡ length events
          waits_size' = ap (λ v. length v.waits) s'_is ∙ (length-set s.waits key.number 255 ∙ (ap (λ v. length v.waits) is ∙ length-map events (known_waits (finish_in fired) (finish_in fired) (finish_in fired))))

          pub finish_here : finish_at s'.times key.number ≡ finish
          finish_here =
              ap (λ v. finish_at v.times key.number) s'_is
              ∙ ap (λ (f : Fired). f.finish) (get_or-set_same s.times key.number (time_parts key.number key.start finish) no_time (omega (arith, key_within, times_size)))

          finish_other : (j : ℕ) → j < length events → (j ≡ key.number → ⊥) → finish_at s'.times j ≡ finish_in fired j
          finish_other j l ne =
              ap (λ v. finish_at v.times j) s'_is
              ∙ (ap (λ (f : Fired). f.finish) (get_or-set_other s.times key.number j (time_parts key.number key.start finish) no_time ne)
              ∙ (ap (λ v. finish_at v.times j) is ∙ kept_finish (finish_in fired) (finish_in fired) (finish_in fired) j l))

          before_agrees : Agree (length events) (finish_in fired) (before_firing key.number (finish_at s'.times))
          before_agrees j l =
              elim (cases_eq j key.number) [
                | inl same ↦ ap (λ n. finish_in fired n) same ∙ (unfired_x ∙ sym (cond-true (j == key.number) 0 (finish_at s'.times j) (eq-eqb j key.number same)))
                | inr ne ↦ sym (finish_other j l ne) ∙ sym (cond-false (j == key.number) 0 (finish_at s'.times j) (ne_eqb j key.number ne))
              ]

          times_are : (j : ℕ) (e : Event) → slice_get events j ≡ Some e → slice_get s'.times j ≡ Some (known_time (before_firing key.number (finish_at s'.times)) (before_firing key.number (finish_at s'.times)) (finish_at s'.times) e)
          times_are j e at =
              let l : j < length events = get_within events j e at in
              let number : e.number ≡ j = numbered.number j e at in
              elim (cases_eq j key.number) [
                | inl same ↦
                    let here : slice_get s'.times j ≡ Some (time_parts key.number key.start finish) =
                    ap (λ v. slice_get v.times j) s'_is
                    ∙ (ap (λ n. slice_get (set s.times key.number (time_parts key.number key.start finish)) n) same ∙ get-set_same s.times key.number first.time (time_parts key.number key.start finish) first.there)
                    in
                    let e_is : e ≡ found.0 = (let a : slice_get events key.number ≡ Some e = subst (λ n. slice_get events n ≡ Some e) same at in let b : slice_get events key.number ≡ Some found.0 = found.1 in cc) in
                    let start : key.start ≡ start_of (finish_in fired) e = start_is ∙ ap (λ z. start_of (finish_in fired) z) (sym e_is) in
                    here
                    ∙ ap (λ t. Some t)
                    (ap (λ n. time_parts n key.start finish) (sym same ∙ sym number)
                    ∙ (ap (λ n. time_parts e.number n finish) start
                    ∙ (ap (λ n. time_parts e.number (start_of (finish_in fired) e) n) (sym finish_here ∙ ap (λ n. finish_at s'.times n) (sym same ∙ sym number))
                    ∙ time_same (finish_in fired) (finish_in fired) (finish_at s'.times) (before_firing key.number (finish_at s'.times)) (before_firing key.number (finish_at s'.times)) (finish_at s'.times) before_agrees before_agrees j e at refl)))
                | inr ne ↦
                    ap (λ v. slice_get v.times j) s'_is
                    ∙ (get-set_other s.times key.number j (time_parts key.number key.start finish) (λ q. ne (sym q))
                    ∙ (time_at j e at
                    ∙ ap (λ t. Some t)
                    (time_same (finish_in fired) (finish_in fired) (finish_in fired) (before_firing key.number (finish_at s'.times)) (before_firing key.number (finish_at s'.times)) (finish_at s'.times) before_agrees before_agrees j e at
                    (ap (λ n. finish_in fired n) number ∙ (sym (finish_other j l ne) ∙ ap (λ n. finish_at s'.times n) (sym number))))))
              ]

          waits_are : (j : ℕ) (e : Event) → slice_get events j ≡ Some e → slice_get s'.waits j ≡ Some (known_waits (before_firing key.number (finish_at s'.times)) (before_firing key.number (finish_at s'.times)) (finish_at s'.times) e)
          waits_are j e at =
              let l : j < length events = get_within events j e at in
              let number : e.number ≡ j = numbered.number j e at in
              elim (cases_eq j key.number) [
                | inl same ↦
                    let here : slice_get s'.waits j ≡ Some 255 =
                    ap (λ v. slice_get v.waits j) s'_is
                    ∙ (ap (λ n. slice_get (set s.waits key.number 255) n) same ∙ get-set_same s.waits key.number 0 255 first.ready)
                    in
                    let some : finish_at s'.times e.number ≡ 0 → ⊥ = λ q. omega (arith, q, later, finish_here, ap (λ n. finish_at s'.times n) (number ∙ same)) in
                    here
                    ∙ ap (λ w. Some w)
                    (sym (cond-false (finish_at s'.times e.number == 0) (unfired_parent (before_firing key.number (finish_at s'.times)) e.first + unfired_parent (before_firing key.number (finish_at s'.times)) e.second) 255 (ne_eqb (finish_at s'.times e.number) 0 some)))
                | inr ne ↦
                    ap (λ v. slice_get v.waits j) s'_is
                    ∙ (get-set_other s.waits key.number j 255 (λ q. ne (sym q))
                    ∙ (waits_at j e at
                    ∙ ap (λ w. Some w)
                    (waits_same (finish_in fired) (finish_in fired) (finish_in fired) (before_firing key.number (finish_at s'.times)) (before_firing key.number (finish_at s'.times)) (finish_at s'.times) before_agrees before_agrees j e at
                    (ap (λ n. finish_in fired n) number ∙ (sym (finish_other j l ne) ∙ ap (λ n. finish_at s'.times n) (sym number))))))
              ]

          pub untold : s' ≡ told_to First false key.number (finish_at s'.times) events
          untold =
              ap (λ ts. so_far ts s'.waits) (same_as_map (known_time (before_firing key.number (finish_at s'.times)) (before_firing key.number (finish_at s'.times)) (finish_at s'.times)) events s'.times size' times_are)
              ∙ ap (λ ws. so_far (map (known_time (before_firing key.number (finish_at s'.times)) (before_firing key.number (finish_at s'.times)) (finish_at s'.times)) events) ws)
              (same_as_map (known_waits (before_firing key.number (finish_at s'.times)) (before_firing key.number (finish_at s'.times)) (finish_at s'.times)) events s'.waits waits_size' waits_are)

          slot_fired : (slot : ParentSlot) (e : Event) → is_parent_fired fired e.first ≡ true → is_parent_fired fired e.second ≡ true → is_parent_fired fired (parent_in slot e) ≡ true
          slot_fired First e a b = a
          slot_fired Second e a b = b

          slot_start : (slot : ParentSlot) (H : ℕ → ℕ) (e : Event) (p : Parent) → parent_in slot e ≡ Some p → H p.number + p.delay ≤ start_of H e
          slot_start First H e p parent = let a : after_parent H e.first ≡ H p.number + p.delay = ap (λ o. after_parent H o) parent in omega arith
          slot_start Second H e p parent = let a : after_parent H e.second ≡ H p.number + p.delay = ap (λ o. after_parent H o) parent in omega arith

          -- what the children have to know
          pub child_unfired : (slot : ParentSlot) (j : ℕ) (e : Event) (p : Parent) → slice_get events j ≡ Some e → parent_in slot e ≡ Some p → p.number ≡ key.number → finish_at s'.times j ≡ 0
          child_unfired slot j e p at parent n =
              let l : j < length events = get_within events j e at in
              let below : p.number < j = parent_below slot events numbered j e p at parent in
              finish_other j l (λ q. omega (arith, q, below, n))
              ∙ elim (cases_Bool (is_fired fired j)) [
                | inr f ↦ unfired_finish j f
                | inl t ↦
                    let r : (y : FiredEvent) × (find_fired fired j ≡ Some y) = some_from_fired (find_fired fired j) t in
                    let y = found_in fired j r.0 r.1 in
                    let rule : FiredByTheRules events fired r.0 = rules r.0 y.0 in
                    let same : r.0.event ≡ e = same_event events numbered r.0.event e (in_contains r.0.event events rule.event) (at_in e events j at) (y.1 ∙ sym (numbered.number j e at)) in
                    let up : is_parent_fired fired (parent_in slot e) ≡ true = slot_fired slot e (ap (λ z. is_parent_fired fired z) (ap (λ (z : Event). z.first) (sym same)) ∙ rule.first) (ap (λ z. is_parent_fired fired z) (ap (λ (z : Event). z.second) (sym same)) ∙ rule.second) in
                    let p_fired : is_fired fired p.number ≡ true = ap (λ o. is_parent_fired fired o) (sym parent) ∙ up in
                    let positive : 0 < finish_in fired p.number = fired_finish p.number p_fired in
                    absurd (omega (arith, positive, ap (λ k. finish_in fired k) n, unfired_x))
              ]

          -- the finishes are those of one event more
          agrees : Agree (length events) (finish_at s'.times) (finish_in (fired ++ x ∷ []))
          agrees j l =
              elim (cases_eq j key.number) [
                | inl same ↦
                    ap (λ n. finish_at s'.times n) same
                    ∙ (finish_here ∙ (finish_is
                    ∙ sym (ap finish_or_zero (find_push_new fired x j (ap (λ n. is_fired fired n) (same ∙ sym key_number) ∙ (ready_parts fired x.event next.ready).0) (key_number ∙ sym same)))))
                | inr ne ↦ finish_other j l ne ∙ sym (ap finish_or_zero (find_push_other fired x j (λ q. ne (sym q ∙ key_number))))
              ]

          pub known_next : (s'' : SoFar) → s'' ≡ known_to_all (finish_at s'.times) events → s'' ≡ known_to_all (finish_in (fired ++ x ∷ [])) events
          known_next s'' all = all ∙ known_same (finish_at s'.times) (finish_in (fired ++ x ∷ [])) agrees

          pub child_small : (slot : ParentSlot) → ((e : Event) → In e events → start_of (finish_in (fired ++ x ∷ [])) e ≤ 2 ^ 62) → (j : ℕ) (e : Event) (p : Parent) → slice_get events j ≡ Some e → parent_in slot e ≡ Some p → p.number ≡ key.number → finish + p.delay ≤ 2 ^ 62
          child_small slot small j e p at parent n =
              let start : start_of (finish_in (fired ++ x ∷ [])) e ≤ 2 ^ 62 = small e (at_in e events j at) in
              let here : finish_in (fired ++ x ∷ []) p.number ≡ finish = ap (λ k. finish_in (fired ++ x ∷ []) k) n ∙ (sym (agrees key.number key_within) ∙ finish_here) in
              let above : finish_in (fired ++ x ∷ []) p.number + p.delay ≤ start_of (finish_in (fired ++ x ∷ [])) e = slot_start slot (finish_in (fired ++ x ∷ [])) e p parent in
              omega (arith, start, here, above)
