-- A domain that keeps to the one-list weave, and what its calls leave of it.
use Rattle.std.proofs.Common.{◌≡◌, ◌+◌, ◌<◌, ◌≤◌, ◌^◌, ℕ, zero, suc, Bool, true, false, eqb, List, [], ◌∷◌, ◌++◌, length, map, take, get_or, Option, Some, None, slice_get, sym, ◌∙◌, ap, subst, refl, inl, inr, arith, length-set}
use Rattle.std.proofs.lemmas.Bool.{false≢true}
use Rattle.std.proofs.lemmas.List.{length-map, length_push, take_more}
use Rattle.std.proofs.lemmas.Option.{same_Some, slice_get-map, slice_get-get_or, get_or_from_slice_get}
use Rattle.std.specs.List.{enumerate_from}
use Rattle.std.specs.Option.{option_map}
use Rattle.std.specs.Prelude.{IfSome}
use Rattle.zs_num.specs.declared.time.Key.{Key}
use Rattle.zs_num.specs.declared.time.Word.{Word}
use Rattle.zs_num.specs.declared.time.Word.TheVariants.{Bound, Exact}
use Rattle.component.specs.declared.kind.Kind.{Kind}
use Rattle.event_graph.specs.declared.event.Event.{Event}
use Rattle.event_graph.specs.declared.fired.Fired.{Fired}
use Rattle.event_graph.specs.OneListWeave.{FiredEvent, after_firings, fire, find_fired, finish_in, finish_or_zero, fired_of, least_ready, fire_least, served, weave, woven}
use Rattle.event_graph.specs.SmallSteps.{IsSmallStep}
use Rattle.event_graph.specs.Timely.{AreTimely, IsTimely}
use Rattle.event_graph.specs.ServedEvents.{after_serving, of_component}
use Rattle.event_graph.specs.TimingSolution.{IsInOrder, IsSolution}
use Rattle.domain_map.specs.declared.crossing.Crossing.{Crossing}
use Rattle.domain_map.specs.Domains.{Partition, domain_of_event}
use Rattle.weave_core.specs.AtBarrier.{AreSoundDomains, IsFirstLeft, KnowFiredParents, MayGoOn, least_start_of, own_at}
use Rattle.weave_core.specs.DomainCalls.{CanFire, DomainValue, Follows, IsFire, IsNoFall, MayFire, MayTell, at_first, comps_in, with_known}
use Rattle.weave_core.specs.DomainMachine.{DomainState, SaysAsMuch, cycle_of, is_clear, is_exact, next_in, with_floor, word_at}
use Rattle.weave_core.specs.Following.{FiresFollow, fired_value}
use Rattle.weave_core.specs.Interleavings.{of_domain}
use Rattle.weave_core.specs.Keeping.{CanWeave, IsTrueWordOf, KeepsTo, domain_with}
use Rattle.weave_core.specs.Layout.{place_in}
use Rattle.weave_core.specs.Raising.{MayRaise}
use Rattle.weave_core.specs.SoundDomain.{IsSoundDomain}
use Rattle.weave_core.specs.Soundness.{AreSoundBounds, AreSoundWords, IsSoundFloor, IsSoundWord}
use Rattle.weave_core.proofs.Firing.{IsOrder, finish_is}
use Rattle.weave_core.proofs.Fires.{IsServed}
use Rattle.weave_core.proofs.Following.{left_at, left_by, none_left}
use Rattle.weave_core.proofs.Joined.{exact_cycle, sound_cycle}
use Rattle.weave_core.proofs.Lists.{find_some, get_below, get_there, in_at, last_same, test_cases}
use Rattle.weave_core.proofs.PendingEvents.{IsNextHere, may_fire, pending_is}
use Rattle.weave_core.proofs.Solutions.{bounds_alike, finish_alike, order_alike, words_alike}
use Rattle.weave_core.proofs.SoundDomains.{front_cut, mine_so_far, next_entry}
use Rattle.weave_core.proofs.OwnPlaces.{spot_there}
use Rattle.weave_core.proofs.Updates.{read_after}

none_taken : {X : Type 0} (xs : List X) → [] ≡ take 0 xs
none_taken [] = refl
none_taken (x ∷ xs) = refl

none_known : (xs : List Crossing) (n : ℕ) → word_at (map (λ (x : Crossing). Bound 0) xs) n ≡ Bound 0
none_known [] zero = refl
none_known [] (suc n) = refl
none_known (x ∷ xs) zero = refl
none_known (x ∷ xs) (suc n) = none_known xs n

-- what says as much and is no finish comes after what was none
pub still_open : (was word : Word) → SaysAsMuch was word → is_exact word ≡ false → is_exact was ≡ false
still_open was word says e = elim (test_cases (is_exact was)) [ inr f ↦ f | inl t ↦ absurd (false≢true (sym e ∙ says.finish t)) ]

module _ {C : Type 0} (serves : C → Kind → Bool) (floor : C → Kind → ℕ) (stepped : C → Kind → ℕ → C × ℕ) (greatest : C → Kind → ℕ → ℕ) (events : List Event) (p : Partition) (comps : List C) where
  abbrev pub all : List FiredEvent
  all = (weave stepped events comps).fired

  abbrev pub timed : List FiredEvent
  timed = woven stepped events comps

  -- what the laws of the weave say of this graph
  pub record Facts : Type 0 where
    pub can : CanWeave serves floor stepped greatest events p comps
    pub order : IsOrder events (weave stepped events comps).fired
    pub served : IsServed stepped comps (weave stepped events comps).fired
    pub in_order : IsInOrder (weave stepped events comps).fired
    pub here : (k : ℕ) (x : FiredEvent) → slice_get (weave stepped events comps).fired k ≡ Some x → domain_of_event p.places x.event < length p.events
    pub solution : IsSolution stepped events comps (woven stepped events comps)
    pub timely : AreTimely events (map fired_of (woven stepped events comps))
    pub front : (firings : ℕ) → (after_firings stepped events comps firings).fired ≡ take firings (weave stepped events comps).fired
    pub comps_at : (firings number : ℕ) → slice_get (after_firings stepped events comps firings).comps number
        ≡ option_map (λ c. after_serving stepped c (of_component number (after_firings stepped events comps firings).fired)) (slice_get comps number)
    pub count : length (weave stepped events comps).fired ≡ length events
    pub bounds : (domain : ℕ) (own : DomainState) → AreSoundWords (woven stepped events comps) p own.known → IsSoundFloor (woven stepped events comps) p domain own
        → AreSoundBounds events (woven stepped events comps) p domain own
    pub fires : FiresFollow serves floor stepped
    pub raised : (domain : ℕ) (own : DomainState) (x : Crossing) (bound : ℕ) → IsSoundDomain stepped events p comps (woven stepped events comps) solution domain own → MayRaise events p domain own x bound
        → bound ≤ finish_in (woven stepped events comps) x.parent
    pub floors : (owns : List DomainState) (start : ℕ) → AreSoundDomains stepped events p comps (woven stepped events comps) solution owns → KnowFiredParents p owns → least_start_of events p owns ≡ Some start
        → (domain : ℕ) → IsSoundFloor (woven stepped events comps) p domain (with_floor start (own_at owns domain))
    pub goes_on : (owns : List DomainState) (index : ℕ) (x : FiredEvent) → AreSoundDomains stepped events p comps (woven stepped events comps) solution owns → KnowFiredParents p owns
        → IsFirstLeft stepped events p comps owns index x → MayGoOn events p owns x

  module _ (f : Facts) where
    pub begins : (domain : ℕ) → KeepsTo stepped events p comps domain (at_first p) (comps_in p.places domain comps)
    begins domain = record {
      fired = none_taken (of_domain p.places domain all);
      parts_are = ap (comps_in p.places domain) (sym (none_left stepped 0 comps));
      known = record { each = λ n x h. subst (IsSoundWord timed x) (sym (none_known p.crossings n)) (omega arith) };
      floor = record { each = λ number x there target unknown. omega arith };
      wide = length-map p.crossings (λ (x : Crossing). Bound 0);
    }

    pub finish_small : (number : ℕ) → finish_in timed number ≤ 2 ^ 62
    finish_small number = by_option (find_fired timed number) refl
      where
        by_option : (z : Option FiredEvent) → find_fired timed number ≡ z → finish_in timed number ≤ 2 ^ 62
        by_option None e = let is : finish_in timed number ≡ 0 = ap finish_or_zero e in omega (arith, is)
        by_option (Some y) e =
            let s = find_some (λ (x : FiredEvent). eqb x.event.number number) timed y e in
            let i : (i : ℕ) × (slice_get timed i ≡ Some y) = in_at y timed s.0 in
            let there : slice_get (map fired_of timed) i.0 ≡ Some (fired_of y) = slice_get-map fired_of timed i.0 ∙ ap (option_map fired_of) i.1 in
            let event = get_there events i.0 (omega (arith, get_below (map fired_of timed) i.0 (fired_of y) there, f.timely.count)) in
            let t : IsTimely event.0 (fired_of y) = f.timely.each i.0 event.0 (fired_of y) event.1 there in
            let is : finish_in timed number ≡ y.finish = ap finish_or_zero e in
            omega (arith, t.small, is)

    -- the firing of an event is small
    one_more_fired : (k : ℕ) → (after_firings stepped events comps (suc k)).fired ≡ (fire stepped (after_firings stepped events comps k) (least_ready (after_firings stepped events comps k).fired events)).fired
    unfolding after_firings fire_least
    one_more_fired k = refl

    longer : (k : ℕ) (x : FiredEvent) → slice_get all k ≡ Some x → (after_firings stepped events comps (suc k)).fired ≡ (after_firings stepped events comps k).fired ++ x ∷ []
    longer k x h =
        let next : suc k ≡ k + 1 = omega arith in
        f.front (suc k)
        ∙ (ap (λ n. take n all) next
        ∙ (take_more all k x (get_below all k x h)
        ∙ (ap (λ (z : FiredEvent). take k all ++ z ∷ []) (get_or_from_slice_get all k x x h) ∙ ap (λ (xs : List FiredEvent). xs ++ x ∷ []) (sym (f.front k)))))

    never_same : (xs : List FiredEvent) (x : FiredEvent) → xs ≡ xs ++ x ∷ [] → ⊥
    never_same xs x e = absurd (omega (arith, ap length e, length_push xs x))

    pub small_at : (k : ℕ) (x : FiredEvent) → slice_get all k ≡ Some x → (event : Event) (start : ℕ) → x.event ≡ event → x.start ≡ start → (c : C)
        → slice_get (after_firings stepped events comps k).comps event.component ≡ Some c → greatest c event.kind start ≤ 2 ^ 62
    small_at k x h event start event_is start_is c there = by_next (least_ready (after_firings stepped events comps k).fired events) refl (f.can.small k)
      where
        by_comp : (n : Event × ℕ) → least_ready (after_firings stepped events comps k).fired events ≡ Some n → (o : Option C) → slice_get (after_firings stepped events comps k).comps n.0.component ≡ o
            → IfSome o (λ c. greatest c n.0.kind n.1 ≤ 2 ^ 62) → greatest c event.kind start ≤ 2 ^ 62
        by_comp n e None g s =
            absurd
            (never_same (after_firings stepped events comps k).fired x
            (sym (one_more_fired k
            ∙ (ap (λ (o : Option (Event × ℕ)). (fire stepped (after_firings stepped events comps k) o).fired) e
            ∙ ap (λ (o : Option C). (served stepped (after_firings stepped events comps k) n.0 n.1 o).fired) g))
            ∙ longer k x h))
        by_comp n e (Some d) g s =
            let grown : (after_firings stepped events comps k).fired ++ (record { event = n.0; start = n.1; finish = (stepped d n.0.kind n.1).1 }) ∷ [] ≡ (after_firings stepped events comps k).fired ++ x ∷ [] =
            sym (one_more_fired k
            ∙ (ap (λ (o : Option (Event × ℕ)). (fire stepped (after_firings stepped events comps k) o).fired) e
            ∙ ap (λ (o : Option C). (served stepped (after_firings stepped events comps k) n.0 n.1 o).fired) g))
            ∙ longer k x h
            in
            let same = last_same (after_firings stepped events comps k).fired _ x grown in
            let is_event : n.0 ≡ event = ap (λ (z : FiredEvent). z.event) same ∙ event_is in
            let is_start : n.1 ≡ start = ap (λ (z : FiredEvent). z.start) same ∙ start_is in
            let is_component : d ≡ c = same_Some d c (sym g ∙ (ap (λ (z : Event). slice_get (after_firings stepped events comps k).comps z.component) is_event ∙ there)) in
            subst (λ (z : C). greatest z event.kind start ≤ 2 ^ 62) is_component
            (subst (λ (z : ℕ). greatest d event.kind z ≤ 2 ^ 62) is_start (subst (λ (z : Event). greatest d z.kind n.1 ≤ 2 ^ 62) is_event s))

        by_next : (o : Option (Event × ℕ)) → least_ready (after_firings stepped events comps k).fired events ≡ o → IsSmallStep stepped greatest (after_firings stepped events comps k) o → greatest c event.kind start ≤ 2 ^ 62
        by_next None e s =
            absurd
            (never_same (after_firings stepped events comps k).fired x
            (sym (one_more_fired k ∙ ap (λ (o : Option (Event × ℕ)). (fire stepped (after_firings stepped events comps k) o).fired) e) ∙ longer k x h))
        by_next (Some n) e s = by_comp n e (slice_get (after_firings stepped events comps k).comps n.0.component) refl s

    module _ (domain : ℕ) (own : DomainState) (parts : List C) (k : KeepsTo stepped events p comps domain own parts) where
      abbrev bounds : AreSoundBounds events timed p domain own
      bounds = f.bounds domain own k.known k.floor

      pub may_tell : (number : ℕ) (word : Word) → IsTrueWordOf stepped events p comps domain own number word → MayTell events p domain own number word
      may_tell number word x = record {
        crossing = x.crossing;
        there = x.there;
        target = x.target;
        no_fall = no_fall (word_at own.known number) refl word refl;
        agrees = λ other y h same exact tells.
            exact_cycle timed x.crossing word x.sound tells
            ∙ (ap (finish_in timed) (sym same) ∙ sym (exact_cycle timed y (word_at own.known other) (k.known.each other y h) exact));
        small = omega (arith, finish_small x.crossing.parent, sound_cycle timed x.crossing word x.sound);
      }
        where
          no_fall : (a : Word) → word_at own.known number ≡ a → (b : Word) → word ≡ b → IsNoFall events p domain own number x.crossing a b
          no_fall (Bound a) e (Bound b) t = omega (arith, x.says.bound (ap is_exact t), ap cycle_of e, ap cycle_of t)
          no_fall (Exact g) e (Bound b) t = absurd (false≢true (sym (ap is_exact t) ∙ x.says.finish (ap is_exact e)))
          no_fall (Bound a) e (Exact f) t =
              omega (arith, bounds.each number x.crossing x.there x.target (ap is_exact e), exact_cycle timed x.crossing word x.sound (ap is_exact t), ap cycle_of t)
          no_fall (Exact g) e (Exact f) t =
              sym (ap cycle_of t)
              ∙ (exact_cycle timed x.crossing word x.sound (ap is_exact t)
              ∙ (sym (exact_cycle timed x.crossing (word_at own.known number) (k.known.each number x.crossing x.there) (ap is_exact e)) ∙ ap cycle_of e))

      pub tells : (number : ℕ) (word : Word) → IsTrueWordOf stepped events p comps domain own number word → KeepsTo stepped events p comps domain (with_known own number word) parts
      tells number word x = record {
        fired = k.fired;
        parts_are = k.parts_are;
        known = record {
          each = λ n y h.
              elim (read_after own.known number word (Bound 0) n) [
                | inr same ↦ subst (IsSoundWord timed y) (sym same) (k.known.each n y h)
                | inl is ↦
                    let one : x.crossing ≡ y = same_Some x.crossing y (sym x.there ∙ (ap (slice_get p.crossings) (sym is.0) ∙ h)) in
                    subst (IsSoundWord timed y) (sym is.1) (subst (λ (z : Crossing). IsSoundWord timed z word) one x.sound)
              ];
        };
        floor = record {
          each = λ n y h target unknown.
              elim (read_after own.known number word (Bound 0) n) [
                | inr same ↦ k.floor.each n y h target (sym (ap is_exact same) ∙ unknown)
                | inl is ↦
                    k.floor.each n y h target (ap (λ m. is_exact (word_at own.known m)) is.0 ∙ still_open (word_at own.known number) word x.says (ap is_exact (sym is.1) ∙ unknown))
              ];
        };
        wide = length-set own.known number word ∙ k.wide;
      }

      sorted_is : f.solution.sorted ≡ all
      sorted_is = order_alike stepped events comps f.order timed refl f.solution.sorted f.solution.in_order f.solution.same f.in_order

      pub bounds_hold : (x : Crossing) (bound : ℕ) → MayRaise events p domain own x bound → bound ≤ finish_in timed x.parent
      bounds_hold x bound may =
          f.raised domain own x bound
          (record {
            fired = k.fired ∙ ap (λ (xs : List FiredEvent). take (length own.fired) (of_domain p.places domain xs)) (sym sorted_is);
            known = k.known;
            bounds = bounds;
          })
          may

      abbrev cut : (cut : ℕ) × (take (length own.fired) (of_domain p.places domain all) ≡ of_domain p.places domain (take cut all))
      cut = front_cut (λ (y : FiredEvent). eqb (domain_of_event p.places y.event) domain) all (length own.fired)

      fired_cut : own.fired ≡ of_domain p.places domain (take cut.0 all)
      fired_cut = k.fired ∙ cut.1

      known_all : AreSoundWords all p own.known
      known_all = words_alike stepped events comps f.order timed refl p own.known k.known

      bounds_all : AreSoundBounds events all p domain own
      bounds_all = bounds_alike stepped events comps f.order timed refl p domain own (f.bounds domain own k.known k.floor)

      -- the event that may fire
      module _ (event : Event) (start : ℕ) (next : next_in events p domain own ≡ Some (event, start)) (clear : is_clear events p domain own start ≡ true) where
        abbrev first : IsNextHere events p all f.order f.can.partitioned.partitions domain cut.0 own fired_cut known_all bounds_all (event, start)
        first = may_fire events p all f.order f.can.partitioned.partitions domain cut.0 own fired_cut known_all bounds_all (event, start) next clear

        firing : (slice_get (of_domain p.places domain all) (length own.fired) ≡ Some first.x)
            × ((c : C) × ((slice_get comps first.x.event.component ≡ Some c)
            × (first.x.finish ≡ (stepped (after_serving stepped c (of_component first.x.event.component own.fired)) first.x.event.kind first.x.start).1)))
        firing = next_entry stepped events p comps f.order f.can.partitioned.partitions f.served f.here f.in_order domain cut.0 own fired_cut known_all bounds_all (event, start) first

        in_here : domain_of_event p.places event ≡ domain
        in_here =
            sym (ap (domain_of_event p.places) first.event)
            ∙ (pending_is events p all f.order f.can.partitioned.partitions domain cut.0 own fired_cut known_all bounds_all first.k first.x first.first.passes).0

        -- what its component is
        component_is : (c : C) → slice_get parts (place_in p.places domain event.component) ≡ Some c → c ≡ after_serving stepped firing.1.0 (of_component event.component own.fired)
        component_is c there =
            let base : slice_get comps event.component ≡ Some firing.1.0 = ap (λ (e : Event). slice_get comps e.component) (sym first.event) ∙ firing.1.1.0 in
            let placed : slice_get p.places event.component ≡ Some (get_or p.places event.component 0) =
            slice_get-get_or p.places event.component 0 (omega (arith, get_below comps event.component firing.1.0 base, f.can.partitioned.places))
            in
            same_Some c _
            (sym there
            ∙ (ap (λ (cs : List C). slice_get cs (place_in p.places domain event.component)) k.parts_are
            ∙ spot_there p.places domain (map (left_by stepped own.fired) (enumerate_from 0 comps)) event.component (get_or p.places event.component 0) _ placed in_here
            (left_at stepped own.fired 0 event.component comps event.component firing.1.0 (omega arith) base)))

        -- as it is in the weave when it serves the event
        in_weave : (c : C) → slice_get parts (place_in p.places domain event.component) ≡ Some c → slice_get (after_firings stepped events comps first.k).comps event.component ≡ Some c
        in_weave c there =
            let base : slice_get comps event.component ≡ Some firing.1.0 = ap (λ (e : Event). slice_get comps e.component) (sym first.event) ∙ firing.1.1.0 in
            let mine : of_component event.component (take first.k all) ≡ of_component event.component own.fired =
            subst (λ (e : Event). of_component e.component (take first.k all) ≡ of_component e.component own.fired) first.event
            (mine_so_far stepped events p comps f.order f.can.partitioned.partitions f.served f.here f.in_order domain cut.0 own fired_cut known_all bounds_all (event, start) first)
            in
            f.comps_at first.k event.component
            ∙ (ap (option_map (λ c. after_serving stepped c (of_component event.component (after_firings stepped events comps first.k).fired))) base
            ∙ (ap (λ (xs : List FiredEvent). Some (after_serving stepped firing.1.0 (of_component event.component xs))) (f.front first.k)
            ∙ (ap (λ (xs : List FiredEvent). Some (after_serving stepped firing.1.0 xs)) mine ∙ ap (λ (z : C). Some z) (sym (component_is c there)))))

        pub small : (c : C) → slice_get parts (place_in p.places domain event.component) ≡ Some c → greatest c event.kind start ≤ 2 ^ 62
        small c there = small_at first.k first.x first.first.there event start first.event first.start c (in_weave c there)

      pub can_fire : (key : Key) → MayFire events p domain own key → CanFire greatest (domain_with stepped events p comps domain own parts)
      can_fire key may = record { key = key; may = may; small = small may.event key.start may.next may.clear }

      -- a fire of it
      module _ (key : Key) (may : MayFire events p domain own key) (new : DomainValue C) (result : Fired) (fire : IsFire stepped (domain_with stepped events p comps domain own parts) new result) where
        same_next : ◌≡◌ {A = Event × ℕ} (fire.event, fire.start) (may.event, key.start)
        same_next = same_Some (fire.event, fire.start) (may.event, key.start) (sym fire.next ∙ may.next)

        clear_then : is_clear events p domain own fire.start ≡ true
        clear_then = subst (λ (b : Event × ℕ). is_clear events p domain own b.1 ≡ true) (sym same_next) may.clear

        order : f.solution.sorted ≡ all
        order = order_alike stepped events comps f.order timed refl f.solution.sorted f.solution.in_order f.solution.same f.in_order

        before : Follows stepped comps timed (domain_with stepped events p comps domain own parts) f.solution
        before = record {
          fired = λ a b. k.fired ∙ ap (λ (xs : List FiredEvent). take (length own.fired) (of_domain p.places domain xs)) (sym order);
          comps_are = λ a b. k.parts_are;
        }

        then : Follows stepped comps timed (fired_value stepped (domain_with stepped events p comps domain own parts) fire.event fire.start fire.component) f.solution
        then = f.fires.each comps timed (domain_with stepped events p comps domain own parts) new f.solution result fire f.can.partitioned clear_then before

        kept : (v : DomainValue C) → v ≡ fired_value stepped (domain_with stepped events p comps domain own parts) fire.event fire.start fire.component → KeepsTo stepped events p comps domain v.own v.comps
        kept v e =
            subst (λ (v : DomainValue C). KeepsTo stepped events p comps domain v.own v.comps) (sym e)
            (record {
              fired = then.fired k.known (record { each = (f.bounds domain own k.known k.floor).each })
                  ∙ ap (λ (xs : List FiredEvent). take (length (own.fired ++ (record { event = fire.event; start = fire.start; finish = (stepped fire.component fire.event.kind fire.start).1 }) ∷ [])) (of_domain p.places domain xs)) order;
              parts_are = then.comps_are k.known (record { each = (f.bounds domain own k.known k.floor).each });
              known = k.known;
              floor = record { each = k.floor.each };
              wide = k.wide;
            })

        pub fires_to : KeepsTo stepped events p comps domain new.own new.comps
        fires_to = kept new fire.new_is

        pub finish_then : result.finish ≡ finish_in timed result.number
        finish_then =
            let n : IsNextHere events p all f.order f.can.partitioned.partitions domain (cut).0 own fired_cut known_all bounds_all (fire.event, fire.start) = first fire.event fire.start fire.next clear_then in
            let e = firing fire.event fire.start fire.next clear_then in
            let c : fire.component ≡ after_serving stepped e.1.0 (of_component fire.event.component own.fired) = component_is fire.event fire.start fire.next clear_then fire.component fire.there in
            let number : finish_in timed fire.event.number ≡ n.x.finish =
            finish_alike stepped events comps f.order timed refl fire.event.number
            ∙ (ap (λ (z : Event). finish_in all z.number) (sym n.event) ∙ finish_is events all f.order n.k n.x n.first.there)
            in
            let step : n.x.finish ≡ (stepped fire.component fire.event.kind fire.start).1 =
            e.1.1.1
            ∙ (ap (λ (z : Event). (stepped (after_serving stepped e.1.0 (of_component z.component own.fired)) z.kind n.x.start).1) n.event
            ∙ (ap (λ (s : ℕ). (stepped (after_serving stepped e.1.0 (of_component fire.event.component own.fired)) fire.event.kind s).1) n.start
            ∙ ap (λ (z : C). (stepped z fire.event.kind fire.start).1) (sym c)))
            in
            ap (λ (r : Fired). r.finish) fire.result_is ∙ (sym (number ∙ step) ∙ ap (finish_in timed) (sym (ap (λ (r : Fired). r.number) fire.result_is)))
