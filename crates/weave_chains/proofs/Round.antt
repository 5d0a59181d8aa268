-- A round of the program, by the laws of the weave.
use Rattle.std.proofs.Common.{◌≡◌, ◌+◌, ◌-◌, ◌<◌, ◌≤◌, ◌^◌, ℕ, suc, Bool, true, false, List, [], ◌∷◌, ◌++◌, length, drop, Option, None, Some, inl, inr, sym, ◌∙◌, ap, subst, refl, arith, add-one, All, nat_lt}
use Rattle.std.specs.Prelude.{IfNone, IfSome, IsTrue, slice_set}
use Rattle.std.specs.List.{Contains, slice_get}
use Rattle.std.proofs.lemmas.Bool.{cases_eq, cases_lt, cond_both}
use Rattle.std.proofs.lemmas.Option.{slice_get_within}
use Rattle.component.specs.declared.kind.Kind.{Kind}
use Rattle.zs_num.specs.declared.entry.Entry.{Entry}
use Rattle.zs_num.specs.declared.time.Key.{Key}
use Rattle.domain_queue.specs.SortedKeys.{IsAscending, put}
use Rattle.core_queue.specs.NextKeys.{with_next}
use Rattle.event_graph.specs.declared.event.Event.{Event}
use Rattle.event_graph.specs.declared.piece.Piece.{Piece}
use Rattle.event_graph.specs.EventGraph.{all_events, event_at}
use Rattle.event_graph.specs.Firing.{FiresNext}
use Rattle.event_graph.specs.OneListWeave.{FiredEvent, after_firings, finish_in, fired_of, is_event_before, is_fired, start_of, weave}
use Rattle.event_graph.specs.PlacedEvents.{events_before}
use Rattle.event_graph.specs.SmallSteps.{IsSmallStep}
use Rattle.event_graph.proofs.Least.{least_is}
use Rattle.event_graph.proofs.Lists.{In, contains_in, in_contains}
use Rattle.stats.specs.Counted.{wait_of}
use Rattle.weave_chains.specs.declared.chain.Chain.{Chain}
use Rattle.weave_chains.specs.declared.chain.Ended.{Ended}
use Rattle.weave_chains.specs.declared.chain.Next.{Next}
use Rattle.weave_chains.specs.declared.tally.Served.{Served}
use Rattle.weave_chains.specs.Chains.{AreUnderWay, IsChain, IsReady, moved_on, next_number, start_by}
use Rattle.weave_chains.specs.GraphFacts.{ArePlaced}
use Rattle.weave_chains.specs.Listed.{list_of, number_before, one_after_other}
use Rattle.weave_chains.specs.NextEvents.{AreAhead, IsAhead, IsAtAccess, IsNext, KnowsAccess, StartsAt}
use Rattle.weave_chains.specs.RoundLaws.{RoundLaws}
use Rattle.weave_chains.specs.Rounds.{AreChained, AreInChains, HasCome, IsWeaving}
use Rattle.weave_chains.specs.States.{ChainState, state_of, states}
use Rattle.weave_chains.specs.Tallies.{HasFiredNext, served_of}
use Rattle.weave_chains.proofs.Answered.{all_fired}
use Rattle.weave_chains.proofs.Ended.{over}
use Rattle.weave_chains.proofs.Listed.{in_all, in_chains}
use Rattle.weave_chains.proofs.Moved.{own_chain, set_other, set_same}
use Rattle.weave_chains.proofs.Popped as popped
use Rattle.weave_chains.proofs.Popped.{contained, get_some}
use Rattle.weave_chains.proofs.Rounds as rounds
use Rattle.weave_chains.proofs.Starts.{start_is}
use Rattle.weave_chains.proofs.States.{state_at, states_length, states_set}

abbrev pub served_by : ℕ → ℕ → ℕ → ℕ → Served
served_by core component start waited = record { core = core; component = component; start = start; waited = waited }

same_served : (a b c d s t w v : ℕ) → a ≡ b → c ≡ d → s ≡ t → w ≡ v → served_by a c s w ≡ served_by b d t v
same_served a b c d s t w v p q r u = cc

by_all : {X : Type 0} (P : X → Type 0) (xs : List X) → All P xs → (x : X) → Contains xs x → P x
by_all P xs h x c = subst P c.2 (h c.0 x c.1)

-- where a chain moves to
same_end : (count : ℕ) (done : Ended) (c : ChainState) → (moved_on count done c).end ≡ c.end
same_end count done c =
    cond_both (nat_lt (c.place + 1) count) (record c { place = c.place + 1; ended = slice_set c.ended c.place done }) (record c { access = c.access + 1; place = 0; last = Some done })
    (λ (z : ChainState). z.end ≡ c.end) (λ t. refl) (λ f. refl)

same_access : (count : ℕ) (done : Ended) (c : ChainState) → 0 < (moved_on count done c).place → (moved_on count done c).access ≡ c.access
same_access count done c =
    cond_both (nat_lt (c.place + 1) count) (record c { place = c.place + 1; ended = slice_set c.ended c.place done }) (record c { access = c.access + 1; place = 0; last = Some done })
    (λ (z : ChainState). 0 < z.place → z.access ≡ c.access) (λ t more. refl) (λ f more. absurd (omega (arith, more)))

-- what a round begins with
pub record IsRound {C : Type 0} (serves : C → Kind → Bool) (floor : C → Kind → ℕ) (stepped : C → Kind → ℕ → C × ℕ) (greatest : C → Kind → ℕ → ℕ) (pieces : Entry → List Piece)
    (lists : List (List Entry)) (chains : List Chain) (keys : List Key) (comps first : List C) (n : ℕ) : Type 0 where
  pub laws : RoundLaws serves floor stepped greatest pieces
  pub chained : AreChained pieces lists
  pub count : length chains ≡ length lists
  pub ahead : AreAhead pieces lists chains
  pub ascending : IsAscending keys
  pub weaving : IsWeaving serves floor stepped greatest pieces lists first n chains keys comps

module _ {C : Type 0} {serves : C → Kind → Bool} {floor : C → Kind → ℕ} {stepped : C → Kind → ℕ → C × ℕ} {greatest : C → Kind → ℕ → ℕ} {pieces : Entry → List Piece}
    {lists : List (List Entry)} {chains : List Chain} {keys : List Key} {comps first : List C} {n : ℕ} (r : IsRound serves floor stepped greatest pieces lists chains keys comps first n) where
  abbrev entries : List Entry
  entries = one_after_other lists

  abbrev events : List Event
  events = all_events pieces entries

  abbrev all : List ChainState
  all = states lists chains

  placed : ArePlaced pieces entries
  placed = r.laws.placed entries

  in_list : AreInChains pieces entries (length all)
  in_list = subst (λ m. AreInChains pieces entries m) (sym (states_length lists chains ∙ r.count)) (in_chains pieces lists r.chained)

  abbrev fired : List FiredEvent
  fired = (after_firings stepped events first n).fired

  come : HasCome stepped pieces entries first n all keys comps
  come = r.weaving.come

  -- ---- an event is left
  module _ (less : n < length events) where
    abbrev next : (x : FiredEvent) × (c : C) × FiresNext serves stepped events (after_firings stepped events first n) (after_firings stepped events first (suc n)) x c
    next = r.laws.next events first n placed.numbered r.weaving.fits less

    abbrev x : FiredEvent
    x = next.0

    abbrev fires : FiresNext serves stepped events (after_firings stepped events first n) (after_firings stepped events first (suc n)) x next.1
    fires = next.2

    first_of : (d : Event) → Contains events d → d.core ≡ x.event.core → d.number < x.event.number → is_fired fired d.number ≡ true
    first_of d m core before = r.laws.order entries first n x next.1 d r.chained.row r.weaving.fits fires m core before

    abbrev own : (c : ChainState) × (slice_get all x.event.core ≡ Some c)
    own = popped.own pieces entries placed in_list.grouped fired all keys r.ascending come.way in_list.known x fires.next first_of

    is_own : IsChain pieces entries fired x.event.core own.0
    is_own = come.way.chain x.event.core own.0 own.1

    goes_on : own.0.access < own.0.end
    goes_on = popped.goes_on pieces entries placed in_list.grouped fired all keys r.ascending come.way in_list.known x fires.next first_of

    is_next : slice_get events (next_number pieces entries own.0) ≡ Some x.event
    is_next = popped.is_next pieces entries placed in_list.grouped fired all keys r.ascending come.way in_list.known x fires.next first_of

    x_at : slice_get events x.event.number ≡ Some x.event
    x_at = popped.x_at pieces entries placed in_list.grouped fired all keys r.ascending come.way in_list.known x fires.next first_of

    unfired : is_fired fired x.event.number ≡ false
    unfired = popped.unfired pieces entries placed in_list.grouped fired all keys r.ascending come.way in_list.known x fires.next first_of

    -- so a key is there
    some_key : (k : Key) × (slice_get keys 0 ≡ Some k)
    some_key =
        let k : (k : Key) × (Contains keys k × (k.number ≡ x.event.core)) = come.way.ready.all x.event.core own.0 own.1 goes_on in
        get_some keys 0 (omega (arith, k.1.0.1))

    small_step : greatest next.1 x.event.kind x.start ≤ 2 ^ 62
    small_step =
        let least = least_is fired events x.event (in_contains x.event events fires.next.event) fires.next.ready (λ y m ready. elim (fires.next.first y (contains_in y events m) ready) [ inl same ↦ inl same | inr before ↦ inr (subst (λ s. is_event_before x.event s y (start_of (finish_in fired) y) ≡ true) fires.next.start before) ]) in
        let a : IsSmallStep stepped greatest (after_firings stepped events first n) (Some (x.event, x.start)) =
        subst (λ o. IsSmallStep stepped greatest (after_firings stepped events first n) o) (least ∙ ap (λ s. Some (x.event, s)) (sym fires.next.start)) (r.weaving.small n)
        in
        subst (λ o. IfSome o (λ z. greatest z x.event.kind x.start ≤ 2 ^ 62)) fires.there a

  -- without a key all have fired
  pub all_have_fired : slice_get keys 0 ≡ None → n ≡ length events
  all_have_fired none =
      elim (cases_lt n (length events)) [
        | inl less ↦ (let k : (k : Key) × (slice_get keys 0 ≡ Some k) = some_key less in absurd (cc))
        | inr not ↦ omega (arith, not, r.weaving.within)
      ]

  -- ---- a key is there
  module _ (k : Key) (at : slice_get keys 0 ≡ Some k) where
    each_fired : length events ≤ n → (e : Event) → In e events → is_fired fired e.number ≡ true
    each_fired not e m =
        let last : length events ≡ n = omega (arith, not, r.weaving.within) in
        let a : is_fired (weave stepped events first).fired e.number ≡ true = all_fired events (weave stepped events first).fired (r.laws.once events first placed.numbered r.weaving.fits) e m in
        subst (λ m. is_fired (after_firings stepped events first m).fired e.number ≡ true) last a

    -- so an event is left
    pub more : n < length events
    more = elim (cases_lt n (length events)) [
      | inl less ↦ less
      | inr not ↦
          let ready : IsReady pieces entries fired all k = come.way.ready.each k (contained keys 0 k at) in
          absurd (omega (arith, ready.goes_on, over pieces entries placed fired (each_fired not) k.number ready.chain (come.way.chain k.number ready.chain ready.there)))
    ]

    abbrev step : (x : FiredEvent) × (c : C) × FiresNext serves stepped events (after_firings stepped events first n) (after_firings stepped events first (suc n)) x c
    step = next more

    abbrev event : Event
    event = step.0.event

    is_k : (k.number ≡ event.core) × (k.start ≡ step.0.start)
    is_k = popped.popped pieces entries placed in_list.grouped fired all keys r.ascending come.way in_list.known step.0 step.2.next (first_of more) k at

    pub within : k.number < length chains
    within = omega (arith, is_k.0, slice_get_within all event.core (own more).0 (own more).1, states_length lists chains)

    abbrev list : List Entry
    list = list_of lists k.number

    abbrev before : ℕ
    before = number_before lists k.number

    -- the chain as the program reads it
    module _ (chain : Chain) (chain_there : slice_get chains k.number ≡ Some chain) where
      abbrev c : ChainState
      c = state_of before chain

      c_there : slice_get all k.number ≡ Some c
      c_there = state_at lists chains k.number chain chain_there

      c_is : (own more).0 ≡ c
      c_is = let a : slice_get all k.number ≡ Some (own more).0 = subst (λ i. slice_get all i ≡ Some (own more).0) (sym is_k.0) (own more).1 in let b : slice_get all k.number ≡ Some c = c_there in cc

      is : IsChain pieces entries fired event.core c
      is = subst (λ z. IsChain pieces entries fired event.core z) c_is (is_own more)

      on : c.access < c.end
      on = subst (λ (z : ChainState). z.access < z.end) c_is (goes_on more)

      pub chain_goes_on : chain.access < chain.end
      chain_goes_on = omega (arith, on)

      c_next : slice_get events (next_number pieces entries c) ≡ Some event
      c_next = subst (λ z. slice_get events (next_number pieces entries z) ≡ Some event) c_is (is_next more)

      pub starts_small : k.start ≤ 2 ^ 62
      starts_small =
          subst (λ s. s ≤ 2 ^ 62) (sym (is_k.1 ∙ step.2.next.start))
          (by_all (λ e. start_of (finish_in fired) e ≤ 2 ^ 62) events (r.laws.starts events first n placed.numbered r.weaving.fits r.weaving.small) event
          (contained events (next_number pieces entries c) event c_next))

      pub starts_now : (e : Entry) → slice_get list chain.access ≡ Some e → (q : Piece) → slice_get (pieces e) chain.place ≡ Some q
          → k.start ≡ start_by (state_of 0 chain) (e.start + q.offset) q
      starts_now e at q q_at =
          let e_in_all : slice_get entries c.access ≡ Some e = in_all lists k.number chain.access e at in
          let there : slice_get events (next_number pieces entries c) ≡ Some (event_at (events_before pieces entries c.access) e (pieces e) c.place q) = placed.there c.access e c.place q e_in_all q_at in
          let next_is : slice_get events (next_number pieces entries c) ≡ Some event = c_next in
          let same : event ≡ event_at (events_before pieces entries c.access) e (pieces e) c.place q = cc in
          is_k.1 ∙ (step.2.next.start ∙ (ap (start_of (finish_in fired)) same ∙ sym (start_is pieces entries placed fired event.core c is on e e_in_all (r.laws.parents e) q q_at)))

      knows : IsAhead pieces list chain
      knows = r.ahead k.number chain chain_there

      pub next_is_known : chain.next ≡ None → ⊥
      next_is_known none = omega (arith, knows.over none, chain_goes_on)

      module _ (known : Next) (known_is : chain.next ≡ Some known) where
        is_known : IsNext pieces list chain known
        is_known = knows.next known known_is

        abbrev entry : Entry
        entry = is_known.entry

        abbrev p : Piece
        p = is_known.piece

        e_there : slice_get entries c.access ≡ Some entry
        e_there = in_all lists k.number chain.access entry is_known.access.there

        pub core_is : known.core ≡ k.number
        core_is = is_known.core ∙ r.chained.own k.number chain.access entry is_known.access.there

        place_within : c.place < length (pieces entry)
        place_within = is.place entry on e_there

        pub place_small : chain.place < 64
        place_small = omega (arith, place_within, r.chained.few c.access entry e_there)

        event_is : event ≡ event_at (events_before pieces entries c.access) entry (pieces entry) c.place p
        event_is =
            let a : slice_get events (next_number pieces entries c) ≡ Some (event_at (events_before pieces entries c.access) entry (pieces entry) c.place p) = placed.there c.access entry c.place p e_there is_known.made in
            let b : slice_get events (next_number pieces entries c) ≡ Some event = c_next in
            cc

        component_is : event.component ≡ known.component
        component_is = ap (λ (e : Event). e.component) event_is ∙ sym is_known.component

        kind_is : event.kind ≡ known.kind
        kind_is = ap (λ (e : Event). e.kind) event_is ∙ sym is_known.kind

        comp_there : slice_get comps known.component ≡ Some step.1
        comp_there = ap (λ cs. slice_get cs known.component) come.comps_are ∙ (ap (slice_get (after_firings stepped events first n).comps) (sym component_is) ∙ step.2.there)

        pub component_within : known.component < length comps
        component_within = slice_get_within comps known.component step.1 comp_there

        module _ (comp : C) (comp_is : slice_get comps known.component ≡ Some comp) where
          same_comp : step.1 ≡ comp
          same_comp = let a : slice_get comps known.component ≡ Some step.1 = comp_there in cc

          pub serves_it : IsTrue (serves comp known.kind)
          serves_it = subst (λ z. IsTrue (serves z known.kind)) same_comp (subst (λ kind. IsTrue (serves step.1 kind)) kind_is step.2.served)

          pub small_here : greatest comp known.kind k.start ≤ 2 ^ 62
          small_here = subst (λ z. greatest z known.kind k.start ≤ 2 ^ 62) same_comp (subst (λ kind. greatest step.1 kind k.start ≤ 2 ^ 62) kind_is (subst (λ s. greatest step.1 event.kind s ≤ 2 ^ 62) (sym is_k.1) (small_step more)))

          abbrev finish : ℕ
          finish = (stepped comp known.kind k.start).1

          abbrev left : C
          left = (stepped comp known.kind k.start).0

          stepped_is : stepped comp known.kind k.start ≡ stepped step.1 event.kind step.0.start
          stepped_is = ap (λ z. stepped z known.kind k.start) (sym same_comp) ∙ (ap (λ kind. stepped step.1 kind k.start) (sym kind_is) ∙ ap (stepped step.1 event.kind) is_k.1)

          finish_is : finish ≡ step.0.finish
          finish_is = ap (λ z. z.1) stepped_is ∙ sym step.2.finish

          -- what is answered of the event
          served_is : served_by known.core known.component k.start (finish - k.start - known.time) ≡ served_of step.0
          served_is =
              let core : known.core ≡ event.core = is_known.core ∙ sym (ap (λ (e : Event). e.core) event_is) in
              let least_start : event.min_start ≡ entry.start + p.offset = ap (λ (e : Event). e.min_start) event_is in
              let least_finish : event.min_finish ≡ entry.start + p.offset + p.time = ap (λ (e : Event). e.min_finish) event_is in
              let time_is : known.time ≡ event.min_finish - event.min_start = omega (arith, least_start, least_finish, is_known.time) in
              let waits : finish - k.start - known.time ≡ wait_of event (fired_of step.0) =
              ap (λ z. z - k.start - known.time) finish_is ∙ (ap (λ z. step.0.finish - z - known.time) is_k.1 ∙ ap (λ z. step.0.finish - step.0.start - z) time_is)
              in
              same_served known.core event.core known.component event.component k.start step.0.start (finish - k.start - known.time) (wait_of event (fired_of step.0)) core (sym component_is) is_k.1 waits

          comps_next : slice_set comps known.component left ≡ (after_firings stepped events first (suc n)).comps
          comps_next =
              ap (λ z. slice_set comps known.component z) (ap (λ z. z.0) stepped_is)
              ∙ (ap (λ i. slice_set comps i (stepped step.1 event.kind step.0.start).0) (sym component_is)
              ∙ (ap (λ cs. slice_set cs event.component (stepped step.1 event.kind step.0.start).0) come.comps_are ∙ sym step.2.comps))

          abbrev done : Ended
          done = record { finish = finish; at_zero_load = known.finish }

          abbrev real_done : Ended
          real_done = record { finish = step.0.finish; at_zero_load = event.min_finish }

          done_is : real_done ≡ done
          done_is =
              let of : ℕ → ℕ → Ended = λ f z. record { finish = f; at_zero_load = z } in
              ap (λ f. of f event.min_finish) (sym finish_is) ∙ ap (of finish) (ap (λ (e : Event). e.min_finish) event_is ∙ sym is_known.finish)

          -- the chain that has moved on
          module _ (moved : Chain) (moved_is : (base : ℕ) → state_of base moved ≡ moved_on known.count done (state_of base chain)) (kept : moved.next ≡ chain.next) where
            abbrev m : ChainState
            m = state_of before moved

            is_moved : IsChain pieces entries (fired ++ step.0 ∷ []) event.core m
            is_moved =
                subst (λ z. IsChain pieces entries (fired ++ step.0 ∷ []) event.core z)
                (ap (λ d. moved_on (length (pieces entry)) d c) done_is ∙ (ap (λ i. moved_on i done c) (sym is_known.access.count_is) ∙ sym (moved_is before)))
                (own_chain pieces entries placed fired step.0 (unfired more) (x_at more) c is on c_next entry e_there r.chained.some (omega (arith, r.chained.few c.access entry e_there, is.sized)))

            after_is : (after_firings stepped events first (suc n)).fired ≡ fired ++ step.0 ∷ []
            after_is = step.2.fired

            end_stays : moved.end ≡ chain.end
            end_stays = omega (arith, ap (λ (z : ChainState). z.end) (moved_is 0), same_end known.count done (state_of 0 chain))

            pub moved_end : moved.end ≡ length list
            moved_end = end_stays ∙ knows.end

            pub place_of : (e : Entry) → slice_get list moved.access ≡ Some e → moved.place < length (pieces e)
            place_of e there = is_moved.place e (omega (arith, slice_get_within list moved.access e there, moved_end)) (in_all lists k.number moved.access e there)

            pub still_known : KnowsAccess pieces list moved
            still_known deep =
                let there : 0 < (moved_on known.count done (state_of 0 chain)).place = subst (λ (s : ChainState). 0 < s.place) (moved_is 0) deep in
                let access : moved.access ≡ chain.access = omega (arith, ap (λ (s : ChainState). s.access) (moved_is 0), same_access known.count done (state_of 0 chain) there) in
                let at : IsAtAccess pieces list moved entry known.count = record {
                  goes_on = omega (arith, access, end_stays, chain_goes_on);
                  there = subst (λ i. slice_get list i ≡ Some entry) (sym access) is_known.access.there;
                  count_is = is_known.access.count_is;
                }
                in
                (known, entry, kept ∙ known_is, at)

            module _ (other : Entry) (o_there : slice_get list moved.access ≡ Some other) (q : Piece) (q_there : slice_get (pieces other) moved.place ≡ Some q) where
              moved_on' : m.access < m.end
              moved_on' = omega (arith, slice_get_within list moved.access other o_there, moved_end)

              o_in_all : slice_get entries m.access ≡ Some other
              o_in_all = in_all lists k.number moved.access other o_there

              abbrev later : Event
              later = event_at (events_before pieces entries m.access) other (pieces other) m.place q

              later_there : slice_get events (next_number pieces entries m) ≡ Some later
              later_there = placed.there m.access other m.place q o_in_all q_there

              starts_then : start_by m (other.start + q.offset) q ≡ start_of (finish_in (fired ++ step.0 ∷ [])) later
              starts_then = start_is pieces entries placed (fired ++ step.0 ∷ []) event.core m is_moved moved_on' other o_in_all (r.laws.parents other) q q_there

              pub start_small : (other.start + q.offset + q.time ≤ 2 ^ 62) × (start_by (state_of 0 moved) (other.start + q.offset) q ≤ 2 ^ 62)
              start_small =
                  let s : start_of (finish_in (fired ++ step.0 ∷ [])) later ≤ 2 ^ 62 =
                  subst (λ xs. start_of (finish_in xs) later ≤ 2 ^ 62) after_is
                  (by_all (λ e. start_of (finish_in (after_firings stepped events first (suc n)).fired) e ≤ 2 ^ 62) events (r.laws.starts events first (suc n) placed.numbered r.weaving.fits r.weaving.small) later
                  (contained events (next_number pieces entries m) later later_there))
                  in
                  (omega (arith, r.chained.early m.access other o_in_all, r.laws.short other moved.place q q_there), omega (arith, s, starts_then))

              module _ (start : ℕ) (start_now : start ≡ start_by (state_of 0 moved) (other.start + q.offset) q) where
                start_soon : start < 2 ^ 64 - 1
                start_soon = omega (arith, start_now, start_small.1)

                comes_on : HasCome stepped pieces entries first (suc n) (slice_set all k.number m) (put (record { start = start; number = k.number }) (drop 1 keys)) (slice_set comps known.component left)
                comes_on = record {
                  way = subst (λ xs. AreUnderWay pieces entries xs (slice_set all k.number m) (put (record { start = start; number = k.number }) (drop 1 keys))) (sym after_is)
                      (rounds.goes_on pieces entries placed fired step.0 (unfired more) (x_at more) all keys r.ascending come.way k at is_k.0 c c_there c_next m is_moved moved_on' later later_there start (start_now ∙ starts_then));
                  comps_are = comps_next;
                }

            comes_over : m.end ≤ m.access → HasCome stepped pieces entries first (suc n) (slice_set all k.number m) (drop 1 keys) (slice_set comps known.component left)
            comes_over end = record {
              way = subst (λ xs. AreUnderWay pieces entries xs (slice_set all k.number m) (drop 1 keys)) (sym after_is)
                  (rounds.over pieces entries placed fired step.0 (unfired more) (x_at more) all keys r.ascending come.way k at is_k.0 c c_there c_next m is_moved end);
              comps_are = comps_next;
            }

            comes : (start : Option ℕ) → IfNone start (moved.end ≤ moved.access) → IfSome start (StartsAt pieces list moved)
                → HasCome stepped pieces entries first (suc n) (slice_set all k.number m) (with_next k.number start (drop 1 keys)) (slice_set comps known.component left)
            comes None end some = comes_over (omega (arith, end))
            comes (Some start) end some = comes_on some.entry some.there some.piece some.made start some.start_is

            pub fires_on : (start : Option ℕ) → IfNone start (moved.end ≤ moved.access) → IfSome start (StartsAt pieces list moved)
                → HasFiredNext stepped pieces entries first n (slice_set all k.number m) (with_next k.number start (drop 1 keys)) (slice_set comps known.component left)
                (served_by known.core known.component k.start (finish - k.start - known.time))
            fires_on start end some = record {
              more = more;
              come = subst (λ i. HasCome stepped pieces entries first i (slice_set all k.number m) (with_next k.number start (drop 1 keys)) (slice_set comps known.component left)) (sym (add-one n)) (comes start end some);
              event = step.0;
              fired = subst (λ i. (after_firings stepped events first i).fired ≡ fired ++ step.0 ∷ []) (sym (add-one n)) after_is;
              served_is = served_is;
            }

            -- the chain that knows its next event, where it has one
            module _ (after : Chain) (same : after ≡ record moved { next = after.next }) (looked : IsAhead pieces list after) where
              states_now : states lists (slice_set chains k.number after) ≡ slice_set all k.number m
              states_now = states_set lists chains k.number after ∙ ap (slice_set all k.number) (ap (state_of before) same)

              pub starts_soon : (start : Option ℕ) → IfSome start (StartsAt pieces list moved) → IfSome start (λ s. s < 2 ^ 64 - 1)
              starts_soon None h = h
              starts_soon (Some start) h = start_soon h.entry h.there h.piece h.made start h.start_is

              pub fired_next : (start : Option ℕ) → IfNone start (moved.end ≤ moved.access) → IfSome start (StartsAt pieces list moved)
                  → HasFiredNext stepped pieces entries first n (states lists (slice_set chains k.number after)) (with_next k.number start (drop 1 keys)) (slice_set comps known.component left)
                  (served_by known.core known.component k.start (finish - k.start - known.time))
              fired_next start end some =
                  subst (λ cs. HasFiredNext stepped pieces entries first n cs (with_next k.number start (drop 1 keys)) (slice_set comps known.component left) (served_by known.core known.component k.start (finish - k.start - known.time)))
                  (sym states_now) (fires_on start end some)

    -- each chain still knows its next event
    pub ahead_after : (after : Chain) → IsAhead pieces list after → AreAhead pieces lists (slice_set chains k.number after)
    ahead_after after looked core d d_at =
        elim (cases_eq k.number core) [
          | inl same ↦
              let here : slice_get (slice_set chains k.number after) core ≡ Some after = subst (λ i. slice_get (slice_set chains k.number after) i ≡ Some after) same (set_same chains k.number after within) in
              let one : after ≡ d = cc in
              subst (λ i. IsAhead pieces (list_of lists i) d) same (subst (λ z. IsAhead pieces list z) one looked)
          | inr other ↦ r.ahead core d (sym (set_other chains k.number core after other) ∙ d_at)
        ]
