-- All domains that keep to the one-list weave, and what they have fired once all have.
use Rattle.std.proofs.Common.{◌≡◌, ◌+◌, ◌<◌, ◌≤◌, ◌^◌, ℕ, zero, suc, Bool, true, false, not, ◌&&◌, ◌||◌, cond, eqb, ltb, max, ◌⊎◌, List, [], ◌∷◌, length, map, take, get_or, Option, Some, None, slice_get, sym, ◌∙◌, ap, subst, refl, inl, inr, arith}
use Rattle.std.proofs.lemmas.Bool.{false≢true, cases_lt}
use Rattle.std.proofs.lemmas.Bool.Decides.{nat_tests}
use Rattle.std.proofs.lemmas.List.{length-map}
use Rattle.std.proofs.lemmas.Option.{same_Some, none-some, slice_get-map, slice_get-get_or}
use Rattle.std.specs.List.{enumerate_from, filter}
use Rattle.std.specs.Option.{option_map, option_map_or}
use Rattle.std.specs.Prelude.{IfSome}
use Rattle.zs_num.specs.declared.time.Word.{Word}
use Rattle.zs_num.specs.declared.time.Word.TheVariants.{Bound}
use Rattle.zs_num.specs.declared.time.Key.{Key}
use Rattle.component.specs.declared.kind.Kind.{Kind}
use Rattle.event_graph.specs.declared.event.Event.{Event}
use Rattle.event_graph.specs.declared.event.Parent.{Parent}
use Rattle.event_graph.specs.declared.fired.Fired.{Fired}
use Rattle.event_graph.specs.OneListWeave.{FiredEvent, after_parent, comps_after, find_fired, finish_in, finish_or_zero, fired_of, fired_or_unfired, is_fired, start_of, fired_event_in, weave, woven}
use Rattle.event_graph.specs.ServedEvents.{after_serving, of_component}
use Rattle.domain_map.specs.declared.crossing.Crossing.{Crossing}
use Rattle.domain_map.specs.Domains.{Partition, domain_at, domain_of_event, domain_of_number}
use Rattle.weave_core.specs.declared.next.Next.{Next}
use Rattle.weave_core.specs.declared.next.Next.TheVariants.{Done, Fire, Blocked}
use Rattle.weave_core.specs.AtBarrier.{AreSoundDomains, KnowFiredParents, MayGoOn, least_start_of, own_at}
use Rattle.weave_core.specs.Beginning.{AreSmall, IsSmallEvent}
use Rattle.weave_core.specs.DomainCalls.{DomainValue, IsAnswer, comps_in}
use Rattle.weave_core.specs.DomainMachine.{DomainState, SaysAsMuch, arrival_of, cycle_of, fresh_domain, is_clear, is_exact, is_ready_in, is_unresolved, known_finish, latency_at, latency_of, next_in, word_at}
use Rattle.weave_core.specs.Interleavings.{IsFront, of_domain}
use Rattle.weave_core.specs.Keeping.{AreKept, CanWeave, HaveAllFired, IsWeaveFiring, IsFiredSomewhere, IsReadyEvent, JoinsDomains, KeepingLaws, KeepsTo, owns_of}
use Rattle.weave_core.specs.Layout.{no_event, timed_from}
use Rattle.weave_core.specs.Soundness.{AreSoundWords, IsSoundFloor, IsSoundWord}
use Rattle.weave_core.proofs.Firing.{all_known, finding, finish_is, found, start_by_all}
use Rattle.weave_core.proofs.Following.{left_by}
use Rattle.weave_core.proofs.Fronts.{front_kept}
use Rattle.weave_core.proofs.Keeping.{Facts, begins, bounds_hold, can_fire, finish_small, finish_then, fires_to, may_tell, still_open, tells}
use Rattle.weave_core.proofs.Crossings.{Joins, joins}
use Rattle.weave_core.proofs.LeastBy.{IsLeast, some_next}
use Rattle.weave_core.proofs.Lists.{In, all_from, all_in, and_true, at_in, both, either, from_enum, from_filter, in_enum, not_true, get_below, get_take, get_there, in_at, take_get}
use Rattle.weave_core.proofs.ReadyEvents.{is_ready, placed}
use Rattle.weave_core.proofs.Solutions.{bounds_alike, finish_alike, order_alike, words_alike}
use Rattle.weave_core.proofs.SoundDomains.{front_cut}
use Rattle.weave_core.proofs.Whole.{narrowed}
use Rattle.weave_core.proofs.Words.{eq_is, is_eq}

-- an unresolved crossing leaves its child a later start
clear_at : (events : List Event) (p : Partition) (domain : ℕ) (own : DomainState) (start number : ℕ) (x : Crossing) → is_clear events p domain own start ≡ true → slice_get p.crossings number ≡ Some x
    → is_unresolved events p domain own number x ≡ true → start < arrival_of events p own number x
clear_at events p domain own start number x clear there unknown =
    let t = all_in (λ (at : ℕ × Crossing). not (is_unresolved events p domain own at.0 at.1) || ltb start (arrival_of events p own at.0 at.1)) (enumerate_from 0 p.crossings) (number, x) clear (in_enum p.crossings number x there) in
    elim (either (not (is_unresolved events p domain own number x)) (ltb start (arrival_of events p own number x)) t) [
      | inl n ↦ absurd (false≢true (sym (not_true (is_unresolved events p domain own number x) n) ∙ unknown))
      | inr l ↦ grind (arith, nat_tests)
    ]

pub stays_clear : (events : List Event) (p : Partition) (domain : ℕ) (before after : DomainState) (start : ℕ) → before.floor ≤ after.floor
    → ((number : ℕ) → SaysAsMuch (word_at before.known number) (word_at after.known number))
    → is_clear events p domain before start ≡ true → is_clear events p domain after start ≡ true
stays_clear events p domain before after start l words clear =
    all_from (λ (at : ℕ × Crossing). not (is_unresolved events p domain after at.0 at.1) || ltb start (arrival_of events p after at.0 at.1)) (enumerate_from 0 p.crossings)
    (λ at m. each at.0 at.1 (from_enum p.crossings at m) (is_unresolved events p domain after at.0 at.1) refl)
  where
    later : (n : ℕ) (x : Crossing) → cycle_of (word_at before.known n) ≤ cycle_of (word_at after.known n) → start < arrival_of events p before n x → start < arrival_of events p after n x
    later n x upto a = higher (cycle_of (word_at before.known n)) (cycle_of (word_at after.known n)) before.floor after.floor (latency_at events x.parent) x.delay upto l a
      where
        higher : (c d a b l delay : ℕ) → c ≤ d → a ≤ b → start < max c (a + l) + delay → start < max d (b + l) + delay
        higher c d a b l delay e le h = omega arith

    each : (n : ℕ) (x : Crossing) → slice_get p.crossings n ≡ Some x → (t : Bool) → is_unresolved events p domain after n x ≡ t → (not t || ltb start (arrival_of events p after n x)) ≡ true
    each n x h false e = refl
    each n x h true e =
        let b = both (eqb x.target domain) (not (is_exact (word_at after.known n))) e in
        let open_after : is_exact (word_at after.known n) ≡ false = not_true (is_exact (word_at after.known n)) b.1 in
        let open_before : is_exact (word_at before.known n) ≡ false = still_open (word_at before.known n) (word_at after.known n) (words n) open_after in
        let unknown : is_unresolved events p domain before n x ≡ true = and_true (eqb x.target domain) (not (is_exact (word_at before.known n))) b.0 (ap not open_before) in
        let a : start < arrival_of events p after n x = later n x ((words n).bound open_after) (clear_at events p domain before start n x clear h unknown) in
        grind (arith, nat_tests)

same_log : (events : List Event) (xs : List Fired) → ((i : ℕ) (g : Fired) → slice_get xs i ≡ Some g → fired_of (timed_from events g) ≡ g) → map fired_of (map (timed_from events) xs) ≡ xs
same_log events [] h = refl
same_log events (x ∷ xs) h =
    ap (λ (z : Fired). z ∷ map fired_of (map (timed_from events) xs)) (h 0 x refl) ∙ ap (λ (zs : List Fired). x ∷ zs) (same_log events xs (λ i g e. h (suc i) g e))

same_list : {X : Type 0} (xs ys : List X) → ((i : ℕ) → slice_get xs i ≡ slice_get ys i) → xs ≡ ys
same_list [] [] h = refl
same_list [] (y ∷ ys) h = absurd (none-some y (h 0))
same_list (x ∷ xs) [] h = absurd (none-some x (sym (h 0)))
same_list {X} (x ∷ xs) (y ∷ ys) h =
    ap (λ (z : X). z ∷ xs) (same_Some x y (h 0)) ∙ ap (λ (zs : List X). y ∷ zs) (same_list xs ys (λ i. h (suc i)))

-- each numbered element by a function
map_enum_at : {X Y : Type 0} (f : ℕ × X → Y) (n : ℕ) (xs : List X) (i m : ℕ) → m ≡ n + i → slice_get (map f (enumerate_from n xs)) i ≡ option_map (λ (x : X). f (m, x)) (slice_get xs i)
map_enum_at f n [] i m e = refl
map_enum_at f n (x ∷ xs) zero m e = let same : n ≡ m = omega (arith, e) in ap (λ k. Some (f (k, x))) same
map_enum_at f n (x ∷ xs) (suc i) m e = map_enum_at f (n + 1) xs i m (omega (arith, e))

-- the components of a domain, where others may differ
same_in : {C : Type 0} (places : List ℕ) (domain n : ℕ) (f h : ℕ × C → C) (comps : List C) → ((m : ℕ) (c : C) → domain_at places m ≡ domain → f (m, c) ≡ h (m, c))
    → map (λ (at : ℕ × C). at.1) (filter (λ (at : ℕ × C). eqb (domain_at places at.0) domain) (enumerate_from n (map f (enumerate_from n comps))))
    ≡ map (λ (at : ℕ × C). at.1) (filter (λ (at : ℕ × C). eqb (domain_at places at.0) domain) (enumerate_from n (map h (enumerate_from n comps))))
same_in places domain n f h [] same = refl
same_in {C} places domain n f h (c ∷ comps) same = by_test (eqb (domain_at places n) domain) refl (same_in places domain (n + 1) f h comps same)
  where
    rest : (ℕ × C → C) → List (ℕ × C)
    rest q = filter (λ (at : ℕ × C). eqb (domain_at places at.0) domain) (enumerate_from (n + 1) (map q (enumerate_from (n + 1) comps)))

    by_test : (t : Bool) → eqb (domain_at places n) domain ≡ t
        → map (λ (at : ℕ × C). at.1) (filter (λ (at : ℕ × C). eqb (domain_at places at.0) domain) (enumerate_from (n + 1) (map f (enumerate_from (n + 1) comps))))
        ≡ map (λ (at : ℕ × C). at.1) (filter (λ (at : ℕ × C). eqb (domain_at places at.0) domain) (enumerate_from (n + 1) (map h (enumerate_from (n + 1) comps))))
        → map (λ (at : ℕ × C). at.1) (cond t ((n, f (n, c)) ∷ filter (λ (at : ℕ × C). eqb (domain_at places at.0) domain) (enumerate_from (n + 1) (map f (enumerate_from (n + 1) comps)))) (filter (λ (at : ℕ × C). eqb (domain_at places at.0) domain) (enumerate_from (n + 1) (map f (enumerate_from (n + 1) comps)))))
        ≡ map (λ (at : ℕ × C). at.1) (cond t ((n, h (n, c)) ∷ filter (λ (at : ℕ × C). eqb (domain_at places at.0) domain) (enumerate_from (n + 1) (map h (enumerate_from (n + 1) comps)))) (filter (λ (at : ℕ × C). eqb (domain_at places at.0) domain) (enumerate_from (n + 1) (map h (enumerate_from (n + 1) comps)))))
    by_test true e ih = ap (λ (z : C). z ∷ map (λ (at : ℕ × C). at.1) (filter (λ (at : ℕ × C). eqb (domain_at places at.0) domain) (enumerate_from (n + 1) (map f (enumerate_from (n + 1) comps))))) (same n c (eq_is (domain_at places n) domain e)) ∙ ap (λ (zs : List C). h (n, c) ∷ zs) ih
    by_test false e ih = ih

own_none : {C : Type 0} (vs : List (DomainValue C)) (d : ℕ) → slice_get vs d ≡ None → own_at (owns_of vs) d ≡ fresh_domain
own_none [] zero e = refl
own_none [] (suc d) e = refl
own_none (v ∷ vs) zero e = absurd (none-some v (sym e))
own_none (v ∷ vs) (suc d) e = own_none vs d e

pub own_some : {C : Type 0} (vs : List (DomainValue C)) (d : ℕ) (v : DomainValue C) → slice_get vs d ≡ Some v → own_at (owns_of vs) d ≡ v.own
own_some [] d v e = absurd (none-some v e)
own_some (w ∷ vs) zero v e = ap (λ (z : DomainValue _). z.own) (same_Some w v e)
own_some (w ∷ vs) (suc d) v e = own_some vs d v e

no_word : (n : ℕ) → word_at [] n ≡ Bound 0
no_word zero = refl
no_word (suc n) = refl

none_taken : {X : Type 0} (xs : List X) → [] ≡ take 0 xs
none_taken [] = refl
none_taken (x ∷ xs) = refl

take_all : {X : Type 0} (xs : List X) (n : ℕ) → length xs ≤ n → take n xs ≡ xs
take_all [] zero l = refl
take_all [] (suc n) l = refl
take_all (x ∷ xs) zero l = absurd (omega arith)
take_all {X} (x ∷ xs) (suc n) l = ap (λ (zs : List X). x ∷ zs) (take_all xs n (omega arith))

in_take : {X : Type 0} (xs : List X) (n m : ℕ) (x : X) → n ≤ m → In x (take n xs) → In x (take m xs)
in_take xs n m x l h =
    let at : (i : ℕ) × (slice_get (take n xs) i ≡ Some x) = in_at x (take n xs) h in
    let r = get_take xs n at.0 x at.1 in
    at_in x (take m xs) at.0 (take_get xs m at.0 x (omega (arith, l, r.0)) r.1)

module _ {C : Type 0} (serves : C → Kind → Bool) (floor : C → Kind → ℕ) (stepped : C → Kind → ℕ → C × ℕ) (greatest : C → Kind → ℕ → ℕ) (events : List Event) (p : Partition) (comps : List C)
    (f : Facts serves floor stepped greatest events p comps) where
  abbrev all : List FiredEvent
  all = (weave stepped events comps).fired

  abbrev timed : List FiredEvent
  timed = woven stepped events comps

  -- all domains at once
  sound : (vs : List (DomainValue C)) → AreKept stepped events p comps vs → AreSoundDomains stepped events p comps timed f.solution (owns_of vs)
  sound vs h = record {
    count = length-map vs (λ (v : DomainValue C). v.own) ∙ h.count;
    fired = λ d. by_fired d (slice_get vs d) refl;
    known = λ d. by_known d (slice_get vs d) refl;
    floors = λ d. by_floor d (slice_get vs d) refl;
  }
    where
      order : f.solution.sorted ≡ all
      order = order_alike stepped events comps f.order timed refl f.solution.sorted f.solution.in_order f.solution.same f.in_order

      by_fired : (d : ℕ) (o : Option (DomainValue C)) → slice_get vs d ≡ o → IsFront (own_at (owns_of vs) d).fired (of_domain p.places d f.solution.sorted)
      by_fired d None e = subst (λ (own : DomainState). IsFront own.fired (of_domain p.places d f.solution.sorted)) (sym (own_none vs d e)) (none_taken (of_domain p.places d f.solution.sorted))
      by_fired d (Some v) e =
          subst (λ (own : DomainState). IsFront own.fired (of_domain p.places d f.solution.sorted)) (sym (own_some vs d v e))
          ((h.each d v e).keeps.fired ∙ ap (λ (xs : List FiredEvent). take (length v.own.fired) (of_domain p.places d xs)) (sym order))

      by_known : (d : ℕ) (o : Option (DomainValue C)) → slice_get vs d ≡ o → AreSoundWords timed p (own_at (owns_of vs) d).known
      by_known d None e = subst (λ (own : DomainState). AreSoundWords timed p own.known) (sym (own_none vs d e)) (record { each = λ n x h. subst (IsSoundWord timed x) (sym (no_word n)) (omega arith) })
      by_known d (Some v) e = subst (λ (own : DomainState). AreSoundWords timed p own.known) (sym (own_some vs d v e)) (h.each d v e).keeps.known

      by_floor : (d : ℕ) (o : Option (DomainValue C)) → slice_get vs d ≡ o → IsSoundFloor timed p d (own_at (owns_of vs) d)
      by_floor d None e = subst (λ (own : DomainState). IsSoundFloor timed p d own) (sym (own_none vs d e)) (record { each = λ n x a b c. omega arith })
      by_floor d (Some v) e = subst (λ (own : DomainState). IsSoundFloor timed p d own) (sym (own_some vs d v e)) (h.each d v e).keeps.floor

  -- what a domain fired

  in_all : (domain : ℕ) (own : DomainState) (parts : List C) → KeepsTo stepped events p comps domain own parts → (x : FiredEvent) → In x own.fired → In x all
  in_all domain own parts k x h =
      let at : (i : ℕ) × (slice_get own.fired i ≡ Some x) = in_at x own.fired h in
      let r = get_take (of_domain p.places domain all) (length own.fired) at.0 x (ap (λ (xs : List FiredEvent). slice_get xs at.0) (sym k.fired) ∙ at.1) in
      (from_filter (λ (y : FiredEvent). eqb (domain_of_event p.places y.event) domain) x all (at_in x (of_domain p.places domain all) at.0 r.1)).0

  answer_at : (k : ℕ) (x : FiredEvent) → slice_get all k ≡ Some x → slice_get (map fired_of timed) x.event.number ≡ Some (fired_of x)
  unfolding woven
  answer_at k x h =
      slice_get-map fired_of (map (fired_event_in all) events) x.event.number
      ∙ (ap (option_map fired_of) (slice_get-map (fired_event_in all) events x.event.number)
      ∙ (ap (λ (o : Option Event). option_map fired_of (option_map (fired_event_in all) o)) (f.order.event k x h)
      ∙ ap (λ (o : Option FiredEvent). Some (fired_of (fired_or_unfired x.event o))) (all_known events all f.order k x h)))

  pub firings : (domain : ℕ) (own : DomainState) (parts : List C) (place : ℕ) (x : FiredEvent) → KeepsTo stepped events p comps domain own parts → slice_get own.fired place ≡ Some x
      → IsWeaveFiring stepped events p comps domain x
  firings domain own parts place x k h =
      let r = get_take (of_domain p.places domain all) (length own.fired) place x (ap (λ (xs : List FiredEvent). slice_get xs place) (sym k.fired) ∙ h) in
      let m = from_filter (λ (y : FiredEvent). eqb (domain_of_event p.places y.event) domain) x all (at_in x (of_domain p.places domain all) place r.1) in
      let at : (j : ℕ) × (slice_get all j ≡ Some x) = in_at x all m.0 in
      record {
        there = f.order.event at.0 x at.1;
        here = eq_is (domain_of_event p.places x.event) domain m.1;
        finish = finish_alike stepped events comps f.order timed refl x.event.number ∙ finish_is events all f.order at.0 x at.1;
        answer = answer_at at.0 x at.1;
      }

  pub counts : (length (weave stepped events comps).fired ≡ length events) × (length (map fired_of (woven stepped events comps)) ≡ length events)
  unfolding woven
  counts = (f.count, length-map (map (fired_event_in all) events) fired_of ∙ length-map events (fired_event_in all))

  pub log : (domain : ℕ) (own : DomainState) (parts : List C) (fired : List Fired) → KeepsTo stepped events p comps domain own parts → own.fired ≡ map (timed_from events) fired → map fired_of own.fired ≡ fired
  log domain own parts fired k is = ap (map fired_of) is ∙ same_log events fired each
    where
      each : (i : ℕ) (g : Fired) → slice_get fired i ≡ Some g → fired_of (timed_from events g) ≡ g
      each i g h =
          let there : slice_get own.fired i ≡ Some (timed_from events g) =
          ap (λ (xs : List FiredEvent). slice_get xs i) is ∙ (slice_get-map (timed_from events) fired i ∙ ap (option_map (timed_from events)) h)
          in
          let at : (j : ℕ) × (slice_get all j ≡ Some (timed_from events g)) = in_at (timed_from events g) all (in_all domain own parts k (timed_from events g) (at_in (timed_from events g) own.fired i there)) in
          elim (cases_lt g.number (length events)) [
            | inl below ↦
                let number : (get_or events g.number no_event).number ≡ g.number = f.order.numbered g.number (get_or events g.number no_event) (slice_get-get_or events g.number no_event below) in
                ap (λ n. record { number = n; start = g.start; finish = g.finish }) number
            | inr past ↦
                let none : get_or events g.number no_event ≡ no_event = past_end events g.number past in
                let some : 1 ≤ latency_of (get_or events g.number no_event) = f.order.some at.0 (timed_from events g) at.1 in
                absurd (omega (arith, some, ap latency_of none))
          ]
        where
          past_end : (xs : List Event) (n : ℕ) → length xs ≤ n → get_or xs n no_event ≡ no_event
          past_end [] zero l = refl
          past_end [] (suc n) l = refl
          past_end (y ∷ xs) zero l = absurd (omega arith)
          past_end (y ∷ xs) (suc n) l = past_end xs n (omega arith)

  pub small : AreSmall events
  small = record { each = each }
    where
      each : (i : ℕ) (e : Event) → slice_get events i ≡ Some e → IsSmallEvent e
      each i e h =
          let named : slice_get events e.number ≡ Some e = ap (slice_get events) (f.order.numbered i e h) ∙ h in
          let w : (k : ℕ) × (x : FiredEvent) × (slice_get all k ≡ Some x) × (x.event ≡ e) = f.order.each e named in
          let time : w.1.start + latency_of e ≤ w.1.finish = subst (λ (z : Event). w.1.start + latency_of z ≤ w.1.finish) w.3 (f.order.time w.0 w.1 w.2) in
          let some : 1 ≤ latency_of e = subst (λ (z : Event). 1 ≤ latency_of z) w.3 (f.order.some w.0 w.1 w.2) in
          let start : w.1.start ≡ start_of (finish_in all) e = start_by_all events all f.order w.0 w.1 w.2 ∙ ap (start_of (finish_in all)) w.3 in
          let finish : finish_in all w.1.event.number ≡ w.1.finish = finish_at w.0 w.1 w.2 in
          let bound : finish_in timed w.1.event.number ≤ 2 ^ 62 = finish_small serves floor stepped greatest events p comps f w.1.event.number in
          let alike : finish_in timed w.1.event.number ≡ finish_in all w.1.event.number = finish_alike stepped events comps f.order timed refl w.1.event.number in
          record {
            ordered = omega (arith, some);
            finish = omega (arith, some, time, start, finish, bound, alike);
            first = parent e.first (let l : after_parent (finish_in all) e.first ≤ w.1.start = omega (arith, start) in omega (arith, l, time, some, finish, bound, alike));
            second = parent e.second (let l : after_parent (finish_in all) e.second ≤ w.1.start = omega (arith, start) in omega (arith, l, time, some, finish, bound, alike));
          }
        where
          parent : (o : Option Parent) → after_parent (finish_in all) o ≤ 2 ^ 62 → IfSome o (λ q. q.delay ≤ 2 ^ 62)
          parent None l = tt
          parent (Some q) l = omega arith

          finish_at : (k : ℕ) (x : FiredEvent) → slice_get all k ≡ Some x → finish_in all x.event.number ≡ x.finish
          finish_at k x h = ap (λ (o : Option FiredEvent). finish_or_zero o) (all_known events all f.order k x h)

  pub ready : (domain : ℕ) (own : DomainState) (parts : List C) (e : Event) (start : ℕ) → KeepsTo stepped events p comps domain own parts → next_in events p domain own ≡ Some (e, start)
      → IsReadyEvent stepped events p comps domain own e start
  ready domain own parts e start k next =
      let cut : (cut : ℕ) × (take (length own.fired) (of_domain p.places domain all) ≡ of_domain p.places domain (take cut all)) =
      front_cut (λ (y : FiredEvent). eqb (domain_of_event p.places y.event) domain) all (length own.fired)
      in
      let known = words_alike stepped events comps f.order timed refl p own.known k.known in
      let bounds = bounds_alike stepped events comps f.order timed refl p domain own (f.bounds domain own k.known k.floor) in
      let least : IsLeast (is_ready_in events p domain own) (λ e. start_of (known_finish events p domain own) e) events (e, start) =
      some_next (is_ready_in events p domain own) (λ e. start_of (known_finish events p domain own) e) events (e, start) next
      in
      let r = is_ready events p all f.order f.can.partitioned.partitions domain cut.0 own (k.fired ∙ cut.1) known bounds e least.passes in
      let w = placed events p all f.order f.can.partitioned.partitions domain cut.0 own (k.fired ∙ cut.1) known bounds e least.there r in
      let start_is : start ≡ w.x.start = least.start_is ∙ w.start in
      let finish : finish_in all w.x.event.number ≡ w.x.finish = finish_is events all f.order w.k w.x w.there in
      record {
        there = subst (λ (z : Event). slice_get events z.number ≡ Some z) w.event (f.order.event w.k w.x w.there);
        here = r.here;
        unfired = r.unfired;
        small = omega (arith, start_is, f.order.time w.k w.x w.there, finish, finish_small serves floor stepped greatest events p comps f w.x.event.number, finish_alike stepped events comps f.order timed refl w.x.event.number);
      }

  pub crossings : (number : ℕ) (x : Crossing) → slice_get p.crossings number ≡ Some x → JoinsDomains stepped events p comps x
  crossings number x h =
      let j : Joins p.places events x = joins p.places events number x (ap (λ (xs : List Crossing). slice_get xs number) (sym f.can.partitioned.partitions.crossings) ∙ h) in
      let before : j.parent.number < j.number =
      elim j.slot [
        | inl e ↦ f.can.partitioned.numbered.first j.number j.child j.parent j.there e
        | inr e ↦ f.can.partitioned.numbered.second j.number j.child j.parent j.there e
      ]
      in
      let q = get_there events j.parent.number (omega (arith, before, get_below events j.number j.child j.there)) in
      let source : domain_of_number p.places events j.parent.number ≡ domain_of_event p.places q.0 = ap (λ (o : Option Event). option_map_or (domain_of_event p.places) o 0) q.1 in
      let source_is : domain_of_number p.places events j.parent.number ≡ x.source = ap (λ (z : Crossing). z.source) j.is in
      let target_is : domain_of_event p.places j.child ≡ x.target = ap (λ (z : Crossing). z.target) j.is in
      record {
        parent = q.0;
        there = ap (λ (z : Crossing). slice_get events z.parent) (sym j.is) ∙ q.1;
        source = sym source ∙ source_is;
        source_below = subst (λ (n : ℕ). n < length p.events) (sym source ∙ source_is) (f.can.partitioned.partitions.there.below q.0.component 0 (within j.parent.number q.0 q.1));
        target_below = subst (λ (n : ℕ). n < length p.events) target_is (f.can.partitioned.partitions.there.below j.child.component 0 (within j.number j.child j.there));
        apart = λ e. absurd (false≢true (sym j.apart ∙ is_eq (domain_of_number p.places events j.parent.number) (domain_of_event p.places j.child) (source_is ∙ (e ∙ sym target_is))));
      }
    where
      within : (i : ℕ) (e : Event) → slice_get events i ≡ Some e → e.component < length p.places
      within i e h = omega (arith, get_below comps e.component (f.can.partitioned.fits i e h).component (f.can.partitioned.fits i e h).there, f.can.partitioned.places)

  pub fires_on : (domain : ℕ) (own : DomainState) (parts : List C) (answer : Next) (e : Event) (start : ℕ) → KeepsTo stepped events p comps domain own parts → IsAnswer events p domain own answer
      → next_in events p domain own ≡ Some (e, start) → is_clear events p domain own start ≡ true → (key : Key) × (answer ≡ Fire key)
  fires_on domain own parts (Fire key) e start k is next clear = (key, refl)
  fires_on domain own parts Done e start k is next clear =
      let r : IsReadyEvent stepped events p comps domain own e start = ready domain own parts e start k next in
      absurd (false≢true (sym r.unfired ∙ is e.number e r.there r.here))
  fires_on domain own parts (Blocked number bound) e start k is next clear =
      let l : start < arrival_of events p own number is.crossing = clear_at events p domain own start number is.crossing clear is.is_least.there is.is_least.unresolved in
      elim is.late [
        | inl none ↦ absurd (none-some (e, start) (sym none ∙ next))
        | inr some ↦
            let same : ◌≡◌ {A = Event × ℕ} (some.0, some.1) (e, start) = same_Some (some.0, some.1) (e, start) (sym some.2 ∙ next) in
            let start_is : some.1 ≡ start = ap (λ (b : Event × ℕ). b.1) same in
            absurd (omega (arith, l, start_is, some.3))
      ]

  pub all_done : (vs : List (DomainValue C)) → AreKept stepped events p comps vs → KnowFiredParents p (owns_of vs) → least_start_of events p (owns_of vs) ≡ None → HaveAllFired stepped events p comps (owns_of vs)
  all_done vs h told none = λ index x there. upto (suc index) index x (omega arith) there
    where
      upto : (n : ℕ) → (i : ℕ) (y : FiredEvent) → i < n → slice_get all i ≡ Some y → is_fired (own_at (owns_of vs) (domain_of_event p.places y.event)).fired y.event.number ≡ true
      upto zero i y l a = absurd (omega arith)
      upto (suc n) i y l a = elim (cases_lt i n) [
        | inl less ↦ upto n i y less a
        | inr past ↦ by_fired (λ j z k b. upto n j z (omega (arith, k, l)) b) (is_fired (own_at (owns_of vs) (domain_of_event p.places y.event)).fired y.event.number) refl
      ]
        where
          by_fired : ((j : ℕ) (z : FiredEvent) → j < i → slice_get all j ≡ Some z → is_fired (own_at (owns_of vs) (domain_of_event p.places z.event)).fired z.event.number ≡ true)
              → (t : Bool) → is_fired (own_at (owns_of vs) (domain_of_event p.places y.event)).fired y.event.number ≡ t → t ≡ true
          by_fired before true e = refl
          by_fired before false e =
              let go : MayGoOn events p (owns_of vs) y = f.goes_on (owns_of vs) i y (sound vs h) told (record { there = a; unfired = e; before = before }) in
              absurd (none-some go.start (sym none ∙ go.least_is))

  -- once all have fired

  module _ (vs : List (DomainValue C)) (h : AreKept stepped events p comps vs) (done : HaveAllFired stepped events p comps (owns_of vs)) where
    pub among : (number : ℕ) → number < length events → IsFiredSomewhere stepped events p comps vs number
    among number below =
        let e = get_there events number below in
        let is : e.0.number ≡ number = f.order.numbered number e.0 e.1 in
        let w : (k : ℕ) × (x : FiredEvent) × (slice_get all k ≡ Some x) × (x.event ≡ e.0) = f.order.each e.0 (ap (slice_get events) is ∙ e.1) in
        let v = get_there vs (domain_of_event p.places w.1.event) (let l = f.here w.0 w.1 w.2 in let n = h.count in omega (arith, l, n)) in
        let has : is_fired v.0.own.fired w.1.event.number ≡ true =
        ap (λ (own : DomainState). is_fired own.fired w.1.event.number) (sym (own_some vs (domain_of_event p.places w.1.event) v.0 v.1)) ∙ done w.0 w.1 w.2
        in
        let y : (y : FiredEvent) × ((find_fired v.0.own.fired w.1.event.number ≡ Some y) × (In y v.0.own.fired × (y.event.number ≡ w.1.event.number))) = finding v.0.own.fired w.1.event.number has in
        let at : (i : ℕ) × (slice_get v.0.own.fired i ≡ Some y.0) = in_at y.0 v.0.own.fired y.1.1.0 in
        record {
          domain = domain_of_event p.places w.1.event;
          value = v.0;
          there = v.1;
          place = at.0;
          firing = y.0;
          fired = at.1;
          number_is = y.1.1.1 ∙ (ap (λ (z : Event). z.number) w.3 ∙ is);
        }

    module _ (domain : ℕ) (v : DomainValue C) (there : slice_get vs domain ≡ Some v) where
      k : KeepsTo stepped events p comps domain v.own v.comps
      k = (h.each domain v there).keeps

      cut : (cut : ℕ) × (take (length v.own.fired) (of_domain p.places domain all) ≡ of_domain p.places domain (take cut all))
      cut = front_cut (λ (y : FiredEvent). eqb (domain_of_event p.places y.event) domain) all (length v.own.fired)

      behind : (j : ℕ) (y : FiredEvent) → cut.0 ≤ j → slice_get all j ≡ Some y → eqb (domain_of_event p.places y.event) domain ≡ false
      behind j y l a = by_test (eqb (domain_of_event p.places y.event) domain) refl
        where
          by_test : (t : Bool) → eqb (domain_of_event p.places y.event) domain ≡ t → t ≡ false
          by_test false e = refl
          by_test true e =
              let here : domain_of_event p.places y.event ≡ domain = eq_is (domain_of_event p.places y.event) domain e in
              let own : own_at (owns_of vs) (domain_of_event p.places y.event) ≡ v.own = ap (own_at (owns_of vs)) here ∙ own_some vs domain v there in
              let has : is_fired v.own.fired y.event.number ≡ true = ap (λ (own : DomainState). is_fired own.fired y.event.number) (sym own) ∙ done j y a in
              let z : (z : FiredEvent) × ((find_fired v.own.fired y.event.number ≡ Some z) × (In z v.own.fired × (z.event.number ≡ y.event.number))) = finding v.own.fired y.event.number has in
              let inside : In z.0 (of_domain p.places domain (take cut.0 all)) = subst (λ (xs : List FiredEvent). In z.0 xs) (k.fired ∙ cut.1) z.1.1.0 in
              let front : In z.0 (take j all) = in_take all cut.0 j z.0 l (from_filter (λ (y : FiredEvent). eqb (domain_of_event p.places y.event) domain) z.0 (take cut.0 all) inside).0 in
              absurd (false≢true (sym (f.order.once j y a) ∙ found (take j all) z.0 y.event.number front z.1.1.1))

      pub all_of_domain : v.own.fired ≡ of_domain p.places domain all
      all_of_domain =
          k.fired
          ∙ (cut.1
          ∙ elim (cases_lt cut.0 (length all)) [
            | inr past ↦ ap (of_domain p.places domain) (take_all all cut.0 past)
            | inl below ↦
                sym (front_kept (λ (y : FiredEvent). eqb (domain_of_event p.places y.event) domain) all cut.0 (length all) (omega (arith, below)) (λ j y a b c. behind j y a c))
                ∙ ap (of_domain p.places domain) (take_all all (length all) (omega arith))
          ])

      pub ended : v.comps ≡ comps_in p.places domain (comps_after stepped events comps)
      ended =
          k.parts_are
          ∙ (ap (λ (xs : List FiredEvent). comps_in p.places domain (map (left_by stepped xs) (enumerate_from 0 comps))) all_of_domain
          ∙ (same_in p.places domain 0 (left_by stepped (of_domain p.places domain all)) (left_by stepped all) comps
          (λ m c is. ap (after_serving stepped c)
          (ap (λ (d : ℕ). of_component m (of_domain p.places d all)) (sym is) ∙ sym (narrowed stepped events p comps all f.order f.can.partitioned.partitions f.served f.here m all)))
          ∙ ap (comps_in p.places domain) (same_list (map (left_by stepped all) (enumerate_from 0 comps)) (comps_after stepped events comps)
          (λ i. map_enum_at (left_by stepped all) 0 comps i i (omega arith) ∙ sym (last_comps i)))))
        where
          last_comps : (i : ℕ) → slice_get (comps_after stepped events comps) i ≡ option_map (λ (c : C). left_by stepped all (i, c)) (slice_get comps i)
          last_comps i = f.comps_at (length events) i

-- the laws, of every graph
pub keeping : {C : Type 0} (serves : C → Kind → Bool) (floor : C → Kind → ℕ) (stepped : C → Kind → ℕ → C × ℕ) (greatest : C → Kind → ℕ → ℕ)
    → ((events : List Event) (p : Partition) (comps : List C) → CanWeave serves floor stepped greatest events p comps → Facts serves floor stepped greatest events p comps)
    → KeepingLaws serves floor stepped greatest
keeping serves floor stepped greatest facts = record {
  begins = λ events p comps w domain. begins serves floor stepped greatest events p comps (facts events p comps w) domain;
  may_tell = λ events p comps w domain own parts number word k x. may_tell serves floor stepped greatest events p comps (facts events p comps w) domain own parts k number word x;
  tells = λ events p comps w domain own parts number word k x. tells serves floor stepped greatest events p comps (facts events p comps w) domain own parts k number word x;
  bounds_hold = λ events p comps w domain own parts x bound k may. bounds_hold serves floor stepped greatest events p comps (facts events p comps w) domain own parts k x bound may;
  can_fire = λ events p comps w domain own parts key k may. can_fire serves floor stepped greatest events p comps (facts events p comps w) domain own parts k key may;
  fires = λ events p comps w domain own parts key new result k may fire. (
    fires_to serves floor stepped greatest events p comps (facts events p comps w) domain own parts k key may new result fire,
    finish_then serves floor stepped greatest events p comps (facts events p comps w) domain own parts k key may new result fire,
  );
  ready = λ events p comps w domain own parts e start k next. ready serves floor stepped greatest events p comps (facts events p comps w) domain own parts e start k next;
  here = λ events p comps w index x h. (facts events p comps w).here index x h;
  crossings = λ events p comps w number x h. crossings serves floor stepped greatest events p comps (facts events p comps w) number x h;
  finishes = λ events p comps w number. finish_small serves floor stepped greatest events p comps (facts events p comps w) number;
  small = λ events p comps w. small serves floor stepped greatest events p comps (facts events p comps w);
  floors_hold = λ events p comps w vs start h told least domain.
      (facts events p comps w).floors (owns_of vs) start (sound serves floor stepped greatest events p comps (facts events p comps w) vs h) told least domain;
  goes_on = λ events p comps w vs index x h told first.
      (facts events p comps w).goes_on (owns_of vs) index x (sound serves floor stepped greatest events p comps (facts events p comps w) vs h) told first;
  all_done = λ events p comps w vs h told none. all_done serves floor stepped greatest events p comps (facts events p comps w) vs h told none;
  fires_on = λ events p comps w domain own parts answer e start k is next clear. fires_on serves floor stepped greatest events p comps (facts events p comps w) domain own parts answer e start k is next clear;
  stays_clear = stays_clear;
  log = λ events p comps w domain own parts fired k is. log serves floor stepped greatest events p comps (facts events p comps w) domain own parts fired k is;
  firings = λ events p comps w domain own parts place x k there. firings serves floor stepped greatest events p comps (facts events p comps w) domain own parts place x k there;
  among = λ events p comps w vs h done number below. among serves floor stepped greatest events p comps (facts events p comps w) vs h done number below;
  ended = λ events p comps w vs h done domain v there. ended serves floor stepped greatest events p comps (facts events p comps w) vs h done domain v there;
  count = λ events p comps w. counts serves floor stepped greatest events p comps (facts events p comps w);
}
