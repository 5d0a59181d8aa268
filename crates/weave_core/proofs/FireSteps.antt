-- A domain after one of its events fired.
use Rattle.std.proofs.Common.{◌≡◌, ◌+◌, ◌-◌, ◌<◌, ◌≤◌, ◌^◌, ℕ, zero, suc, Bool, true, false, not, ◌&&◌, ◌||◌, cond, eqb, max, List, [], ◌∷◌, ◌++◌, length, set, get_or, Option, Some, None, is_some, slice_get, sym, ◌∙◌, ap, refl, inl, inr, arith, length-set}
use Rattle.std.proofs.lemmas.Bool.{cases_eq, false≢true}
use Rattle.std.proofs.lemmas.Option.{same_Some, none-some, get_or_from_slice_get}
use Rattle.event_graph.specs.declared.event.Event.{Event}
use Rattle.event_graph.specs.declared.event.Parent.{Parent}
use Rattle.event_graph.specs.Numbered.{IsNumbered}
use Rattle.event_graph.specs.OneListWeave.{FiredEvent, find_fired, finish_in, finish_or_zero, is_fired}
use Rattle.domain_map.specs.Domains.{Partition, domain_of_number}
use Rattle.weave_core.specs.declared.children.Link.{Link}
use Rattle.weave_core.specs.declared.incoming.Stub.{Stub}
use Rattle.weave_core.specs.Children.{CanTell, tell_all, tell_child}
use Rattle.weave_core.specs.DomainMachine.{DomainState}
use Rattle.weave_core.specs.Layout.{AreHere, IsChildren, Stands, fired_in, hit_after, times_parent, latest_to, links_to, missing_at, pending, start_after_own, told_into}
use Rattle.weave_core.specs.Waits.{Waits, is_fired_wait}
use Rattle.weave_core.proofs.Joined.{at_event}
use Rattle.weave_core.proofs.Lists.{get_below, get_there, test_cases}
use Rattle.weave_core.proofs.Looked.{fired_told, unknown_few}
use Rattle.weave_core.proofs.Updates.{get_set_other, get_set_same}
use Rattle.weave_core.proofs.Words.{apart_eq, is_eq, one_place}

-- what a walk leaves

pub waits_told : (finish : ℕ) (w : Waits) (chain : List Link) (j v : ℕ) → slice_get w.waits j ≡ Some v → slice_get (tell_all finish w chain).waits j ≡ Some (v - links_to j chain)
waits_told finish w [] j v h = let same : v ≡ v - 0 = omega arith in h ∙ ap (λ n. Some n) same
waits_told finish w (l ∷ chain) j v h =
    elim (cases_eq j l.child) [
      | inl same ↦
          let read : get_or w.waits l.child 0 ≡ v = ap (λ n. get_or w.waits n 0) (sym same) ∙ get_or_from_slice_get w.waits j v 0 h in
          let now : slice_get (tell_child finish w l).waits j ≡ Some (get_or w.waits l.child 0 - 1) =
          ap (slice_get (tell_child finish w l).waits) same ∙ get_set_same w.waits l.child (get_or w.waits l.child 0 - 1) v (ap (slice_get w.waits) (sym same) ∙ h)
          in
          let one : cond {A = ℕ} (eqb l.child j) 1 0 ≡ 1 = ap (λ (t : Bool). cond {A = ℕ} t 1 0) (is_eq l.child j (sym same)) in
          let less : get_or w.waits l.child 0 - 1 - links_to j chain ≡ v - (cond {A = ℕ} (eqb l.child j) 1 0 + links_to j chain) = omega (arith, read, one) in
          waits_told finish (tell_child finish w l) chain j (get_or w.waits l.child 0 - 1) now ∙ ap (λ n. Some n) less
      | inr apart ↦
          let now : slice_get (tell_child finish w l).waits j ≡ Some v = get_set_other w.waits l.child j (get_or w.waits l.child 0 - 1) apart ∙ h in
          let none : cond {A = ℕ} (eqb l.child j) 1 0 ≡ 0 = ap (λ (t : Bool). cond {A = ℕ} t 1 0) (apart_eq l.child j (λ q. apart (sym q))) in
          let same : v - links_to j chain ≡ v - (cond {A = ℕ} (eqb l.child j) 1 0 + links_to j chain) = omega (arith, none) in
          waits_told finish (tell_child finish w l) chain j v now ∙ ap (λ n. Some n) same
    ]

pub starts_told : (finish : ℕ) (w : Waits) (chain : List Link) (j s : ℕ) → slice_get w.starts j ≡ Some s → slice_get (tell_all finish w chain).starts j ≡ Some (max s (latest_to finish j chain))
starts_told finish w [] j s h = let same : s ≡ max s 0 = omega arith in h ∙ ap (λ n. Some n) same
starts_told finish w (l ∷ chain) j s h =
    elim (cases_eq j l.child) [
      | inl same ↦
          let read : get_or w.starts l.child 0 ≡ s = ap (λ n. get_or w.starts n 0) (sym same) ∙ get_or_from_slice_get w.starts j s 0 h in
          let now : slice_get (tell_child finish w l).starts j ≡ Some (max (get_or w.starts l.child 0) (finish + l.delay)) =
          ap (slice_get (tell_child finish w l).starts) same ∙ get_set_same w.starts l.child (max (get_or w.starts l.child 0) (finish + l.delay)) s (ap (slice_get w.starts) (sym same) ∙ h)
          in
          let one : cond (eqb l.child j) (finish + l.delay) 0 ≡ finish + l.delay = ap (λ (t : Bool). cond t (finish + l.delay) 0) (is_eq l.child j (sym same)) in
          let joined : max (max (get_or w.starts l.child 0) (finish + l.delay)) (latest_to finish j chain) ≡ max s (max (cond (eqb l.child j) (finish + l.delay) 0) (latest_to finish j chain)) =
          join (get_or w.starts l.child 0) s (finish + l.delay) (cond (eqb l.child j) (finish + l.delay) 0) (latest_to finish j chain) read one
          in
          starts_told finish (tell_child finish w l) chain j (max (get_or w.starts l.child 0) (finish + l.delay)) now ∙ ap (λ n. Some n) joined
      | inr apart ↦
          let now : slice_get (tell_child finish w l).starts j ≡ Some s = get_set_other w.starts l.child j (max (get_or w.starts l.child 0) (finish + l.delay)) apart ∙ h in
          let none : cond (eqb l.child j) (finish + l.delay) 0 ≡ 0 = ap (λ (t : Bool). cond t (finish + l.delay) 0) (apart_eq l.child j (λ q. apart (sym q))) in
          let same : max s (latest_to finish j chain) ≡ max s (max (cond (eqb l.child j) (finish + l.delay) 0) (latest_to finish j chain)) = omega (arith, none) in
          starts_told finish (tell_child finish w l) chain j s now ∙ ap (λ n. Some n) same
    ]
  where
    join : (a s f c n : ℕ) → a ≡ s → c ≡ f → max (max a f) n ≡ max s (max c n)
    join a s f c n e g = omega (arith, e, g)

waits_size_told : (finish : ℕ) (w : Waits) (chain : List Link) → length (tell_all finish w chain).waits ≡ length w.waits
waits_size_told finish w [] = refl
waits_size_told finish w (l ∷ chain) = waits_size_told finish (tell_child finish w l) chain ∙ length-set w.waits l.child _

starts_size_told : (finish : ℕ) (w : Waits) (chain : List Link) → length (tell_all finish w chain).starts ≡ length w.starts
starts_size_told finish w [] = refl
starts_size_told finish w (l ∷ chain) = starts_size_told finish (tell_child finish w l) chain ∙ length-set w.starts l.child _

fired_in_told : (finish : ℕ) (w : Waits) (chain : List Link) → CanTell finish w chain → fired_in (tell_all finish w chain).waits ≡ fired_in w.waits
fired_in_told finish w [] can = refl
fired_in_told finish w (l ∷ chain) can =
    let v : (v : ℕ) × (slice_get w.waits l.child ≡ Some v) = get_there w.waits l.child can.0.within in
    fired_in_told finish (tell_child finish w l) chain can.1
    ∙ fired_told w l.child (finish + l.delay) v.0 v.1 (omega (arith, can.0.unfired, get_or_from_slice_get w.waits l.child v.0 0 v.1))

can_tell : (finish : ℕ) (w : Waits) (chain : List Link) → length w.starts ≡ length w.waits
    → ((i : ℕ) (l : Link) → slice_get chain i ≡ Some l → (l.child < length w.waits) × (finish + l.delay < 2 ^ 64))
    → ((j v : ℕ) → slice_get w.waits j ≡ Some v → 0 < links_to j chain → (links_to j chain ≤ v) × (v < 4294967295)) → CanTell finish w chain
can_tell finish w [] sizes each counts = tt
can_tell finish w (l ∷ chain) sizes each counts =
    let here = each 0 l refl in
    let v : (v : ℕ) × (slice_get w.waits l.child ≡ Some v) = get_there w.waits l.child here.0 in
    let read : get_or w.waits l.child 0 ≡ v.0 = get_or_from_slice_get w.waits l.child v.0 0 v.1 in
    let one : cond {A = ℕ} (eqb l.child l.child) 1 0 ≡ 1 = ap (λ (t : Bool). cond {A = ℕ} t 1 0) (is_eq l.child l.child refl) in
    let some = counts l.child v.0 v.1 (omega (arith, one)) in (
      record { sizes = sizes; within = here.0; waits = omega (arith, read, some.0, one); unfired = omega (arith, read, some.1); small = here.1 },
      can_tell finish (tell_child finish w l) chain
          (length-set w.starts l.child _ ∙ (sizes ∙ sym (length-set w.waits l.child _)))
          (λ i m h. let r = each (suc i) m h in (omega (arith, r.0, length-set w.waits l.child (get_or w.waits l.child 0 - 1)), r.1))
          (λ j u h more.
          elim (cases_eq j l.child) [
            | inl same ↦
                let one_j : cond {A = ℕ} (eqb l.child j) 1 0 ≡ 1 = ap (λ (t : Bool). cond {A = ℕ} t 1 0) (is_eq l.child j (sym same)) in
                let now : get_or w.waits l.child 0 - 1 ≡ u =
                same_Some (get_or w.waits l.child 0 - 1) u (sym (get_set_same w.waits l.child (get_or w.waits l.child 0 - 1) v.0 v.1) ∙ (ap (slice_get (tell_child finish w l).waits) (sym same) ∙ h))
                in
                let c = counts j v.0 (ap (slice_get w.waits) same ∙ v.1) (omega (arith, one_j)) in
                (omega (arith, c.0, one_j, now, read), omega (arith, c.1, now, read))
            | inr apart ↦
                let none : cond {A = ℕ} (eqb l.child j) 1 0 ≡ 0 = ap (λ (t : Bool). cond {A = ℕ} t 1 0) (apart_eq l.child j (λ q. apart (sym q))) in
                let c = counts j u (sym (get_set_other w.waits l.child j (get_or w.waits l.child 0 - 1) apart) ∙ h) (omega (arith, more, none)) in
                (omega (arith, c.0, none), c.1)
          ]),
    )

-- one more has fired

find_behind : (n : ℕ) (xs : List FiredEvent) (t : FiredEvent) → is_fired xs n ≡ true → find_fired (xs ++ t ∷ []) n ≡ find_fired xs n
find_behind n [] t h = absurd (false≢true h)
find_behind n (x ∷ xs) t h = by_test (find_behind n xs t) (eqb x.event.number n) h
  where
    by_test : (is_fired xs n ≡ true → find_fired (xs ++ t ∷ []) n ≡ find_fired xs n) → (u : Bool) → is_some (cond u (Some x) (find_fired xs n)) ≡ true
        → cond u (Some x) (find_fired (xs ++ t ∷ []) n) ≡ cond u (Some x) (find_fired xs n)
    by_test rest true h = refl
    by_test rest false h = rest h

find_last : (n : ℕ) (xs : List FiredEvent) (t : FiredEvent) → is_fired xs n ≡ false → find_fired (xs ++ t ∷ []) n ≡ cond (eqb t.event.number n) (Some t) None
find_last n [] t h = refl
find_last n (x ∷ xs) t h = by_test (find_last n xs t) (eqb x.event.number n) h
  where
    by_test : (is_fired xs n ≡ false → find_fired (xs ++ t ∷ []) n ≡ cond (eqb t.event.number n) (Some t) None) → (u : Bool) → is_some (cond u (Some x) (find_fired xs n)) ≡ false
        → cond u (Some x) (find_fired (xs ++ t ∷ []) n) ≡ cond (eqb t.event.number n) (Some t) None
    by_test rest true h = absurd (false≢true (sym h))
    by_test rest false h = rest h

find_same : (n : ℕ) (xs : List FiredEvent) (t : FiredEvent) → (t.event.number ≡ n → ⊥) → find_fired (xs ++ t ∷ []) n ≡ find_fired xs n
find_same n xs t apart =
    elim (test_cases (is_fired xs n)) [
      | inl f ↦ find_behind n xs t f
      | inr u ↦
          find_last n xs t u ∙ (ap (λ (b : Bool). cond b (Some t) None) (apart_eq t.event.number n apart) ∙ sym (none_at (find_fired xs n) u))
    ]
  where
    none_at : (o : Option FiredEvent) → is_some o ≡ false → o ≡ None
    none_at None h = refl
    none_at (Some x) h = absurd (false≢true (sym h))

find_it : (n : ℕ) (xs : List FiredEvent) (t : FiredEvent) → is_fired xs n ≡ false → t.event.number ≡ n → find_fired (xs ++ t ∷ []) n ≡ Some t
find_it n xs t u e = find_last n xs t u ∙ ap (λ (b : Bool). cond b (Some t) None) (is_eq t.event.number n e)

-- how many have fired

one_of : (b : Bool) (n : ℕ) → b ≡ true → cond {A = ℕ} b 1 0 + n ≡ n + 1
one_of b n e = let one : cond {A = ℕ} b 1 0 ≡ 1 = ap (λ (t : Bool). cond {A = ℕ} t 1 0) e in omega (arith, one)

none_of : (b : Bool) (n : ℕ) → b ≡ false → cond {A = ℕ} b 1 0 + n ≡ n
none_of b n e = let none : cond {A = ℕ} b 1 0 ≡ 0 = ap (λ (t : Bool). cond {A = ℕ} t 1 0) e in omega (arith, none)

zero_unfired : eqb 0 4294967295 ≡ false
zero_unfired = refl

fired_unfired : eqb 4294967295 4294967295 ≡ true
fired_unfired = is_eq 4294967295 4294967295 refl

one_more_fired : (waits : List ℕ) (place : ℕ) → slice_get waits place ≡ Some 0 → fired_in (set waits place 4294967295) ≡ fired_in waits + 1
one_more_fired [] place h = absurd (none-some 0 h)
one_more_fired (w ∷ waits) zero h =
    let w_is : eqb w 4294967295 ≡ false = ap (λ n. eqb n 4294967295) (same_Some w 0 h) ∙ zero_unfired in
    one_of (eqb 4294967295 4294967295) (fired_in waits) fired_unfired ∙ ap (λ n. n + 1) (sym (none_of (eqb w 4294967295) (fired_in waits) w_is))
one_more_fired (w ∷ waits) (suc place) h = omega (arith, one_more_fired waits place h)

fired_upto : (waits : List ℕ) → fired_in waits ≤ length waits
fired_upto [] = omega arith
fired_upto (w ∷ waits) = by_test (fired_upto waits) (eqb w 4294967295)
  where
    by_test : fired_in waits ≤ length waits → (t : Bool) → cond {A = ℕ} t 1 0 + fired_in waits ≤ length (w ∷ waits)
    by_test rest true = omega (arith, rest)
    by_test rest false = omega (arith, rest)

pub some_unfired : (waits : List ℕ) (place : ℕ) → slice_get waits place ≡ Some 0 → fired_in waits < length waits
some_unfired waits place h = omega (arith, one_more_fired waits place h, fired_upto (set waits place 4294967295), length-set waits place 4294967295)

module _ (events : List Event) (p : Partition) (domain : ℕ) (here : List Event) (stubs : List Stub) (own : DomainState) (w : Waits)
    (numbered : IsNumbered events) (are_here : AreHere events p domain here) (stands : Stands events p domain own here stubs w)
    (place : ℕ) (e : Event) (there : slice_get here place ≡ Some e) (ready : slice_get w.waits place ≡ Some 0)
    (links : List Link) (head : ℕ) (children : IsChildren here links head e.number) (start finish : ℕ) where
  abbrev last : FiredEvent
  last = record { event = e; start = start; finish = finish }

  -- the domain after it
  abbrev then : DomainState
  then = record own { fired = own.fired ++ last ∷ [] }

  ready_is : (is_fired own.fired e.number ≡ false) × (missing_at events p domain own place e stubs ≡ 0)
  ready_is = by_test (is_fired own.fired e.number) refl (same_Some _ 0 (sym (stands.waits place e there) ∙ ready))
    where
      by_test : (t : Bool) → is_fired own.fired e.number ≡ t → cond t 4294967295 (missing_at events p domain own place e stubs) ≡ 0
          → (is_fired own.fired e.number ≡ false) × (missing_at events p domain own place e stubs ≡ 0)
      by_test true v z = absurd (omega (arith, z))
      by_test false v z = (v, z)

  domain_here : (n : ℕ) → n ≡ e.number → eqb (domain_of_number p.places events n) domain ≡ true
  domain_here n is =
      let at = are_here.each place e there in
      is_eq (domain_of_number p.places events n) domain (ap (domain_of_number p.places events) is ∙ (at_event events p.places e.number e at.0 ∙ at.1))

  pending_then : (q : Option Parent) → pending events p domain then q + times_parent e.number q ≡ pending events p domain own q
  pending_then None = refl
  pending_then (Some q) =
      elim (cases_eq q.number e.number) [
        | inl same ↦
            let unfired : is_fired own.fired q.number ≡ false = ap (is_fired own.fired) same ∙ ready_is.0 in
            let now : is_fired then.fired q.number ≡ true = ap is_some (find_it q.number own.fired last unfired (sym same)) in
            let before : pending events p domain own (Some q) ≡ 1 =
            ap (λ (t : Bool). cond {A = ℕ} (t || not (eqb (domain_of_number p.places events q.number) domain)) 0 1) unfired
            ∙ ap (λ (t : Bool). cond {A = ℕ} (false || not t) 0 1) (domain_here q.number same)
            in
            let after : pending events p domain then (Some q) ≡ 0 = ap (λ (t : Bool). cond {A = ℕ} (t || not (eqb (domain_of_number p.places events q.number) domain)) 0 1) now in
            let hit : times_parent e.number (Some q) ≡ 1 = ap (λ (t : Bool). cond {A = ℕ} t 1 0) (is_eq q.number e.number same) in
            omega (arith, before, after, hit)
        | inr apart ↦
            let now : is_fired then.fired q.number ≡ is_fired own.fired q.number = ap is_some (find_same q.number own.fired last (λ (r : e.number ≡ q.number). apart (sym r))) in
            let after : pending events p domain then (Some q) ≡ pending events p domain own (Some q) =
            ap (λ (t : Bool). cond {A = ℕ} (t || not (eqb (domain_of_number p.places events q.number) domain)) 0 1) now
            in
            let hit : times_parent e.number (Some q) ≡ 0 = ap (λ (t : Bool). cond {A = ℕ} t 1 0) (apart_eq q.number e.number apart) in
            omega (arith, after, hit)
      ]

  own_then : (q : Option Parent) → start_after_own events p domain then q ≡ max (start_after_own events p domain own q) (hit_after finish e.number q)
  own_then None = refl
  own_then (Some q) =
      elim (cases_eq q.number e.number) [
        | inl same ↦
            let unfired : is_fired own.fired q.number ≡ false = ap (is_fired own.fired) same ∙ ready_is.0 in
            let found : find_fired then.fired q.number ≡ Some last = find_it q.number own.fired last unfired (sym same) in
            let before : start_after_own events p domain own (Some q) ≡ 0 =
            ap (λ (t : Bool). cond (t && eqb (domain_of_number p.places events q.number) domain) (finish_in own.fired q.number + q.delay) 0) unfired
            in
            let after : start_after_own events p domain then (Some q) ≡ finish + q.delay =
            ap (λ (o : Option FiredEvent). cond (is_some o && eqb (domain_of_number p.places events q.number) domain) (finish_or_zero o + q.delay) 0) found
            ∙ ap (λ (t : Bool). cond (true && t) (finish + q.delay) 0) (domain_here q.number same)
            in
            let hit : hit_after finish e.number (Some q) ≡ finish + q.delay = ap (λ (t : Bool). cond t (finish + q.delay) 0) (is_eq q.number e.number same) in
            omega (arith, before, after, hit)
        | inr apart ↦
            let after : start_after_own events p domain then (Some q) ≡ start_after_own events p domain own (Some q) =
            ap (λ (o : Option FiredEvent). cond (is_some o && eqb (domain_of_number p.places events q.number) domain) (finish_or_zero o + q.delay) 0)
            (find_same q.number own.fired last (λ (r : e.number ≡ q.number). apart (sym r)))
            in
            let hit : hit_after finish e.number (Some q) ≡ 0 = ap (λ (t : Bool). cond t (finish + q.delay) 0) (apart_eq q.number e.number apart) in
            omega (arith, after, hit)
      ]

  missing_then : (j : ℕ) (f : Event) → missing_at events p domain then j f stubs + (times_parent e.number f.first + times_parent e.number f.second) ≡ missing_at events p domain own j f stubs
  missing_then j f = omega (arith, pending_then f.first, pending_then f.second)

  -- no event is its own parent
  no_hits : (times_parent e.number e.first ≡ 0) × (times_parent e.number e.second ≡ 0)
  no_hits = (slot e.first (λ q s. numbered.first e.number e q (are_here.each place e there).0 s), slot e.second (λ q s. numbered.second e.number e q (are_here.each place e there).0 s))
    where
      slot : (q : Option Parent) → ((r : Parent) → q ≡ Some r → r.number < e.number) → times_parent e.number q ≡ 0
      slot None h = refl
      slot (Some q) h = ap (λ (t : Bool). cond {A = ℕ} t 1 0) (apart_eq q.number e.number (λ (s : q.number ≡ e.number). absurd (omega (arith, h q refl, s))))

  same_place : (j : ℕ) (f : Event) → slice_get here j ≡ Some f → f.number ≡ e.number → j ≡ place
  same_place j f h s = one_place (λ (z : Event). z.number) here are_here.rising j place f e h there s

  -- the place has fired
  wait_then : (j : ℕ) (f : Event) → slice_get here j ≡ Some f → (j ≡ place → ⊥) → slice_get (is_fired_wait w place).waits j ≡ Some (cond (is_fired own.fired f.number) 4294967295 (missing_at events p domain own j f stubs))
  wait_then j f h apart = get_set_other w.waits place j 4294967295 apart ∙ stands.waits j f h

  wait_here : slice_get (is_fired_wait w place).waits place ≡ Some 4294967295
  wait_here = get_set_same w.waits place 4294967295 0 ready

  event_there : (j v : ℕ) → slice_get (is_fired_wait w place).waits j ≡ Some v → (f : Event) × (slice_get here j ≡ Some f)
  event_there j v h =
      get_there here j (omega (arith, get_below (is_fired_wait w place).waits j v h, length-set w.waits place 4294967295, stands.waits_size))

  fired_none : (j : ℕ) (f : Event) → slice_get here j ≡ Some f → is_fired own.fired f.number ≡ true → times_parent e.number f.first + times_parent e.number f.second ≡ 0
  fired_none j f h u = omega (arith, missing_then j f, stands.finished j f h u)

  pub can_tell_children : length stubs < 2 ^ 31 → finish ≤ 2 ^ 62 → CanTell finish (is_fired_wait w place) children.chain
  can_tell_children few small =
      can_tell finish (is_fired_wait w place) children.chain
      (stands.starts_size ∙ sym (length-set w.waits place 4294967295 ∙ stands.waits_size))
      (λ i l h. let r = children.within i l h in (omega (arith, r.0, length-set w.waits place 4294967295, stands.waits_size), omega (arith, r.1, small)))
      (λ j v h more.
      let f = event_there j v h in
      let count : links_to j children.chain ≡ times_parent e.number f.0.first + times_parent e.number f.0.second = children.counts j f.0 f.1 in
      elim (cases_eq j place) [
        | inl same ↦
            let is : e ≡ f.0 = same_Some e f.0 (sym there ∙ (ap (slice_get here) (sym same) ∙ f.1)) in
            let none : times_parent e.number f.0.first + times_parent e.number f.0.second ≡ 0 = ap (λ (z : Event). times_parent e.number z.first + times_parent e.number z.second) (sym is) ∙ both_none in
            absurd (omega (arith, more, count, none))
        | inr apart ↦ by_fired j f.0 f.1 v count more (is_fired own.fired f.0.number) refl (same_Some _ v (sym (wait_then j f.0 f.1 apart) ∙ h))
      ])
    where
      both_none : times_parent e.number e.first + times_parent e.number e.second ≡ 0
      both_none = omega (arith, no_hits.0, no_hits.1)

      by_fired : (j : ℕ) (f : Event) → slice_get here j ≡ Some f → (v : ℕ) → links_to j children.chain ≡ times_parent e.number f.first + times_parent e.number f.second → 0 < links_to j children.chain
          → (t : Bool) → is_fired own.fired f.number ≡ t → cond t 4294967295 (missing_at events p domain own j f stubs) ≡ v → (links_to j children.chain ≤ v) × (v < 4294967295)
      by_fired j f h v count more true u is = absurd (omega (arith, more, count, fired_none j f h u))
      by_fired j f h v count more false u is = (
        omega (arith, count, missing_then j f, is),
        omega (arith, is, pending_one f.first, pending_one f.second, unknown_few j stubs, few),
      )
        where
          pending_one : (q : Option Parent) → pending events p domain own q ≤ 1
          pending_one q = by_test _
            where
              by_test : (t : Bool) → cond {A = ℕ} t 0 1 ≤ 1
              by_test true = omega arith
              by_test false = omega arith

  pub counted_then : CanTell finish (is_fired_wait w place) children.chain → fired_in (tell_all finish (is_fired_wait w place) children.chain).waits ≡ fired_in w.waits + 1
  counted_then can = fired_in_told finish (is_fired_wait w place) children.chain can ∙ one_more_fired w.waits place ready

  pub stands_then : Stands events p domain then here stubs (tell_all finish (is_fired_wait w place) children.chain)
  stands_then = record {
    starts_size = starts_size_told finish (is_fired_wait w place) children.chain ∙ stands.starts_size;
    waits_size = waits_size_told finish (is_fired_wait w place) children.chain ∙ (length-set w.waits place 4294967295 ∙ stands.waits_size);
    waits = λ j f h.
        let count : links_to j children.chain ≡ times_parent e.number f.first + times_parent e.number f.second = children.counts j f h in
        elim (cases_eq j place) [
          | inl same ↦
              let is : e ≡ f = same_Some e f (sym there ∙ (ap (slice_get here) (sym same) ∙ h)) in
              let none : times_parent e.number f.first + times_parent e.number f.second ≡ 0 =
              ap (λ (z : Event). times_parent e.number z.first + times_parent e.number z.second) (sym is) ∙ (ap (λ n. n + times_parent e.number e.second) no_hits.0 ∙ no_second)
              in
              let now : is_fired then.fired f.number ≡ true = ap is_some (find_it f.number own.fired last (ap (λ (z : Event). is_fired own.fired z.number) (sym is) ∙ ready_is.0) (ap (λ (z : Event). z.number) is)) in
              let stays : 4294967295 - links_to j children.chain ≡ 4294967295 = omega (arith, count, none) in
              waits_told finish (is_fired_wait w place) children.chain j 4294967295 (ap (slice_get (is_fired_wait w place).waits) same ∙ wait_here)
              ∙ (ap (λ n. Some n) stays ∙ ap (λ (t : Bool). Some (cond t 4294967295 (missing_at events p domain then j f stubs))) (sym now))
          | inr apart ↦
              let now : is_fired then.fired f.number ≡ is_fired own.fired f.number =
              ap is_some (find_same f.number own.fired last (λ (r : e.number ≡ f.number). apart (same_place j f h (sym r))))
              in
              waits_told finish (is_fired_wait w place) children.chain j _ (wait_then j f h apart)
              ∙ (ap (λ n. Some n) (by_fired j f h count (is_fired own.fired f.number) refl)
              ∙ ap (λ (t : Bool). Some (cond t 4294967295 (missing_at events p domain then j f stubs))) (sym now))
        ];
    starts = λ j f h.
        starts_told finish (is_fired_wait w place) children.chain j _ (stands.starts j f h)
        ∙ ap (λ n. Some n)
        (joins f.min_start (start_after_own events p domain own f.first) (start_after_own events p domain own f.second) (told_into j stubs) (hit_after finish e.number f.first) (hit_after finish e.number f.second)
        (start_after_own events p domain then f.first) (start_after_own events p domain then f.second) (latest_to finish j children.chain) (children.latest finish j f h) (own_then f.first) (own_then f.second));
    finished = λ j f h fired.
        elim (cases_eq j place) [
          | inl same ↦
              let is : e ≡ f = same_Some e f (sym there ∙ (ap (slice_get here) (sym same) ∙ h)) in
              let none : missing_at events p domain own j f stubs ≡ 0 = ap (λ n. missing_at events p domain own n f stubs) same ∙ (ap (λ (z : Event). missing_at events p domain own place z stubs) (sym is) ∙ ready_is.1) in
              omega (arith, missing_then j f, none)
          | inr apart ↦
              let now : is_fired then.fired f.number ≡ is_fired own.fired f.number =
              ap is_some (find_same f.number own.fired last (λ (r : e.number ≡ f.number). apart (same_place j f h (sym r))))
              in
              omega (arith, missing_then j f, stands.finished j f h (sym now ∙ fired))
        ];
    agree = stands.agree;
  }
    where
      no_second : 0 + times_parent e.number e.second ≡ 0
      no_second = omega (arith, no_hits.1)

      by_fired : (j : ℕ) (f : Event) → slice_get here j ≡ Some f → links_to j children.chain ≡ times_parent e.number f.first + times_parent e.number f.second → (t : Bool) → is_fired own.fired f.number ≡ t
          → cond t 4294967295 (missing_at events p domain own j f stubs) - links_to j children.chain ≡ cond t 4294967295 (missing_at events p domain then j f stubs)
      by_fired j f h count true u = omega (arith, count, fired_none j f h u)
      by_fired j f h count false u = omega (arith, count, missing_then j f)

      joins : (m a b t x y c d n : ℕ) → n ≡ max x y → c ≡ max a x → d ≡ max b y → max (max m (max (max a b) t)) n ≡ max m (max (max c d) t)
      joins m a b t x y c d n e g h = omega (arith, e, g, h)
