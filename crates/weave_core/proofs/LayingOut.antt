-- A domain before its first event fires.
use Rattle.std.proofs.Common.{◌≡◌, ◌+◌, ◌<◌, ◌≤◌, ◌^◌, ℕ, zero, suc, Bool, true, false, not, ◌||◌, cond, eqb, List, [], ◌∷◌, length, map, get_or, Option, Some, None, IfSome, slice_get, sym, ◌∙◌, ap, subst, refl, inl, inr, arith}
use Rattle.std.proofs.lemmas.Bool.{false≢true}
use Rattle.std.proofs.lemmas.List.{length-map}
use Rattle.std.proofs.lemmas.Option.{same_Some, none-some, get_or_from_slice_get, slice_get-get_or}
use Rattle.std.specs.List.{filter, find, enumerate_from}
use Rattle.std.specs.Option.{option_map_or}
use Rattle.zs_num.specs.declared.time.Word.{Word}
use Rattle.zs_num.specs.declared.time.Word.TheVariants.{Bound}
use Rattle.event_graph.specs.declared.event.Event.{Event}
use Rattle.event_graph.specs.declared.event.Parent.{Parent}
use Rattle.event_graph.specs.Numbered.{IsNumbered}
use Rattle.domain_map.specs.declared.crossing.Crossing.{Crossing}
use Rattle.domain_map.specs.Domains.{Partition, IsPartition, domain_of_event, domain_of_number, events_in}
use Rattle.weave_core.specs.declared.incoming.Stub.{Stub}
use Rattle.weave_core.specs.Beginning.{AddsWaits, AreCounts, AreCrossed, AreSmall, AreStubsUpto, HasPlace, HasWaits, IsCount, IsRisingList}
use Rattle.weave_core.specs.DomainMachine.{is_exact}
use Rattle.weave_core.specs.Exits.{HaveParents}
use Rattle.weave_core.specs.LaidOut.{FitsDomain, at_rest_with}
use Rattle.weave_core.specs.Layout.{AreHere, AreStubs, Stands, crossing_word, fired_in, known_words, missing_at, no_event, pending, start_after_own, start_at, told_into, unknown_into}
use Rattle.weave_core.proofs.Crossings.{Joins, joins}
use Rattle.weave_core.proofs.Joined.{at_event}
use Rattle.weave_core.proofs.Lists.{In, at_in, find_some, from_filter, get_below, get_there, in_at, in_filter}
use Rattle.weave_core.proofs.Looked.{same_enum, unknown_few}
use Rattle.weave_core.proofs.Words.{apart_eq, eq_is, is_eq, told_most}

-- the events of a domain rise

Ascends : (least : ℕ) → List Event → Type 0
Ascends least [] = Unit {0}
Ascends least (e ∷ es) = (least ≤ e.number) × Ascends (suc e.number) es

ascends_less : (a b : ℕ) (es : List Event) → a ≤ b → Ascends b es → Ascends a es
unfolding Ascends
ascends_less a b [] l h = tt
ascends_less a b (e ∷ es) l h = (omega (arith, l, h.0), h.1)

ascends_filter : (test : Event → Bool) (n : ℕ) (es : List Event) → ((i : ℕ) (e : Event) → slice_get es i ≡ Some e → e.number ≡ n + i) → Ascends n (filter test es)
unfolding Ascends
ascends_filter test n [] h = tt
ascends_filter test n (e ∷ es) h =
    by_test (ascends_filter test (suc n) es (λ i f k. omega (arith, h (suc i) f k))) (h 0 e refl) (test e)
  where
    by_test : Ascends (suc n) (filter test es) → e.number ≡ n + 0 → (t : Bool) → Ascends n (cond t (e ∷ filter test es) (filter test es))
    by_test rest is true =
        let upto : n ≤ e.number = omega (arith, is) in
        let same : suc n ≡ suc e.number = omega (arith, is) in
        (upto, subst (λ (m : ℕ). Ascends m (filter test es)) same rest)
    by_test rest is false = let l : n ≤ suc n = omega arith in ascends_less n (suc n) (filter test es) l rest

ascends_at : (least : ℕ) (es : List Event) (i : ℕ) (e : Event) → Ascends least es → slice_get es i ≡ Some e → least ≤ e.number
unfolding Ascends
ascends_at least [] i e a h = absurd (none-some e h)
ascends_at least (f ∷ es) zero e a h = let same : f.number ≡ e.number = ap (λ (z : Event). z.number) (same_Some f e h) in omega (arith, a.0, same)
ascends_at least (f ∷ es) (suc i) e a h = omega (arith, ascends_at (suc f.number) es i e a.1 h, a.0)

ascends_rise : (least : ℕ) (es : List Event) (i j : ℕ) (e f : Event) → Ascends least es → i < j → slice_get es i ≡ Some e → slice_get es j ≡ Some f → e.number < f.number
unfolding Ascends
ascends_rise least [] i j e f a l h k = absurd (none-some e h)
ascends_rise least (g ∷ es) zero zero e f a l h k = absurd (omega (arith, l))
ascends_rise least (g ∷ es) zero (suc j) e f a l h k =
    let same : g.number ≡ e.number = ap (λ (z : Event). z.number) (same_Some g e h) in
    omega (arith, ascends_at (suc g.number) es j f a.1 k, same)
ascends_rise least (g ∷ es) (suc i) zero e f a l h k = absurd (omega (arith, l))
ascends_rise least (g ∷ es) (suc i) (suc j) e f a l h k = ascends_rise (suc g.number) es i j e f a.1 (omega (arith, l)) h k

length-filter : (test : Event → Bool) (es : List Event) → length (filter test es) ≤ length es
length-filter test [] = omega arith
length-filter test (e ∷ es) = by_test (length-filter test es) (test e)
  where
    by_test : length (filter test es) ≤ length es → (t : Bool) → length (cond t (e ∷ filter test es) (filter test es)) ≤ length (e ∷ es)
    by_test rest true = omega (arith, rest)
    by_test rest false = omega (arith, rest)

read_back : (events some : List Event) → ((e : Event) → In e some → slice_get events e.number ≡ Some e) → map (λ (n : ℕ). get_or events n no_event) (map (λ (e : Event). e.number) some) ≡ some
read_back events [] h = refl
read_back events (e ∷ es) h =
    ap (λ (z : Event). z ∷ map (λ (n : ℕ). get_or events n no_event) (map (λ (x : Event). x.number) es)) (get_or_from_slice_get events e.number e no_event (h e (inl refl)))
    ∙ ap (λ (zs : List Event). e ∷ zs) (read_back events es (λ f m. h f (inr m)))

number_there : (some : List Event) (k n : ℕ) → slice_get (map (λ (e : Event). e.number) some) k ≡ Some n → (e : Event) × ((slice_get some k ≡ Some e) × (e.number ≡ n))
number_there [] k n h = absurd (none-some n h)
number_there (e ∷ es) zero n h = (e, (refl, same_Some e.number n h))
number_there (e ∷ es) (suc k) n h = number_there es k n h

start_there : (some : List Event) (k : ℕ) (e : Event) → slice_get some k ≡ Some e → slice_get (map (λ (x : Event). x.min_start) some) k ≡ Some e.min_start
start_there [] k e h = absurd (none-some e h)
start_there (f ∷ es) zero e h = ap (λ (z : Event). Some z.min_start) (same_Some f e h)
start_there (f ∷ es) (suc k) e h = start_there es k e h

none_fired : (waits : List ℕ) → ((j v : ℕ) → slice_get waits j ≡ Some v → v < 4294967295) → fired_in waits ≡ 0
none_fired [] h = refl
none_fired (w ∷ waits) h =
    let rest : fired_in waits ≡ 0 = none_fired waits (λ j v k. h (suc j) v k) in
    let test : eqb w 4294967295 ≡ false = apart_eq w 4294967295 (λ (e : w ≡ 4294967295). absurd (omega (arith, e, h 0 w refl))) in
    let none : cond {A = ℕ} (eqb w 4294967295) 1 0 ≡ 0 = ap (λ (t : Bool). cond {A = ℕ} t 1 0) test in
    omega (arith, rest, none)

words_none : (n : ℕ) (crossings : List Crossing) → map (λ (at : ℕ × Crossing). Bound 0) (enumerate_from n crossings) ≡ map (λ (x : Crossing). Bound 0) crossings
words_none n [] = refl
words_none n (x ∷ crossings) = ap (λ (ws : List Word). Bound 0 ∷ ws) (words_none (n + 1) crossings)

module _ (events : List Event) (p : Partition) (domain : ℕ) (numbered : IsNumbered events) (partitions : IsPartition events p) (below : domain < length p.events) (fits : FitsDomain events p)
    (numbers : List ℕ) (numbers_are : slice_get p.events domain ≡ Some numbers) where
  abbrev mine : List Event
  mine = filter (λ (e : Event). eqb (domain_of_event p.places e) domain) events

  abbrev pub here : List Event
  here = map (λ (n : ℕ). get_or events n no_event) numbers

  numbers_is : numbers ≡ map (λ (e : Event). e.number) mine
  unfolding events_in
  numbers_is = same_Some numbers (events_in p.places events domain) (sym numbers_are ∙ partitions.each domain below)

  in_events : (e : Event) → In e mine → slice_get events e.number ≡ Some e
  in_events e m =
      let f = from_filter (λ (x : Event). eqb (domain_of_event p.places x) domain) e events m in
      let at : (i : ℕ) × (slice_get events i ≡ Some e) = in_at e events f.0 in
      ap (slice_get events) (numbered.number at.0 e at.1) ∙ at.1

  here_is : here ≡ mine
  here_is = ap (map (λ (n : ℕ). get_or events n no_event)) numbers_is ∙ read_back events mine in_events

  pub numbers_below : (k d : ℕ) → k < length numbers → get_or numbers k d < length events
  numbers_below k d l =
      let n : slice_get numbers k ≡ Some (get_or numbers k d) = slice_get-get_or numbers k d l in
      let e = number_there mine k (get_or numbers k d) (ap (λ (ns : List ℕ). slice_get ns k) (sym numbers_is) ∙ n) in
      omega (arith, get_below events e.0.number e.0 (in_events e.0 (at_in e.0 mine k e.1.0)), e.1.1)

  get_mine : (place : ℕ) (e : Event) → slice_get here place ≡ Some e → slice_get mine place ≡ Some e
  get_mine place e h = ap (λ (xs : List Event). slice_get xs place) (sym here_is) ∙ h

  pub are_here : AreHere events p domain here
  are_here = record {
    each = λ place e h.
        let m : In e mine = at_in e mine place (get_mine place e h) in
        (in_events e m, eq_is (domain_of_event p.places e) domain (from_filter (λ (x : Event). eqb (domain_of_event p.places x) domain) e events m).1);
    covers = λ number e h d.
        let at : (i : ℕ) × (slice_get mine i ≡ Some e) =
        in_at e mine (in_filter (λ (x : Event). eqb (domain_of_event p.places x) domain) e events (at_in e events number h) (is_eq (domain_of_event p.places e) domain d))
        in
        (at.0, ap (λ (xs : List Event). slice_get xs at.0) here_is ∙ at.1);
    rising = λ i j e f l h k.
        ascends_rise 0 mine i j e f (ascends_filter (λ (x : Event). eqb (domain_of_event p.places x) domain) 0 events (λ n x m. omega (arith, numbered.number n x m))) l (get_mine i e h) (get_mine j f k);
  }

  pub rising_here : IsRisingList here
  rising_here = record { rising = are_here.rising }

  pub few_here : length here < 2 ^ 30
  few_here = omega (arith, ap length here_is, length-filter (λ (x : Event). eqb (domain_of_event p.places x) domain) events, fits.few)

  pub small_here : AreSmall here
  small_here = record { each = λ place e h. fits.small.each e.number e (are_here.each place e h).0 }

  pub crossed : AreCrossed events here p.crossings domain
  crossed = record {
    each = λ number x h target.
        let j : Joins p.places events x = joins p.places events number x (subst (λ (xs : List Crossing). slice_get xs number ≡ Some x) partitions.crossings h) in
        let d : domain_of_event p.places j.child ≡ domain = ap (λ (z : Crossing). z.target) j.is ∙ target in
        let place = are_here.covers j.number j.child j.there d in
        let lower : j.parent.number < j.number =
        elim j.slot [ inl s ↦ numbered.first j.number j.child j.parent j.there s | inr s ↦ numbered.second j.number j.child j.parent j.there s ]
        in
        let small = fits.small.each j.number j.child j.there in
        let delay : j.parent.delay ≤ 2 ^ 62 =
        elim j.slot [
          | inl s ↦ subst (λ (o : Option Parent). IfSome o (λ q. q.delay ≤ 2 ^ 62)) s small.first
          | inr s ↦ subst (λ (o : Option Parent). IfSome o (λ q. q.delay ≤ 2 ^ 62)) s small.second
        ]
        in
        let parent : (f : Event) × (slice_get events j.parent.number ≡ Some f) = get_there events j.parent.number (omega (arith, lower, get_below events j.number j.child j.there)) in
        record {
          place = place.0;
          child = record { event = j.child; there = place.1; number_is = ap (λ (z : Crossing). z.child) j.is };
          parent = parent.0;
          parent_there = ap (λ (z : Crossing). slice_get events z.parent) (sym j.is) ∙ parent.1;
          delay = omega (arith, delay, ap (λ (z : Crossing). z.delay) j.is);
        };
  }

  pub parents_here : HaveParents here p.crossings domain
  parents_here = record {
    each = λ number x h source.
        let j : Joins p.places events x = joins p.places events number x (subst (λ (xs : List Crossing). slice_get xs number ≡ Some x) partitions.crossings h) in
        let lower : j.parent.number < j.number =
        elim j.slot [ inl s ↦ numbered.first j.number j.child j.parent j.there s | inr s ↦ numbered.second j.number j.child j.parent j.there s ]
        in
        let q : (q : Event) × (slice_get events j.parent.number ≡ Some q) = get_there events j.parent.number (omega (arith, lower, get_below events j.number j.child j.there)) in
        let d : domain_of_event p.places q.0 ≡ domain = sym (at_event events p.places j.parent.number q.0 q.1) ∙ (ap (λ (z : Crossing). z.source) j.is ∙ source) in
        let place = are_here.covers j.parent.number q.0 q.1 d in
        (place.0, record { event = q.0; there = place.1; number_is = numbered.number j.parent.number q.0 q.1 ∙ ap (λ (z : Crossing). z.parent) j.is });
  }

  count_few : (q : Option Parent) (n : ℕ) → IsCount here q n → n ≤ 1
  count_few None n h = omega (arith, h)
  count_few (Some q) n h = elim h [ inl a ↦ omega (arith, a.0) | inr b ↦ omega (arith, b.0) ]

  pub has_waits : (waits : List ℕ) → AreCounts here waits (length here) → HasWaits here waits
  has_waits waits counts = record {
    size = counts.size;
    few = λ place wait h.
        let l : place < length here = omega (arith, get_below waits place wait h, counts.size) in
        let e : (e : Event) × (slice_get here place ≡ Some e) = get_there here place l in
        let c = counts.each place e.0 l e.1 in
        let same : c.0 + c.1.0 ≡ wait = same_Some (c.0 + c.1.0) wait (sym c.1.1.1.1 ∙ h) in
        omega (arith, same, count_few e.0.first c.0 c.1.1.0, count_few e.0.second c.1.0 c.1.1.1.0);
  }

  -- a count is what is pending
  count_pending : (q : Option Parent) (n : ℕ) → ((r : Parent) → q ≡ Some r → r.number < length events) → IsCount here q n → n ≡ pending events p domain (at_rest_with p 0) q
  count_pending None n l h = h
  count_pending (Some q) n l h = by_test (eqb (domain_of_number p.places events q.number) domain) refl
    where
      found : eqb (domain_of_number p.places events q.number) domain ≡ true → (place : ℕ) × HasPlace here q.number place
      found v =
          let f : (f : Event) × (slice_get events q.number ≡ Some f) = get_there events q.number (l q refl) in
          let d : domain_of_event p.places f.0 ≡ domain = sym (at_event events p.places q.number f.0 f.1) ∙ eq_is (domain_of_number p.places events q.number) domain v in
          let place = are_here.covers q.number f.0 f.1 d in
          (place.0, record { event = f.0; there = place.1; number_is = numbered.number q.number f.0 f.1 })

      not_found : eqb (domain_of_number p.places events q.number) domain ≡ false → (place : ℕ) → HasPlace here q.number place → ⊥
      not_found v place has =
          let a = are_here.each place has.event has.there in
          let d : domain_of_number p.places events q.number ≡ domain = ap (domain_of_number p.places events) (sym has.number_is) ∙ (at_event events p.places has.event.number has.event a.0 ∙ a.1) in
          false≢true (sym v ∙ is_eq (domain_of_number p.places events q.number) domain d)

      by_test : (t : Bool) → eqb (domain_of_number p.places events q.number) domain ≡ t → n ≡ pending events p domain (at_rest_with p 0) (Some q)
      by_test true v =
          let one : pending events p domain (at_rest_with p 0) (Some q) ≡ 1 = ap (λ (t : Bool). cond {A = ℕ} (false || not t) 0 1) v in
          elim h [
            | inl a ↦ omega (arith, a.0, one)
            | inr b ↦ let f = found v in absurd (b.1 f.0 f.1.event f.1.there f.1.number_is)
          ]
      by_test false v =
          let none : pending events p domain (at_rest_with p 0) (Some q) ≡ 0 = ap (λ (t : Bool). cond {A = ℕ} (false || not t) 0 1) v in
          elim h [ inl a ↦ absurd (not_found v a.1.0 a.1.1) | inr b ↦ omega (arith, b.0, none) ]

  module _ (stubs : List Stub) (upto : AreStubsUpto events here p.crossings domain stubs (length p.crossings)) where
    pub are_stubs : AreStubs events p domain here stubs
    are_stubs = record {
      each = λ place s h.
          let r = upto.each place s h in
          record {
            crossing = r.1.0;
            there = r.1.1.0;
            target = r.1.1.1.0;
            delay = r.1.1.1.1.delay;
            latency = r.1.1.1.1.latency;
            child = r.1.1.1.1.child.event;
            child_there = r.1.1.1.1.child.there;
            child_is = r.1.1.1.1.child.number_is;
          };
      covers = λ number x h target. upto.covers number x (get_below p.crossings number x h) h target;
      rising = upto.rising;
    }

    pub few_stubs : length stubs < 2 ^ 31
    few_stubs = omega (arith, upto.few, fits.few_crossings)

    pub unknown_all : (place : ℕ) (s : Stub) → slice_get stubs place ≡ Some s → is_exact s.word ≡ false
    unknown_all place s h = ap is_exact (upto.each place s h).1.1.1.1.word

    pub known_none : known_words p.crossings stubs ≡ map (λ (x : Crossing). Bound 0) p.crossings
    known_none = same_enum (crossing_word stubs) (λ n. Bound 0) 0 p.crossings (λ j l. by_found j (find (λ (t : Stub). eqb t.number j) stubs) refl) ∙ words_none 0 p.crossings
      where
        by_found : (j : ℕ) (o : Option Stub) → find (λ (t : Stub). eqb t.number j) stubs ≡ o → option_map_or (λ (t : Stub). t.word) (find (λ (t : Stub). eqb t.number j) stubs) (Bound 0) ≡ Bound 0
        by_found j None e = ap (λ (o : Option Stub). option_map_or (λ (t : Stub). t.word) o (Bound 0)) e
        by_found j (Some s) e =
            let m : In s stubs = (find_some (λ (t : Stub). eqb t.number j) stubs s e).0 in
            let at : (i : ℕ) × (slice_get stubs i ≡ Some s) = in_at s stubs m in
            ap (λ (o : Option Stub). option_map_or (λ (t : Stub). t.word) o (Bound 0)) e ∙ (upto.each at.0 s at.1).1.1.1.1.word

    module _ (first waits starts : List ℕ) (counts : AreCounts here first (length here)) (adds : AddsWaits first waits stubs) (starts_are : starts ≡ map (λ (e : Event). e.min_start) here) where
      wait_at : (place : ℕ) (e : Event) → slice_get here place ≡ Some e → slice_get waits place ≡ Some (missing_at events p domain (at_rest_with p 0) place e stubs)
      wait_at place e h =
          let l : place < length here = get_below here place e h in
          let c = counts.each place e l h in
          let at = (are_here.each place e h).0 in
          let a : c.0 ≡ pending events p domain (at_rest_with p 0) e.first =
          count_pending e.first c.0 (λ r s. omega (arith, numbered.first e.number e r at s, get_below events e.number e at)) c.1.1.0
          in
          let b : c.1.0 ≡ pending events p domain (at_rest_with p 0) e.second =
          count_pending e.second c.1.0 (λ r s. omega (arith, numbered.second e.number e r at s, get_below events e.number e at)) c.1.1.1.0
          in
          let same : c.0 + c.1.0 + unknown_into place stubs ≡ missing_at events p domain (at_rest_with p 0) place e stubs = omega (arith, a, b) in
          adds.each place (c.0 + c.1.0) c.1.1.1.1 ∙ ap (λ n. Some n) same

      own_zero : (q : Option Parent) → start_after_own events p domain (at_rest_with p 0) q ≡ 0
      own_zero None = refl
      own_zero (Some q) = refl

      told_zero : (place : ℕ) → told_into place stubs ≡ 0
      told_zero place =
          let none : told_into place stubs ≤ 0 = told_most place stubs 0 (λ k s h is exact. absurd (false≢true (sym (unknown_all k s h) ∙ exact))) in
          omega (arith, none)

      pub stands_first : Stands events p domain (at_rest_with p 0) here stubs (record { starts = starts; waits = waits })
      stands_first = record {
        starts_size = ap length starts_are ∙ length-map here (λ (e : Event). e.min_start);
        waits_size = adds.size ∙ counts.size;
        waits = λ place e h. wait_at place e h;
        starts = λ place e h.
            let same : e.min_start ≡ start_at events p domain (at_rest_with p 0) place e stubs = omega (arith, own_zero e.first, own_zero e.second, told_zero place) in
            ap (λ (xs : List ℕ). slice_get xs place) starts_are ∙ (start_there here place e h ∙ ap (λ n. Some n) same);
        finished = λ place e h fired. absurd (false≢true fired);
        agree = λ i j s t x y a b xs ys es et parents. absurd (false≢true (sym (unknown_all i s a) ∙ es));
      }

      pub counted_first : fired_in waits ≡ 0
      counted_first =
          none_fired waits (λ j v h.
          let l : j < length here = omega (arith, get_below waits j v h, adds.size, counts.size) in
          let f : (w : ℕ) × (slice_get first j ≡ Some w) = get_there first j (omega (arith, l, counts.size)) in
          let same : f.0 + unknown_into j stubs ≡ v = same_Some (f.0 + unknown_into j stubs) v (sym (adds.each j f.0 f.1) ∙ h) in
          omega (arith, same, (has_waits first counts).few j f.0 f.1, unknown_few j stubs, few_stubs))
