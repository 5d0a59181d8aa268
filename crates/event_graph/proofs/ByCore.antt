-- The events of a core do not depend on where its accesses stand among those of other cores.
use Rattle.std.proofs.Common.{◌≡◌, ◌+◌, ◌-◌, ◌<◌, ◌==◌, ℕ, Bool, true, false, cond, List, [], ◌∷◌, ◌++◌, map, length, fold, Option, Some, None, inl, inr, sym, ◌∙◌, ap, refl, arith, if◌then◌else◌}
use Rattle.std.specs.Prelude.{nat_lt}
use Rattle.std.specs.List.{enumerate_from, filter, last_or, slice_get}
use Rattle.std.specs.Option.{option_map}
use Rattle.std.proofs.lemmas.Bool.{cases_Bool, cond-true, cond-false, cond_both, eqb-true, lt-ltb}
use Rattle.std.proofs.lemmas.Bool.Decides.{nat_tests}
use Rattle.std.proofs.lemmas.List.{append-nil, map-append}
use Rattle.std.proofs.lemmas.List.Elements.{filter-append}
use Rattle.zs_num.specs.declared.entry.Entry.{Entry}
use Rattle.event_graph.specs.declared.event.Event.{Event}
use Rattle.event_graph.specs.declared.event.Parent.{Parent}
use Rattle.event_graph.specs.declared.piece.Piece.{Piece}
use Rattle.event_graph.specs.Critical.{is_critical_of, last_critical}
use Rattle.event_graph.specs.EventGraph.{access_events, all_events, earlier_parent, event_at, inner_parent, parent_of, zero_load_finish, zero_load_start}
use Rattle.event_graph.specs.Expansion.{ParentsComeBefore}
use Rattle.event_graph.specs.Numbered.{IsNumbered}
use Rattle.event_graph.specs.OrderByCore.{accesses_of}
use Rattle.event_graph.specs.Renumbering.{renumbered, renumbered_parent}
use Rattle.event_graph.proofs.AllEvents.{critical_stands, numbered_more}
use Rattle.event_graph.proofs.Lists.{In, get_within, in_at, in_cases, map_same}

abbrev pub is_of_core : (core : ℕ) → Event → Bool
is_of_core core e = e.core == core

-- ---- filters and maps

filter_all : {X : Type 0} (p : X → Bool) (xs : List X) → ((x : X) → In x xs → p x ≡ true) → filter p xs ≡ xs
filter_all p [] h = refl
filter_all p (x ∷ xs) h = cond-true (p x) (x ∷ filter p xs) (filter p xs) (h x (inl refl)) ∙ ap (λ zs. x ∷ zs) (filter_all p xs (λ y m. h y (inr m)))

filter_none : {X : Type 0} (p : X → Bool) (xs : List X) → ((x : X) → In x xs → p x ≡ false) → filter p xs ≡ []
filter_none p [] h = refl
filter_none p (x ∷ xs) h = cond-false (p x) (x ∷ filter p xs) (filter p xs) (h x (inl refl)) ∙ filter_none p xs (λ y m. h y (inr m))

filter_map : {X Y : Type 0} (p : X → Bool) (q : Y → Bool) (f : X → Y) (xs : List X) → ((x : X) → q (f x) ≡ p x) → filter q (map f xs) ≡ map f (filter p xs)
filter_map p q f [] h = refl
filter_map p q f (x ∷ xs) h =
    elim (cases_Bool (p x)) [
      | inl t ↦
          cond-true (q (f x)) (f x ∷ filter q (map f xs)) (filter q (map f xs)) (h x ∙ t)
          ∙ (ap (λ zs. f x ∷ zs) (filter_map p q f xs h) ∙ ap (map f) (sym (cond-true (p x) (x ∷ filter p xs) (filter p xs) t)))
      | inr t ↦
          cond-false (q (f x)) (f x ∷ filter q (map f xs)) (filter q (map f xs)) (h x ∙ t)
          ∙ (filter_map p q f xs h ∙ ap (map f) (sym (cond-false (p x) (x ∷ filter p xs) (filter p xs) t)))
    ]

last_map : {X Y : Type 0} (f : X → Y) (o : Option X) (xs : List X) → last_or (option_map f o) (map f xs) ≡ option_map f (last_or o xs)
last_map f o [] = refl
last_map f o (x ∷ xs) = last_map f (Some x) xs

-- the critical events of a core are the critical ones of its own
abbrev critical_here : Event → Bool
critical_here e = e.critical

critical_of_own : (core : ℕ) (xs : List Event) → filter (is_critical_of core) xs ≡ filter critical_here (filter (is_of_core core) xs)
critical_of_own core [] = refl
critical_of_own core (x ∷ xs) =
    let rest : filter (is_critical_of core) xs ≡ filter critical_here (filter (is_of_core core) xs) = critical_of_own core xs in
    elim (cases_Bool (x.core == core)) [
      | inl own ↦
          rw (cond-true (x.core == core) (x ∷ filter (is_of_core core) xs) (filter (is_of_core core) xs) own)
          (elim (cases_Bool x.critical) [
            | inl t ↦
                cond-true (is_critical_of core x) (x ∷ filter (is_critical_of core) xs) (filter (is_critical_of core) xs) (cc)
                ∙ (ap (λ zs. x ∷ zs) rest ∙ sym (cond-true x.critical (x ∷ filter critical_here (filter (is_of_core core) xs)) (filter critical_here (filter (is_of_core core) xs)) t))
            | inr f ↦
                cond-false (is_critical_of core x) (x ∷ filter (is_critical_of core) xs) (filter (is_critical_of core) xs) (cc)
                ∙ (rest ∙ sym (cond-false x.critical (x ∷ filter critical_here (filter (is_of_core core) xs)) (filter critical_here (filter (is_of_core core) xs)) f))
          ])
      | inr other ↦
          rw (cond-false (x.core == core) (x ∷ filter (is_of_core core) xs) (filter (is_of_core core) xs) other)
          (elim (cases_Bool x.critical) [
            | inl t ↦ cond-false (is_critical_of core x) (x ∷ filter (is_critical_of core) xs) (filter (is_critical_of core) xs) (cc) ∙ rest
            | inr f ↦ cond-false (is_critical_of core x) (x ∷ filter (is_critical_of core) xs) (filter (is_critical_of core) xs) (cc) ∙ rest
          ])
    ]

pub same_numbers : (e : Event) (n m : ℕ) (f g s t : Option Parent) → n ≡ m → f ≡ g → s ≡ t
    → record e { number = n; first = f; second = s } ≡ record e { number = m; first = g; second = t }
same_numbers e n m f g s t a b c =
    let one : ℕ → Event = λ k. record e { number = k; first = f; second = s } in
    let two : Option Parent → Event = λ k. record e { number = m; first = k; second = s } in
    let three : Option Parent → Event = λ k. record e { number = m; first = g; second = k } in
    ap one a ∙ (ap two b ∙ ap three c)

not_below : (n k : ℕ) → nat_lt (n + k) n ≡ false
not_below n k = grind (arith, nat_tests)

-- ---- one core's events among all

-- the events of the core are these under the numbers that they have among all
abbrev pub Shows : (core : ℕ) → (events own : List Event) → Type 0
Shows core events own = (pos : ℕ → ℕ) × (filter (is_of_core core) events ≡ map (renumbered pos) own)

module _ (pieces : Entry → List Piece) (law : (e : Entry) → ParentsComeBefore (pieces e)) (core : ℕ) where
  abbrev grown : List Event → Entry → List Event
  grown before e = before ++ access_events before e (pieces e)

  abbrev AreOwn : List Event → Type 0
  AreOwn own = (x : Event) → In x own → (x.core == core) ≡ true

  -- the events of an access are of its core
  made_for : (before : List Event) (e : Entry) (b : Bool) → (e.core == core) ≡ b → (x : Event) (ats : List (ℕ × Piece)) → In x (map (λ at. event_at before e (pieces e) at.0 at.1) ats) → (x.core == core) ≡ b
  made_for before e b is x [] m = absurd m
  made_for before e b is x (at ∷ ats) m = elim m [ inl same ↦ ap (λ (y : Event). y.core == core) (sym same) ∙ is | inr rest ↦ made_for before e b is x ats rest ]

  of_its_core : (before : List Event) (e : Entry) (b : Bool) → (e.core == core) ≡ b → (x : Event) → In x (access_events before e (pieces e)) → (x.core == core) ≡ b
  of_its_core before e b is x m = made_for before e b is x (enumerate_from 0 (pieces e)) m

  own_more : (own : List Event) (e : Entry) → AreOwn own → (e.core == core) ≡ true → AreOwn (grown own e)
  own_more own e old is x m = elim (in_cases x own (access_events own e (pieces e)) m) [ inl a ↦ old x a | inr b ↦ of_its_core own e true is x b ]

  -- an access of another core changes nothing
  other_access : (before own : List Event) (e : Entry) → (e.core == core) ≡ false → Shows core before own → Shows core (grown before e) own
  other_access before own e is s = (
    s.0,
    filter-append (is_of_core core) before (access_events before e (pieces e))
        ∙ (ap (λ zs. filter (is_of_core core) before ++ zs) (filter_none (is_of_core core) (access_events before e (pieces e)) (of_its_core before e false is))
        ∙ (append-nil (filter (is_of_core core) before) ∙ s.1)),
  )

  -- an access of the core
  module _ (before own : List Event) (e : Entry) (numbered : IsNumbered own) (all_own : AreOwn own) (is : (e.core == core) ≡ true) (s : Shows core before own) where
    -- the numbers with the new events
    abbrev pos : ℕ → ℕ
    pos j = cond (nat_lt j (length own)) (s.0 j) (length before + (j - length own))

    pos_old : (j : ℕ) → j < length own → pos j ≡ s.0 j
    pos_old j below = cond-true (nat_lt j (length own)) (s.0 j) (length before + (j - length own)) (lt-ltb j (length own) below)

    pos_new : (k : ℕ) → pos (length own + k) ≡ length before + k
    pos_new k =
        cond-false (nat_lt (length own + k) (length own)) (s.0 (length own + k)) (length before + (length own + k - length own)) (not_below (length own) k)
        ∙ ap (λ n. length before + n) (omega arith)

    old_parent : (o : Option Parent) → ((p : Parent) → o ≡ Some p → p.number < length own) → renumbered_parent s.0 o ≡ renumbered_parent pos o
    old_parent None h = refl
    old_parent (Some p) h = ap (λ n. Some (record { number = n; delay = p.delay })) (sym (pos_old p.number (h p refl)))

    old_event : (x : Event) → In x own → renumbered s.0 x ≡ renumbered pos x
    old_event x m =
        let at : (i : ℕ) × (slice_get own i ≡ Some x) = in_at x own m in
        let within : at.0 < length own = get_within own at.0 x at.1 in
        same_numbers x (s.0 x.number) (pos x.number) (renumbered_parent s.0 x.first) (renumbered_parent pos x.first) (renumbered_parent s.0 x.second) (renumbered_parent pos x.second)
        (sym (pos_old x.number (omega (arith, within, numbered.number at.0 x at.1))))
        (old_parent x.first (λ p k. omega (arith, within, numbered.first at.0 x p at.1 k)))
        (old_parent x.second (λ p k. omega (arith, within, numbered.second at.0 x p at.1 k)))

    -- the last critical event is the same
    last_same : last_critical core before ≡ option_map (renumbered s.0) (last_critical core own)
    last_same =
        ap (last_or None) (critical_of_own core before ∙ (ap (filter critical_here) s.1 ∙ filter_map critical_here critical_here (renumbered s.0) own (λ x. refl)))
        ∙ (last_map (renumbered s.0) None (filter critical_here own)
        ∙ ap (λ xs. option_map (renumbered s.0) (last_or None xs)) (sym (critical_of_own core own ∙ ap (filter critical_here) (filter_all (is_of_core core) own all_own))))

    earlier_by : (start : ℕ) (o : Option Event) → ((x : Event) → o ≡ Some x → x.number < length own)
        → option_map (λ (x : Event). parent_of x.number x.min_finish start) (option_map (renumbered s.0) o) ≡ renumbered_parent pos (option_map (λ (x : Event). parent_of x.number x.min_finish start) o)
    earlier_by start None h = refl
    earlier_by start (Some x) h = ap (λ n. Some (parent_of n x.min_finish start)) (sym (pos_old x.number (h x refl)))

    last_below : (x : Event) → last_critical core own ≡ Some x → x.number < length own
    last_below x found =
        let at : (n : ℕ) × (slice_get own n ≡ Some x) = critical_stands core own x found in
        omega (arith, get_within own at.0 x at.1, numbered.number at.0 x at.1)

    earlier_same : (start : ℕ) → earlier_parent before core start ≡ renumbered_parent pos (earlier_parent own core start)
    earlier_same start = ap (option_map (λ (x : Event). parent_of x.number x.min_finish start)) last_same ∙ earlier_by start (last_critical core own) last_below

    inner_by : (i start : ℕ) (o : Option Piece)
        → option_map (λ q. parent_of (length before + i) (zero_load_finish e q) start) o ≡ renumbered_parent pos (option_map (λ q. parent_of (length own + i) (zero_load_finish e q) start) o)
    inner_by i start None = refl
    inner_by i start (Some q) = ap (λ n. Some (parent_of n (zero_load_finish e q) start)) (sym (pos_new i))

    inner_same : (start : ℕ) (place : Option ℕ) → inner_parent (length before) e (pieces e) start place ≡ renumbered_parent pos (inner_parent (length own) e (pieces e) start place)
    inner_same start None = refl
    inner_same start (Some i) = inner_by i start (slice_get (pieces e) i)

    first_same : (b : Bool) (start : ℕ) (place : Option ℕ)
        → (if b then earlier_parent before e.core start else inner_parent (length before) e (pieces e) start place)
        ≡ renumbered_parent pos (if b then earlier_parent own e.core start else inner_parent (length own) e (pieces e) start place)
    first_same true start place = rw (eqb-true e.core core is) (earlier_same start)
    first_same false start place = inner_same start place

    new_event : (k : ℕ) (p : Piece) → event_at before e (pieces e) k p ≡ renumbered pos (event_at own e (pieces e) k p)
    new_event k p =
        same_numbers (event_at own e (pieces e) k p) (length before + k) (pos (length own + k))
        (event_at before e (pieces e) k p).first (renumbered_parent pos (event_at own e (pieces e) k p).first)
        (event_at before e (pieces e) k p).second (renumbered_parent pos (event_at own e (pieces e) k p).second)
        (sym (pos_new k)) (first_same (k == 0) (zero_load_start e p) p.first) (inner_same (zero_load_start e p) p.second)

    new_events : (ats : List (ℕ × Piece)) → map (λ at. event_at before e (pieces e) at.0 at.1) ats ≡ map (renumbered pos) (map (λ at. event_at own e (pieces e) at.0 at.1) ats)
    new_events [] = refl
    new_events (at ∷ ats) =
        let head : event_at before e (pieces e) at.0 at.1 ≡ renumbered pos (event_at own e (pieces e) at.0 at.1) = new_event at.0 at.1 in
        let tail : map (λ at. event_at before e (pieces e) at.0 at.1) ats ≡ map (renumbered pos) (map (λ at. event_at own e (pieces e) at.0 at.1) ats) = new_events ats in
        ap (λ z. z ∷ map (λ at. event_at before e (pieces e) at.0 at.1) ats) head ∙ ap (λ zs. renumbered pos (event_at own e (pieces e) at.0 at.1) ∷ zs) tail

    own_access : Shows core (grown before e) (grown own e)
    own_access = (
      pos,
      filter-append (is_of_core core) before (access_events before e (pieces e))
          ∙ (ap (λ zs. zs ++ filter (is_of_core core) (access_events before e (pieces e))) (s.1 ∙ map_same (renumbered s.0) (renumbered pos) own old_event)
          ∙ (ap (λ zs. map (renumbered pos) own ++ zs) (filter_all (is_of_core core) (access_events before e (pieces e)) (of_its_core before e true is) ∙ new_events (enumerate_from 0 (pieces e)))
          ∙ sym (map-append (renumbered pos) own (access_events own e (pieces e))))),
    )

  shows_from : (entries : List Entry) (before own : List Event) → IsNumbered own → AreOwn own → Shows core before own
      → Shows core (fold grown before entries) (fold grown own (accesses_of core entries))
  shows_from [] before own numbered all_own s = s
  shows_from (e ∷ entries) before own numbered all_own s =
      cond_both (e.core == core) (e ∷ accesses_of core entries) (accesses_of core entries) (λ es. Shows core (fold grown (grown before e) entries) (fold grown own es))
      (λ is. shows_from entries (grown before e) (grown own e) (numbered_more pieces law own e numbered) (own_more own e all_own is) (own_access before own e numbered all_own is s))
      (λ is. shows_from entries (grown before e) own numbered all_own (other_access before own e is s))

  -- among the events of all accesses, those of the core are the events of its own accesses
  pub shows_own : (entries : List Entry) → Shows core (all_events pieces entries) (all_events pieces (accesses_of core entries))
  shows_own entries =
      shows_from entries [] [] (record { number = λ i ev is. cc; first = λ i ev par is. cc; second = λ i ev par is. cc }) (λ x m. absurd m) (λ j. j, refl)
