-- What is true of each event of an interval.
use Rattle.std.proofs.Common.{◌≡◌, ◌+◌, ◌-◌, ◌<◌, ◌≤◌, ℕ, Bool, true, false, zero, suc, List, [], ◌∷◌, ◌++◌, length, take, fold, Option, None, Some, refl, ap, ◌∙◌, sym, arith, subst, ◌⊎◌, inl, inr, zero-add, if◌then◌else◌, ◌==◌, length-append, sum_by, get_or, add_assoc}
use Rattle.std.specs.List.{All, slice_get, filter, last_or, enumerate_from}
use Rattle.std.specs.Option.{option_map}
use Rattle.std.proofs.Math.Dec.{eqb-suc-zero}
use Rattle.std.proofs.lemmas.Bool.{cases_lt, cond-false}
use Rattle.std.proofs.lemmas.List.{length-map}
use Rattle.std.proofs.lemmas.List.Elements.{All-head, All-tail}
use Rattle.std.proofs.lemmas.List.Sums.{sum_by_more_le, sum_by-cons}
use Rattle.std.proofs.lemmas.List.FromFn.{length-enumerate_from}
use Rattle.std.proofs.lemmas.Option.{slice_get_within, slice_get-map}
use Rattle.zs_num.specs.declared.entry.Entry.{Entry}
use Rattle.event_graph.specs.declared.event.Event.{Event}
use Rattle.event_graph.specs.declared.event.Parent.{Parent}
use Rattle.event_graph.specs.declared.piece.Piece.{Piece}
use Rattle.event_graph.specs.Numbered.{IsNumbered}
use Rattle.event_graph.specs.Critical.{is_critical_of, last_critical}
use Rattle.event_graph.specs.Expansion.{ParentsComeBefore}
use Rattle.event_graph.specs.EventGraph.{event_at, access_events, all_events, parent_of, zero_load_start, zero_load_finish, earlier_parent, inner_parent}
use Rattle.event_graph.proofs.Indices.{slice_get_left, slice_get_right, slice_get_enumerate}

-- what a map made of an option
pub mapped_some : {A B : Type 0} (f : A → B) (o : Option A) (y : B) → option_map f o ≡ Some y → (x : A) × (o ≡ Some x) × (y ≡ f x)
mapped_some f None y is = cc
mapped_some f (Some x) y is = (x, refl, cc)

-- an element of a joined list stands in one of the two
pub joined : {X : Type 0} (xs ys : List X) (i : ℕ) (x : X) → slice_get (xs ++ ys) i ≡ Some x
    → (slice_get xs i ≡ Some x) ⊎ ((j : ℕ) × (i ≡ length xs + j) × (slice_get ys j ≡ Some x))
joined xs ys i x is = elim (cases_lt i (length xs)) [
  | inl below ↦ inl (sym (slice_get_left xs ys i below) ∙ is)
  | inr past ↦
      let e : i ≡ length xs + (i - length xs) = omega arith in
      inr (i - length xs, e, sym (slice_get_right xs ys (i - length xs)) ∙ ap (slice_get (xs ++ ys)) (sym e) ∙ is)
]

-- an event of an access is that of a piece
pub of_access : (before : List Event) (e : Entry) (pieces : List Piece) (k : ℕ) (ev : Event) → slice_get (access_events before e pieces) k ≡ Some ev
    → (p : Piece) × (slice_get pieces k ≡ Some p) × (ev ≡ event_at before e pieces k p)
of_access before e pieces k ev is =
    let at_place : ℕ × Piece → Event = λ at. event_at before e pieces at.0 at.1 in
    let one = mapped_some at_place (slice_get (enumerate_from 0 pieces) k) ev (sym (slice_get-map at_place (enumerate_from 0 pieces) k) ∙ is) in
    let two = mapped_some (λ (x : Piece). (0 + k, x)) (slice_get pieces k) one.0 (sym (slice_get_enumerate 0 pieces k) ∙ one.1) in
    (two.0, two.1, one.2 ∙ ap at_place two.2 ∙ ap (λ (n : ℕ). event_at before e pieces n two.0) (zero-add k))

-- the last critical event of a core stands among the events
kept_by : {X : Type 0} (p : X → Bool) (y : X) (xs : List X) (x : X) → ((m : ℕ) → slice_get (filter p xs) m ≡ Some x → (n : ℕ) × (slice_get xs n ≡ Some x))
    → (b : Bool) (m : ℕ) → slice_get (if b then y ∷ filter p xs else filter p xs) m ≡ Some x → (n : ℕ) × (slice_get (y ∷ xs) n ≡ Some x)
kept_by p y xs x rest false m is = let found = rest m is in (suc found.0, found.1)
kept_by p y xs x rest true zero is = (0, is)
kept_by p y xs x rest true (suc m) is = let found = rest m is in (suc found.0, found.1)

kept_stands : {X : Type 0} (p : X → Bool) (xs : List X) (x : X) (m : ℕ) → slice_get (filter p xs) m ≡ Some x → (n : ℕ) × (slice_get xs n ≡ Some x)
kept_stands p [] x m is = cc
kept_stands p (y ∷ xs) x m is = kept_by p y xs x (kept_stands p xs x) (p y) m is

last_stands : {X : Type 0} (o : Option X) (xs : List X) (x : X) → last_or o xs ≡ Some x → (o ≡ Some x) ⊎ ((n : ℕ) × (slice_get xs n ≡ Some x))
last_stands o [] x is = inl is
last_stands o (y ∷ ys) x is = elim (last_stands (Some y) ys x is) [
  | inl same ↦ inr (0, same)
  | inr found ↦ inr (suc found.0, found.1)
]

pub critical_stands : (core : ℕ) (events : List Event) (e : Event) → last_critical core events ≡ Some e → (n : ℕ) × (slice_get events n ≡ Some e)
critical_stands core events e is = elim (last_stands None (filter (is_critical_of core) events) e is) [
  | inl none ↦ cc
  | inr found ↦ kept_stands (is_critical_of core) events e found.0 found.1
]

-- how many events there are
count_from : (pieces : Entry → List Piece) (before : List Event) (entries : List Entry)
    → length (fold (λ seen e. seen ++ access_events seen e (pieces e)) before entries) ≡ length before + sum_by (λ e. length (pieces e)) entries
count_from pieces before [] = omega arith
count_from pieces before (e ∷ entries) =
    let at_place : ℕ × Piece → Event = λ at. event_at before e (pieces e) at.0 at.1 in
    let one : length (before ++ access_events before e (pieces e)) ≡ length before + length (pieces e) =
    length-append before (access_events before e (pieces e))
    ∙ ap (λ (n : ℕ). length before + n) (length-map (enumerate_from 0 (pieces e)) at_place ∙ length-enumerate_from 0 (pieces e)) in
    count_from pieces (before ++ access_events before e (pieces e)) entries
    ∙ ap (λ (n : ℕ). n + sum_by (λ e. length (pieces e)) entries) one
    ∙ add_assoc (length before) (length (pieces e)) (sum_by (λ e. length (pieces e)) entries)
    ∙ ap (λ (n : ℕ). length before + n) (sym (sum_by-cons (λ (e : Entry). length (pieces e)) e entries))

pub count_events : (pieces : Entry → List Piece) (entries : List Entry) → length (all_events pieces entries) ≡ sum_by (λ e. length (pieces e)) entries
count_events pieces entries = count_from pieces [] entries ∙ zero-add (sum_by (λ e. length (pieces e)) entries)

-- the events of one access more are no more than all
among_all : (pieces : Entry → List Piece) (entries items : List Entry) (i : ℕ) (d : Entry) (seen : List Event) (len : ℕ)
    → items ≡ entries → i < length items → seen ≡ all_events pieces (take i entries) → len ≡ length seen
    → len + length (pieces (get_or items i d)) ≤ sum_by (λ e. length (pieces e)) entries
among_all pieces entries items i d seen len same below is long =
    let so_far : length seen ≡ sum_by (λ e. length (pieces e)) (take i entries) = ap length is ∙ count_events pieces (take i entries) in
    let inside : i < length entries = rw same at below in
    let within : sum_by (λ e. length (pieces e)) (take i entries) + length (pieces (get_or entries i d)) ≤ sum_by (λ e. length (pieces e)) entries =
    sum_by_more_le (λ (e : Entry). length (pieces e)) entries i d inside in
    rw same (omega arith)

-- .. so they are fewer than a number that all are fewer than
pub few_at : (pieces : Entry → List Piece) (entries items : List Entry) (i : ℕ) (d : Entry) (seen : List Event) (len many : ℕ)
    → items ≡ entries → i < length items → seen ≡ all_events pieces (take i entries) → len ≡ length seen
    → sum_by (λ e. length (pieces e)) entries < many → len + length (pieces (get_or items i d)) < many
few_at pieces entries items i d seen len many same below is long few = omega (arith, among_all pieces entries items i d seen len same below is long, few)

-- .. and within the room for all
pub room_at : (pieces : Entry → List Piece) (entries items : List Entry) (i : ℕ) (d : Entry) (seen : List Event) (len room : ℕ)
    → items ≡ entries → i < length items → seen ≡ all_events pieces (take i entries) → len ≡ length seen
    → sum_by (λ e. length (pieces e)) entries ≤ room → len + length (pieces (get_or items i d)) ≤ room
room_at pieces entries items i d seen len room same below is long there = omega (arith, among_all pieces entries items i d seen len same below is long, there)

-- the room for as many as were counted is that for all
pub room_counted : (pieces : Entry → List Piece) (entries items : List Entry) (count room : ℕ)
    → items ≡ entries → count ≡ sum_by (λ e. length (pieces e)) items → count ≤ room → sum_by (λ e. length (pieces e)) entries ≤ room
room_counted pieces entries items count room same is there = rw (sym same) (omega (arith, is, there))

-- where Q holds of each access, what is then true of the events of its pieces is true of all events
module _ (pieces : Entry → List Piece) (Q : Entry → Type 0) (R : Event → Type 0) (each : (before : List Event) (e : Entry) (k : ℕ) (p : Piece) → Q e → slice_get (pieces e) k ≡ Some p → R (event_at before e (pieces e) k p)) where
  every_from : (before : List Event) → ((i : ℕ) (ev : Event) → slice_get before i ≡ Some ev → R ev) → (entries : List Entry) → All Q entries
      → (i : ℕ) (ev : Event) → slice_get (fold (λ seen e. seen ++ access_events seen e (pieces e)) before entries) i ≡ Some ev → R ev
  every_from before so_far [] all i ev is = so_far i ev is
  every_from before so_far (e ∷ entries) all i ev is =
      every_from (before ++ access_events before e (pieces e))
      (λ j w at'. elim (joined before (access_events before e (pieces e)) j w at') [
        | inl old ↦ so_far j w old
        | inr new ↦
            let made = of_access before e (pieces e) new.0 w new.2 in
            subst R (sym made.2) (each before e new.0 made.0 (All-head Q e entries all) made.1)
      ])
      entries (All-tail Q e entries all) i ev is

  pub every_of : (entries : List Entry) → All Q entries → (i : ℕ) (ev : Event) → slice_get (all_events pieces entries) i ≡ Some ev → R ev
  every_of entries all i ev is = every_from [] (λ j w at'. cc) entries all i ev is

-- what is true of the events of each piece is true of all events
pub every : (pieces : Entry → List Piece) (R : Event → Type 0) → ((before : List Event) (e : Entry) (k : ℕ) (p : Piece) → slice_get (pieces e) k ≡ Some p → R (event_at before e (pieces e) k p))
    → (entries : List Entry) (i : ℕ) (ev : Event) → slice_get (all_events pieces entries) i ≡ Some ev → R ev
every pieces R each entries i ev is =
    every_of pieces (λ e. Unit {0}) R (λ before e k p any at'. each before e k p at') entries (λ k d below. tt) i ev is

-- the numbers of an interval's events
module _ (pieces : Entry → List Piece) (law : (e : Entry) → ParentsComeBefore (pieces e)) where
  earlier_below : (before : List Event) (core start : ℕ) (par : Parent) → IsNumbered before → earlier_parent before core start ≡ Some par → par.number < length before
  earlier_below before core start par numbered is =
      let from = mapped_some (λ (e : Event). parent_of e.number e.min_finish start) (last_critical core before) par is in
      let found = critical_stands core before from.0 from.1 in
      let number : from.0.number ≡ found.0 = numbered.number found.0 from.0 found.1 in
      let below : found.0 < length before = slice_get_within before found.0 from.0 found.1 in
      let same : par.number ≡ from.0.number = ap (λ (r : Parent). r.number) from.2 in
      omega arith

  inner_below : (base : ℕ) (e : Entry) (start k : ℕ) (o : Option ℕ) (par : Parent) → ((i : ℕ) → o ≡ Some i → i < k)
      → inner_parent base e (pieces e) start o ≡ Some par → par.number < base + k
  inner_below base e start k None par low is = cc
  inner_below base e start k (Some i) par low is =
      let from = mapped_some (λ (q : Piece). parent_of (base + i) (zero_load_finish e q) start) (slice_get (pieces e) i) par is in
      let same : par.number ≡ base + i = ap (λ (r : Parent). r.number) from.2 in
      let below : i < k = low i refl in
      omega arith

  first_below : (before : List Event) (e : Entry) (k : ℕ) (p : Piece) (par : Parent) → IsNumbered before → slice_get (pieces e) k ≡ Some p
      → (event_at before e (pieces e) k p).first ≡ Some par → par.number < length before + k
  first_below before e zero p par numbered at' is =
      let below : par.number < length before = earlier_below before e.core (zero_load_start e p) par numbered is in
      omega arith
  first_below before e (suc k) p par numbered at' is =
      let later : (suc k == 0) ≡ false = eqb-suc-zero k in
      inner_below (length before) e (zero_load_start e p) (suc k) p.first par (λ i from. (law e).first (suc k) p i at' from)
      (sym (cond-false (suc k == 0) (earlier_parent before e.core (zero_load_start e p)) (inner_parent (length before) e (pieces e) (zero_load_start e p) p.first) later) ∙ is)

  pub numbered_more : (before : List Event) (e : Entry) → IsNumbered before → IsNumbered (before ++ access_events before e (pieces e))
  numbered_more before e numbered = record {
    number = λ i ev is. elim (joined before (access_events before e (pieces e)) i ev is) [
      | inl old ↦ numbered.number i ev old
      | inr new ↦
          let made = of_access before e (pieces e) new.0 ev new.2 in
          ap (λ (w : Event). w.number) made.2 ∙ sym new.1
    ];
    first = λ i ev par is from. elim (joined before (access_events before e (pieces e)) i ev is) [
      | inl old ↦ numbered.first i ev par old from
      | inr new ↦
          let made = of_access before e (pieces e) new.0 ev new.2 in
          let below : par.number < length before + new.0 =
          first_below before e new.0 made.0 par numbered made.1 (sym (ap (λ (w : Event). w.first) made.2) ∙ from) in
          let position : i ≡ length before + new.0 = new.1 in
          omega arith
    ];
    second = λ i ev par is from. elim (joined before (access_events before e (pieces e)) i ev is) [
      | inl old ↦ numbered.second i ev par old from
      | inr new ↦
          let made = of_access before e (pieces e) new.0 ev new.2 in
          let below : par.number < length before + new.0 =
          inner_below (length before) e (zero_load_start e made.0) new.0 made.0.second par (λ j from'. (law e).second new.0 made.0 j made.1 from') (sym (ap (λ (w : Event). w.second) made.2) ∙ from) in
          let position : i ≡ length before + new.0 = new.1 in
          omega arith
    ];
  }

  numbered_from : (before : List Event) → IsNumbered before → (entries : List Entry) → IsNumbered (fold (λ seen e. seen ++ access_events seen e (pieces e)) before entries)
  numbered_from before numbered [] = numbered
  numbered_from before numbered (e ∷ entries) = numbered_from (before ++ access_events before e (pieces e)) (numbered_more before e numbered) entries

  pub all_numbered : (entries : List Entry) → IsNumbered (all_events pieces entries)
  all_numbered entries = numbered_from [] (record { number = λ i ev is. cc; first = λ i ev par is. cc; second = λ i ev par is. cc }) entries
