-- The events of a core start in order of their numbers, and so they fire.
use Rattle.std.proofs.Common.{◌≡◌, ◌+◌, ◌-◌, ◌<◌, ◌≤◌, ◌==◌, ℕ, zero, suc, Bool, true, List, [], ◌∷◌, ◌++◌, length, map, take, Option, Some, None, ◌⊎◌, inl, inr, get_or, sym, ◌∙◌, ap, subst, refl, arith, max, fold, length-append}
use Rattle.std.specs.Prelude.{IsSome, IsTrue}
use Rattle.std.specs.List.{enumerate_from, filter, slice_get}
use Rattle.std.specs.Option.{option_map}
use Rattle.std.proofs.Math.Dec.{eqb-suc-zero}
use Rattle.std.proofs.lemmas.Bool.{cases_lt, cond-false, cond_both, eq-eqb, eqb-true, and_from}
use Rattle.std.proofs.lemmas.Option.{slice_get-map, slice_get_within}
use Rattle.component.specs.declared.kind.Kind.{Kind}
use Rattle.zs_num.specs.declared.entry.Entry.{Entry}
use Rattle.event_graph.specs.declared.event.Event.{Event}
use Rattle.event_graph.specs.declared.event.Parent.{Parent}
use Rattle.event_graph.specs.declared.piece.Piece.{Piece}
use Rattle.event_graph.specs.Critical.{is_critical_of, last_critical}
use Rattle.event_graph.specs.EventGraph.{access_events, all_events, earlier_parent, event_at, inner_parent, parent_of, zero_load_finish, zero_load_start}
use Rattle.event_graph.specs.Expansion.{OnlyFirstStartsAlone, ParentsComeBefore}
use Rattle.event_graph.specs.Firing.{FiresNext}
use Rattle.event_graph.specs.Fits.{GraphFits}
use Rattle.event_graph.specs.InARow.{AreInARow, BeginTogether}
use Rattle.event_graph.specs.Numbered.{IsNumbered}
use Rattle.event_graph.specs.OneListWeave.{FiredEvent, after_firings, after_parent, finish_in, finish_or_zero, is_fired, start_of, weave, find_fired}
use Rattle.event_graph.specs.OrderByCore.{accesses_of}
use Rattle.event_graph.specs.Renumbering.{renumbered, renumbered_parent}
use Rattle.event_graph.proofs.AllEvents.{all_numbered, joined, mapped_some, of_access, numbered_more}
use Rattle.event_graph.proofs.ByCore.{Shows, is_of_core, shows_own}
use Rattle.event_graph.proofs.Lists.{in_contains, In, at_in, get_within, in_at, in_left, in_map, read_is, from_filter, get_some, in_push, in_push_cases}
use Rattle.event_graph.proofs.BetweenFirings.{HoldsBetween, IsLawful, IsServed}
use Rattle.event_graph.proofs.ByComponent.{Before}
use Rattle.event_graph.proofs.FindFired.{after_first, after_second, fired_in, is_fired_from_in}
use Rattle.event_graph.proofs.Fitting.{finishes_later}
use Rattle.event_graph.proofs.Indices.{slice_get_take}
use Rattle.event_graph.proofs.LastByCore.{last_at_end}
use Rattle.event_graph.proofs.Least.{same_event}
use Rattle.event_graph.proofs.Once.{first_of_weave}
use Rattle.event_graph.proofs.Order.{before_cases}
use Rattle.event_graph.proofs.Placed.{here}
use Rattle.event_graph.proofs.Ranks.{at_rank, rank, rank_rises}
use Rattle.event_graph.proofs.Solves.{held, timed_at}
use Rattle.event_graph.proofs.Theorem.{served_from}
use Rattle.std.proofs.lemmas.List.{length-map}
use Rattle.std.proofs.lemmas.List.FromFn.{length-enumerate_from}

-- ---- one event behind another

abbrev pub Waits : ℕ → Option Parent → Type 0
Waits number parent = (p : Parent) × ((parent ≡ Some p) × (p.number ≡ number))

-- they begin together
abbrev pub Same : Event → Event → Type 0
Same d e = (e.first ≡ d.first) × ((e.second ≡ d.second) × (e.min_start ≡ d.min_start))

-- one of the events, which begins with this one or is this one, is waited for
abbrev pub WaitsBeside : List Event → Event → Event → Type 0
WaitsBeside events d e = (c : Event) × (In c events × (Same d c × (Waits c.number e.first ⊎ Waits c.number e.second)))

-- the event begins with this one, or waits for it or for one that began with it
abbrev pub Follows : List Event → Event → Event → Type 0
Follows events d e = Same d e ⊎ WaitsBeside events d e

waits_renumbered : (to : ℕ → ℕ) (number : ℕ) (o : Option Parent) → Waits number o → Waits (to number) (renumbered_parent to o)
waits_renumbered to number o w = (record { number = to w.0.number; delay = w.0.delay }, (ap (renumbered_parent to) w.1.0, ap to w.1.1))

same_renumbered : (to : ℕ → ℕ) (d e : Event) → Same d e → Same (renumbered to d) (renumbered to e)
same_renumbered to d e same = (ap (renumbered_parent to) same.0, (ap (renumbered_parent to) same.1.0, same.1.1))

follows_renumbered : (to : ℕ → ℕ) (events : List Event) (d e : Event) → Follows events d e → Follows (map (renumbered to) events) (renumbered to d) (renumbered to e)
follows_renumbered to events d e f = elim f [
  | inl same ↦ inl (same_renumbered to d e same)
  | inr w ↦ inr (
    renumbered to w.0,
    (
      in_map (renumbered to) w.0 events w.1.0,
      (
        same_renumbered to d w.0 w.1.1.0,
        elim w.1.1.1 [
          | inl first ↦ inl (waits_renumbered to w.0.number e.first first)
          | inr second ↦ inr (waits_renumbered to w.0.number e.second second)
        ],
      ),
    ),
  )
]

follows_among_more : (events more : List Event) (d e : Event) → Follows events d e → Follows (events ++ more) d e
follows_among_more events more d e f = elim f [
  | inl same ↦ inl same
  | inr w ↦ inr (w.0, (in_left w.0 events more w.1.0, w.1.1))
]

plus_none : (r : ℕ) → r + 0 ≡ r
plus_none r = omega arith

plus_suc : (r k : ℕ) → r + suc k ≡ r + k + 1
plus_suc r k = omega arith

no_parent : (o : Option ℕ) → o ≡ None → IsSome o → ⊥
no_parent None is some = absurd (cc)
no_parent (Some n) is some = absurd (cc)

k_one : (k : ℕ) → k + 1 ≡ suc k
k_one k = omega arith

-- each event follows the one before it
abbrev pub Row : List Event → Type 0
Row events = (j : ℕ) (d e : Event) → slice_get events j ≡ Some d → slice_get events (j + 1) ≡ Some e → Follows events d e

module _ (pieces : Entry → List Piece) (law : (e : Entry) → ParentsComeBefore (pieces e)) (alone : (e : Entry) → OnlyFirstStartsAlone (pieces e)) (row : (e : Entry) → AreInARow (pieces e)) (core : ℕ) where
  abbrev grown : List Event → Entry → List Event
  grown before e = before ++ access_events before e (pieces e)

  inner_waits : (base : ℕ) (e : Entry) (start k : ℕ) (place : Option ℕ) (p : Piece) → place ≡ Some k → slice_get (pieces e) k ≡ Some p → Waits (base + k) (inner_parent base e (pieces e) start place)
  inner_waits base e start k place p is at = (
    parent_of (base + k) (zero_load_finish e p) start,
    (ap (inner_parent base e (pieces e) start) is ∙ ap (option_map (λ q. parent_of (base + k) (zero_load_finish e q) start)) at, refl),
  )

  -- behind the first of an access, parents are inner ones
  later_first : (before : List Event) (e : Entry) (k : ℕ) (p : Piece) → (event_at before e (pieces e) (suc k) p).first ≡ inner_parent (length before) e (pieces e) (zero_load_start e p) p.first
  later_first before e k p =
      cond-false (suc k == 0) (earlier_parent before e.core (zero_load_start e p)) (inner_parent (length before) e (pieces e) (zero_load_start e p) p.first) (eqb-suc-zero k)

  -- the first of an access begins with no other
  alone_first : (e : Entry) (k : ℕ) (p q : Piece) → slice_get (pieces e) 0 ≡ Some p → slice_get (pieces e) (suc k) ≡ Some q → q.first ≡ p.first → q.second ≡ p.second → ⊥
  alone_first e k p q pk qk first second =
      let none : (p.first ≡ None) × (p.second ≡ None) = (alone e).alone p pk in
      elim ((alone e).waits (suc k) q (omega arith) qk) [
        | inl some ↦ no_parent q.first (first ∙ none.0) some
        | inr some ↦ no_parent q.second (second ∙ none.1) some
      ]

  -- events of an access begin together where their pieces do
  together : (before : List Event) (e : Entry) (i k : ℕ) (p q : Piece) → slice_get (pieces e) i ≡ Some p → slice_get (pieces e) k ≡ Some q → BeginTogether p q
      → Same (event_at before e (pieces e) i p) (event_at before e (pieces e) k q)
  together before e zero zero p q pi qk same =
      let one : p ≡ q = cc in
      subst (λ x. Same (event_at before e (pieces e) 0 p) (event_at before e (pieces e) 0 x)) one (refl, (refl, refl))
  together before e zero (suc k) p q pi qk same = absurd (alone_first e k p q pi qk same.0 same.1.0)
  together before e (suc i) zero p q pi qk same = absurd (alone_first e i q p qk pi (sym same.0) (sym same.1.0))
  together before e (suc i) (suc k) p q pi qk same =
      let start : zero_load_start e q ≡ zero_load_start e p = ap (λ n. e.start + n) same.1.1 in (
        later_first before e k q
            ∙ (ap (λ n. inner_parent (length before) e (pieces e) n q.first) start
            ∙ (ap (inner_parent (length before) e (pieces e) (zero_load_start e p)) same.0 ∙ sym (later_first before e i p))),
        (
          ap (λ n. inner_parent (length before) e (pieces e) n q.second) start ∙ ap (inner_parent (length before) e (pieces e) (zero_load_start e p)) same.1.0,
          start,
        ),
      )

  -- within an access
  inner_follows : (before : List Event) (e : Entry) (k : ℕ) (p q : Piece) → slice_get (pieces e) k ≡ Some p → slice_get (pieces e) (suc k) ≡ Some q
      → Follows (grown before e) (event_at before e (pieces e) k p) (event_at before e (pieces e) (suc k) q)
  inner_follows before e k p q pk qk =
      elim (row e k p q pk (ap (slice_get (pieces e)) (k_one k) ∙ qk)) [
        | inl same ↦ inl (together before e k (suc k) p q pk qk same)
        | inr w ↦ inr (
          event_at before e (pieces e) w.place w.one,
          (
            at_in (event_at before e (pieces e) w.place w.one) (grown before e) (length before + w.place) (here pieces before e w.place w.one w.there),
            (
              together before e k w.place p w.one pk w.there w.together,
              elim w.waits [
                | inl first ↦
                    inl (subst (λ o. Waits (length before + w.place) o) (sym (later_first before e k q)) (inner_waits (length before) e (zero_load_start e q) w.place q.first w.one first w.there))
                | inr second ↦ inr (inner_waits (length before) e (zero_load_start e q) w.place q.second w.one second w.there)
              ],
            ),
          ),
        )
      ]

  -- the last event is critical for the core
  abbrev Ends : List Event → Type 0
  Ends own = (d : Event) → slice_get own (length own - 1) ≡ Some d → is_critical_of core d ≡ true

  as_many : (own : List Event) (e : Entry) → length (access_events own e (pieces e)) ≡ length (pieces e)
  as_many own e = length-map (enumerate_from 0 (pieces e)) (λ at. event_at own e (pieces e) at.0 at.1) ∙ length-enumerate_from 0 (pieces e)

  row_new : (own : List Event) (e : Entry) → IsNumbered own → (e.core == core) ≡ true → Ends own → (j : ℕ) (d f : Event) → slice_get (grown own e) j ≡ Some d
      → (m : ℕ) → j + 1 ≡ length own + m → (q : Piece) × (slice_get (pieces e) m ≡ Some q) × (f ≡ event_at own e (pieces e) m q) → Follows (grown own e) d f
  row_new own e numbered is ends j d f dj zero place made =
      elim (joined own (access_events own e (pieces e)) j d dj) [
        | inl old ↦
            let end : j ≡ length own - 1 = omega (arith, place) in
            let at : slice_get own (length own - 1) ≡ Some d = subst (λ i. slice_get own i ≡ Some d) end old in
            let last : last_critical core own ≡ Some d = last_at_end core own numbered d at (ends d at) in
            let first : (event_at own e (pieces e) 0 made.0).first ≡ Some (parent_of d.number d.min_finish (zero_load_start e made.0)) =
            ap (λ c. option_map (λ (x : Event). parent_of x.number x.min_finish (zero_load_start e made.0)) (last_critical c own)) (eqb-true e.core core is)
            ∙ ap (option_map (λ (x : Event). parent_of x.number x.min_finish (zero_load_start e made.0))) last
            in
            let waits : Waits d.number (event_at own e (pieces e) 0 made.0).first = (parent_of d.number d.min_finish (zero_load_start e made.0), (first, refl)) in
            let among : In d (grown own e) = at_in d (grown own e) j dj in
            subst (Follows (grown own e) d) (sym made.2) (inr (d, (among, ((refl, (refl, refl)), inl waits))))
        | inr new ↦ absurd (omega (arith, place, new.1))
      ]
  row_new own e numbered is ends j d f dj (suc k) place made =
      elim (joined own (access_events own e (pieces e)) j d dj) [
        | inl old ↦ absurd (omega (arith, place, slice_get_within own j d old))
        | inr new ↦
            let earlier : (p : Piece) × (slice_get (pieces e) new.0 ≡ Some p) × (d ≡ event_at own e (pieces e) new.0 p) = of_access own e (pieces e) new.0 d new.2 in
            let one : new.0 ≡ k = omega (arith, place, new.1) in
            let at : slice_get (pieces e) k ≡ Some earlier.0 = subst (λ i. slice_get (pieces e) i ≡ Some earlier.0) one earlier.1 in
            let was : d ≡ event_at own e (pieces e) k earlier.0 = subst (λ i. d ≡ event_at own e (pieces e) i earlier.0) one earlier.2 in
            subst (λ x. Follows (grown own e) x f) (sym was) (subst (Follows (grown own e) (event_at own e (pieces e) k earlier.0)) (sym made.2) (inner_follows own e k earlier.0 made.0 at made.1))
      ]

  row_more : (own : List Event) (e : Entry) → IsNumbered own → (e.core == core) ≡ true → Row own → Ends own → Row (grown own e)
  row_more own e numbered is so_far ends j d f dj fj =
      elim (joined own (access_events own e (pieces e)) (j + 1) f fj) [
        | inl old ↦ elim (joined own (access_events own e (pieces e)) j d dj) [
          | inl older ↦ follows_among_more own (access_events own e (pieces e)) d f (so_far j d f older old)
          | inr new ↦ absurd (omega (arith, slice_get_within own (j + 1) f old, new.1))
        ]
        | inr new ↦ row_new own e numbered is ends j d f dj new.0 new.1 (of_access own e (pieces e) new.0 f new.2)
      ]

  ends_more : (own : List Event) (e : Entry) → (e.core == core) ≡ true → Ends own → Ends (grown own e)
  ends_more own e is ends d at =
      elim (joined own (access_events own e (pieces e)) (length (grown own e) - 1) d at) [
        | inl old ↦
            let below : length (grown own e) - 1 < length own = slice_get_within own (length (grown own e) - 1) d old in
            let none : length (grown own e) - 1 ≡ length own - 1 = omega (arith, below, length-append own (access_events own e (pieces e))) in
            ends d (subst (λ i. slice_get own i ≡ Some d) none old)
        | inr new ↦
            let made : (p : Piece) × (slice_get (pieces e) new.0 ≡ Some p) × (d ≡ event_at own e (pieces e) new.0 p) = of_access own e (pieces e) new.0 d new.2 in
            let within : new.0 < length (pieces e) = slice_get_within (pieces e) new.0 made.0 made.1 in
            let end : new.0 + 1 ≡ length (pieces e) = omega (arith, within, new.1, as_many own e, length-append own (access_events own e (pieces e))) in
            subst (λ x. is_critical_of core x ≡ true) (sym made.2) (and_from (new.0 + 1 == length (pieces e)) (e.core == core) (eq-eqb (new.0 + 1) (length (pieces e)) end) is)
      ]

  row_from : (entries : List Entry) (own : List Event) → IsNumbered own → Row own → Ends own → Row (fold grown own (accesses_of core entries))
  row_from [] own numbered so_far ends = so_far
  row_from (e ∷ entries) own numbered so_far ends =
      cond_both (e.core == core) (e ∷ accesses_of core entries) (accesses_of core entries) (λ es. Row (fold grown own es))
      (λ is. row_from entries (grown own e) (numbered_more pieces law own e numbered) (row_more own e numbered is so_far ends) (ends_more own e is ends))
      (λ _. row_from entries own numbered so_far ends)

  row_own : (entries : List Entry) → Row (all_events pieces (accesses_of core entries))
  row_own entries = row_from entries [] (record { number = λ i ev is. cc; first = λ i ev par is. cc; second = λ i ev par is. cc }) (λ j d e dj ej. cc) (λ d at. cc)

  -- among all events, those of the core are in a row
  pub row_among : (entries : List Entry) → Row (filter (is_of_core core) (all_events pieces entries))
  row_among entries j d e dj ej =
      let s : Shows core (all_events pieces entries) (all_events pieces (accesses_of core entries)) = shows_own pieces law core entries in
      let own : List Event = all_events pieces (accesses_of core entries) in
      let a : (x : Event) × (slice_get own j ≡ Some x) × (d ≡ renumbered s.0 x) =
      mapped_some (renumbered s.0) (slice_get own j) d (sym (slice_get-map (renumbered s.0) own j) ∙ (ap (λ xs. slice_get xs j) (sym s.1) ∙ dj))
      in
      let b : (x : Event) × (slice_get own (j + 1) ≡ Some x) × (e ≡ renumbered s.0 x) =
      mapped_some (renumbered s.0) (slice_get own (j + 1)) e (sym (slice_get-map (renumbered s.0) own (j + 1)) ∙ (ap (λ xs. slice_get xs (j + 1)) (sym s.1) ∙ ej))
      in
      let shown : List Event = filter (is_of_core core) (all_events pieces entries) in
      let follows : Follows shown (renumbered s.0 a.0) (renumbered s.0 b.0) =
      subst (λ xs. Follows xs (renumbered s.0 a.0) (renumbered s.0 b.0)) (sym s.1) (follows_renumbered s.0 own a.0 b.0 (row_own entries j a.0 b.0 a.1 b.1))
      in
      subst (λ x. Follows shown x e) (sym a.2) (subst (Follows shown (renumbered s.0 a.0)) (sym b.2) follows)

-- ---- starts and firings

taken : {X : Type 0} (n : ℕ) (xs : List X) (i : ℕ) (x : X) → slice_get (take n xs) i ≡ Some x → (i < n) × (slice_get xs i ≡ Some x)
taken zero xs i x at = absurd (cc)
taken (suc n) [] i x at = absurd (cc)
taken (suc n) (y ∷ ys) zero x at = (omega arith, at)
taken (suc n) (y ∷ ys) (suc i) x at = let r : (i < n) × (slice_get ys i ≡ Some x) = taken n ys i x at in (omega (arith, r.0), r.1)

module _ {C : Type 0} (serves : C → Kind → Bool) (floor : C → Kind → ℕ) (stepped : C → Kind → ℕ → C × ℕ) (lawful : IsLawful serves stepped)
    (floor_stays : (c : C) (kind : Kind) (start : ℕ) (other : Kind) → IsTrue (serves c kind) → floor (stepped c kind start).0 other ≡ floor c other)
    (pieces : Entry → List Piece) (law : (e : Entry) → ParentsComeBefore (pieces e)) (alone : (e : Entry) → OnlyFirstStartsAlone (pieces e)) (row : (e : Entry) → AreInARow (pieces e))
    (entries : List Entry) (comps : List C) (fits : GraphFits serves floor (all_events pieces entries) comps) where
  abbrev events : List Event
  events = all_events pieces entries

  numbered : IsNumbered events
  numbered = all_numbered pieces law entries

  abbrev all_fired_events : List FiredEvent
  all_fired_events = (weave stepped events comps).fired

  between : HoldsBetween serves stepped events comps (weave stepped events comps)
  between = held serves stepped events comps lawful numbered (served_from serves floor stepped events comps fits)

  abbrev begins : Event → ℕ
  begins e = start_of (finish_in all_fired_events) e

  fired_as : (e : Event) → In e events → (x : FiredEvent) × ((find_fired all_fired_events e.number ≡ Some x) × (In x all_fired_events × (x.event ≡ e)))
  fired_as e m = timed_at serves stepped events comps lawful numbered (served_from serves floor stepped events comps fits) e m

  finishes_after : (e : Event) → In e events → begins e < finish_in all_fired_events e.number
  finishes_after e m =
      let x : (x : FiredEvent) × ((find_fired all_fired_events e.number ≡ Some x) × (In x all_fired_events × (x.event ≡ e))) = fired_as e m in
      let finish : finish_in all_fired_events e.number ≡ x.0.finish = ap finish_or_zero x.1.0 in
      let start : begins e ≡ x.0.start = ap begins (sym x.1.1.1) ∙ sym (between.starts x.0 x.1.1.0) in
      omega (arith, finish, start, finishes_later serves floor stepped lawful floor_stays events comps numbered fits (length events) x.0 x.1.1.0)

  waits_start : (d e : Event) → In d events → (p : Parent) → p.number ≡ d.number → finish_in all_fired_events p.number ≤ begins e → begins d ≤ begins e
  waits_start d e m p number after =
      omega (arith, finishes_after d m, after, ap (finish_in all_fired_events) number)

  same_start : (d e : Event) → Same d e → begins e ≡ begins d
  same_start d e same =
      ap (λ o. max e.min_start (max (after_parent (finish_in all_fired_events) o) (after_parent (finish_in all_fired_events) e.second))) same.0
      ∙ (ap (λ o. max e.min_start (max (after_parent (finish_in all_fired_events) d.first) (after_parent (finish_in all_fired_events) o))) same.1.0
      ∙ ap (λ n. max n (max (after_parent (finish_in all_fired_events) d.first) (after_parent (finish_in all_fired_events) d.second))) same.1.1)

  follows_start : (own : List Event) (d e : Event) → ((c : Event) → In c own → In c events) → Follows own d e → begins d ≤ begins e
  follows_start own d e among f = elim f [
    | inl same ↦ omega (arith, same_start d e same)
    | inr w ↦
        let c : Event = w.0 in
        let m : In c events = among c w.1.0 in
        let later : begins c ≤ begins e = elim w.1.1.1 [
          | inl first ↦ waits_start c e m first.0 first.1.1 (after_first (finish_in all_fired_events) e first.0 first.1.0)
          | inr second ↦ waits_start c e m second.0 second.1.1 (after_second (finish_in all_fired_events) e second.0 second.1.0)
        ] in
        omega (arith, same_start d c w.1.1.0, later)
  ]

  in_core : (core r : ℕ) (d : Event) → slice_get (filter (is_of_core core) events) r ≡ Some d → In d events
  in_core core r d at = (from_filter (is_of_core core) d events (at_in d (filter (is_of_core core) events) r at)).0

  starts_rise : (core r k : ℕ) (d e : Event) → slice_get (filter (is_of_core core) events) r ≡ Some d → slice_get (filter (is_of_core core) events) (r + k) ≡ Some e → begins d ≤ begins e
  starts_rise core r zero d e dr ek =
      let same : slice_get (filter (is_of_core core) events) r ≡ Some e = subst (λ i. slice_get (filter (is_of_core core) events) i ≡ Some e) (plus_none r) ek in
      let one : d ≡ e = cc in
      omega (arith, ap begins one)
  starts_rise core r (suc k) d e dr ek =
      let next : slice_get (filter (is_of_core core) events) (r + k + 1) ≡ Some e = subst (λ i. slice_get (filter (is_of_core core) events) i ≡ Some e) (plus_suc r k) ek in
      let f : (f : Event) × (slice_get (filter (is_of_core core) events) (r + k) ≡ Some f) =
      get_some (filter (is_of_core core) events) (r + k) (omega (arith, get_within (filter (is_of_core core) events) (r + k + 1) e next))
      in
      omega (arith, starts_rise core r k d f.0 dr f.1, follows_start (filter (is_of_core core) events) f.0 e (λ c m. (from_filter (is_of_core core) c events m).0) (row_among pieces law alone row core entries (r + k) f.0 e f.1 next))

  -- of two events of one core, the one with the lesser number starts no later
  start_in_order : (d e : Event) → In d events → In e events → d.core ≡ e.core → d.number < e.number → begins d ≤ begins e
  start_in_order d e md me core less =
      let a : (n : ℕ) × (slice_get events n ≡ Some d) = in_at d events md in
      let b : (n : ℕ) × (slice_get events n ≡ Some e) = in_at e events me in
      let p : Event → Bool = is_of_core e.core in
      let dp : p d ≡ true = eq-eqb d.core e.core core in
      let ep : p e ≡ true = eq-eqb e.core e.core refl in
      let up : rank p events a.0 < rank p events b.0 = rank_rises p events a.0 b.0 d a.1 dp (omega (arith, less, numbered.number a.0 d a.1, numbered.number b.0 e b.1)) in
      let apart : rank p events b.0 ≡ rank p events a.0 + (rank p events b.0 - rank p events a.0) = omega (arith, up) in
      starts_rise e.core (rank p events a.0) (rank p events b.0 - rank p events a.0) d e (at_rank p events a.0 d a.1 dp)
      (subst (λ i. slice_get (filter p events) i ≡ Some e) apart (at_rank p events b.0 e b.1 ep))

  -- and it fires first
  pub fire_in_order : (firings : ℕ) (d e : Event) → In d events → In e events → d.core ≡ e.core → d.number < e.number
      → is_fired (after_firings stepped events comps firings).fired e.number ≡ true → is_fired (after_firings stepped events comps firings).fired d.number ≡ true
  fire_in_order firings d e md me core less fired =
      let served : (z : Event) → In z events → IsServed serves comps z = served_from serves floor stepped events comps fits in
      let first : (after_firings stepped events comps firings).fired ≡ take firings all_fired_events = first_of_weave serves stepped events comps lawful numbered served firings in
      let x : (x : FiredEvent) × (In x (take firings all_fired_events) × (x.event.number ≡ e.number)) = fired_in (take firings all_fired_events) e.number (subst (λ xs. is_fired xs e.number ≡ true) first fired) in
      let i : (i : ℕ) × (slice_get (take firings all_fired_events) i ≡ Some x.0) = in_at x.0 (take firings all_fired_events) x.1.0 in
      let early : (i.0 < firings) × (slice_get all_fired_events i.0 ≡ Some x.0) = taken firings all_fired_events i.0 x.0 i.1 in
      let y : (y : FiredEvent) × ((find_fired all_fired_events d.number ≡ Some y) × (In y all_fired_events × (y.event ≡ d))) = fired_as d md in
      let j : (j : ℕ) × (slice_get all_fired_events j ≡ Some y.0) = in_at y.0 all_fired_events y.1.1.0 in
      let y_number : y.0.event.number ≡ d.number = ap (λ (z : Event). z.number) y.1.1.1 in
      elim (cases_lt j.0 firings) [
        | inl soon ↦
            let at : slice_get (take firings all_fired_events) j.0 ≡ Some y.0 = slice_get_take firings all_fired_events j.0 soon ∙ j.1 in
            subst (λ xs. is_fired xs d.number ≡ true) (sym first) (is_fired_from_in (take firings all_fired_events) y.0 d.number (at_in y.0 (take firings all_fired_events) j.0 at) y_number)
        | inr late ↦
            let order : Before x.0 y.0 =
            subst (λ z. Before z y.0) (read_is all_fired_events i.0 x.0 x.0 early.1)
            (subst (λ z. Before (get_or all_fired_events i.0 x.0) z) (read_is all_fired_events j.0 x.0 y.0 j.1)
            (between.in_order i.0 j.0 x.0 (omega (arith, early.0, late)) (get_within all_fired_events j.0 y.0 j.1)))
            in
            let xm : In x.0 all_fired_events = at_in x.0 all_fired_events i.0 early.1 in
            let x_event : x.0.event ≡ e = same_event events numbered x.0.event e (between.members x.0 xm) me x.1.1 in
            let rise : begins d ≤ begins e = start_in_order d e md me core less in
            let ys : y.0.start ≡ begins d = between.starts y.0 y.1.1.0 ∙ ap begins y.1.1.1 in
            let xs : x.0.start ≡ begins e = between.starts x.0 xm ∙ ap begins x_event in
            absurd (elim (before_cases x.0.event x.0.start y.0.event y.0.start order) [
              | inl earlier ↦ omega (arith, earlier, rise, ys, xs)
              | inr tie ↦ omega (arith, tie.1, less, x.1.1, y_number)
            ])
      ]

  -- what fires next has no unfired event of its core before it
  pub first_of_its_core : (firings : ℕ) (x : FiredEvent) (c : C) → FiresNext serves stepped events (after_firings stepped events comps firings) (after_firings stepped events comps (suc firings)) x c
      → (d : Event) → In d events → d.core ≡ x.event.core → d.number < x.event.number → is_fired (after_firings stepped events comps firings).fired d.number ≡ true
  first_of_its_core firings x c next d md core less =
      let now : In x (after_firings stepped events comps (suc firings)).fired =
      subst (λ xs. In x xs) (sym next.fired) (in_push (after_firings stepped events comps firings).fired x)
      in
      let fired : is_fired (after_firings stepped events comps (suc firings)).fired d.number ≡ true =
      fire_in_order (suc firings) d x.event md (in_contains x.event events next.next.event) core less
      (is_fired_from_in (after_firings stepped events comps (suc firings)).fired x x.event.number now refl)
      in
      let y : (y : FiredEvent) × (In y (after_firings stepped events comps (suc firings)).fired × (y.event.number ≡ d.number)) = fired_in (after_firings stepped events comps (suc firings)).fired d.number fired in
      elim (in_push_cases y.0 (after_firings stepped events comps firings).fired x (subst (λ xs. In y.0 xs) next.fired y.1.0)) [
        | inl old ↦ is_fired_from_in (after_firings stepped events comps firings).fired y.0 d.number old y.1.1
        | inr same ↦ absurd (omega (arith, less, y.1.1, ap (λ (z : FiredEvent). z.event.number) same))
      ]
