-- The table begins, seats are made, and seats are put together.
use Rattle.std.proofs.Common.{◌≡◌, ℕ, zero, suc, ◌+◌, ◌*◌, ◌<◌, ◌≤◌, ◌≢◌, ◌⊎◌, List, [], ◌∷◌, ◌++◌, length, replicate, All, refl, sym, ◌∙◌, ap, subst, arith, inl, inr}
use Rattle.std.specs.Prelude.{slice_get, slice_index, slice_index_or, slice_set, Option, Some, None}
use mathlib.Core.Option.{some, none, some-injective, some-ne-none}
use lib.ListN.{get_elem?}
use Rattle.std.proofs.lemmas.Bool.{cases_lt}
use Rattle.std.proofs.lemmas.List.{get_or-replicate, get_or_past, length-map, length-replicate}
use Rattle.std.proofs.lemmas.List.Elements.{All-append, All-cons, All-nil, All-weaker}
use Rattle.std.proofs.lemmas.Option.{same_Some}
use Rattle.atomic_table.specs.Table.{Joins, Splits, State, opening}
use Rattle.atomic_table.proofs.Lists.{at_longer, at_map, at_set}
use Rattle.parts_table.specs.declared.part.TimedPart.{TimedPart}
use Rattle.parts_table.specs.declared.view.CoreAccesses.{CoreAccesses}
use Rattle.parts_table.specs.declared.view.Made.{Made}
use Rattle.parts_table.specs.declared.view.View.{View}
use Rattle.parts_table.specs.Rule.{AreDistinct, AreHoldsAtTable, Has, HasOpened, Holds, IsTrueOfHistory, word_index}
use Rattle.parts_table.specs.TurnOrder.{by_core}
use Rattle.parts_table.specs.Views.{both, first_view, new_log, next_seat, spent, with_one_seat_more}
use Rattle.parts_table.specs.World.{MayAsk, some_part, world_of}
use Rattle.parts_table.proofs.ByCore.{none_own}
use Rattle.parts_table.proofs.Seats.{apart_stays, had, has_either, has_left, has_one, other_there}

-- ---- lists

pub elem_at : {X : Type 0} (xs : List X) (i : ℕ) (x : X) → slice_get xs i ≡ Some x → get_elem? xs i ≡ some x
elem_at [] i x at = absurd (let none : None ≡ Some x = at in cc)
elem_at (y ∷ xs) zero x at = let same : y ≡ x = same_Some y x at in ap some same
elem_at (y ∷ xs) (suc i) x at = elem_at xs i x at

at_end : {X : Type 0} (xs : List X) (a b : X) (j : ℕ) → get_elem? (xs ++ a ∷ []) j ≡ some b → (get_elem? xs j ≡ some b) ⊎ ((a ≡ b) × (j ≡ length xs))
at_end [] a b zero at = inr (some-injective a b at, refl)
at_end [] a b (suc j) at = absurd (some-ne-none b (sym at))
at_end (x ∷ xs) a b zero at = inl at
at_end (x ∷ xs) a b (suc j) at =
    elim (at_end xs a b j at) as (λ _. (get_elem? (x ∷ xs) (suc j) ≡ some b) ⊎ ((a ≡ b) × (suc j ≡ length (x ∷ xs)))) [
      | inl old ↦ inl old
      | inr new ↦ inr (new.0, ap suc new.1)
    ]

only_one : {X : Type 0} (a b : X) (j : ℕ) → get_elem? (a ∷ []) j ≡ some b → (a ≡ b) × (j ≡ 0)
only_one a b zero at = (some-injective a b at, refl)
only_one a b (suc j) at = absurd (some-ne-none b (sym at))

pub zeros : (n i : ℕ) → slice_index (replicate n 0) i ≡ 0
zeros n i =
    elim (cases_lt i n) [
      | inl within ↦ get_or-replicate n i 0 0 within
      | inr past ↦ get_or_past (replicate n 0) i 0 (omega (arith, past, length-replicate {A = ℕ} n 0))
    ]

some_log : (core : ℕ) (logs : List CoreAccesses) → Has core logs → 0 < length logs
some_log core [] has = absurd has
some_log core (log ∷ logs) has = omega arith

pub slot_is : {X : Type 0} (xs : List (Option X)) (i : ℕ) (x : Option X) → slice_get xs i ≡ Some x → slice_index_or xs i None ≡ x
slot_is [] i x at = absurd (let none : None ≡ Some x = at in cc)
slot_is (y ∷ xs) zero x at = same_Some y x at
slot_is (y ∷ xs) (suc i) x at = slot_is xs i x at

-- who holds a part is another than who holds none
pub holder_apart : (views : List View) (id : ℕ) (v : View) → get_elem? views id ≡ some v → v.holds ≡ [] → (place : ℕ) (u : View) (k : ℕ) → get_elem? views place ≡ some u → Holds k u.holds → place ≢ id
holder_apart views id v at none_held place u k there has same =
    let here : some u ≡ some v = sym there ∙ (ap (get_elem? views) same ∙ at) in
    let is : u ≡ v = cc in
    subst (Holds k) (ap (λ (z : View). z.holds) is ∙ none_held) has

pub distinct_both : (logs others : List CoreAccesses) → AreDistinct logs → AreDistinct others → ((core : ℕ) → Has core logs → Has core others → ⊥) → AreDistinct (logs ++ others)
distinct_both [] others one two apart = two
distinct_both (log ∷ logs) others one two apart = (
  (λ has. elim (has_either log.core logs others has) as (λ _. ⊥) [
    | inl left ↦ one.0 left
    | inr right ↦ apart log.core (inl refl) right
  ]),
  distinct_both logs others one.1 two (λ core has. apart core (inr has)),
)

module _ (parts : List (Option TimedPart)) (cores banks room : ℕ) where
  abbrev Rule : State (Option TimedPart) View → Type 0
  Rule = AreHoldsAtTable parts cores banks room

  -- ---- the beginning

  pub begins : HasOpened parts cores banks room → 0 < cores → Rule (opening (replicate (16 * (cores + banks + cores)) 0) parts (first_view parts cores banks room))
  begins opened some_cores =
      let v : View = first_view parts cores banks room in
      let words : List ℕ = replicate (16 * (cores + banks + cores)) 0 in
      record {
        history = [];
        opened = opened;
        accesses = record {
          asked = All-nil (λ (a : Made). MayAsk cores banks (world_of parts) a.entry.core a.entry.request);
          right = tt;
          low = λ part. (let is = no_time part in omega (arith, is));
          fits = λ core. omega arith;
        };
        words = length-replicate {A = ℕ} (16 * (cores + banks + cores)) 0;
        homes = length-map parts some_slot ∙ opened.count;
        home = λ part low free.
            let it = opened.there part low in
            at_map some_slot parts part (Some (world_of parts part)) (elem_at parts part (Some (world_of parts part)) (it.1 ∙ ap (λ (x : TimedPart). Some (Some x)) (sym (value_is part low))));
        busy = λ part low word. absurd (let free = zeros (16 * (cores + banks + cores)) (word_index part) in omega (arith, free, word));
        seats = λ place u at. subst (IsTrueOfHistory parts cores banks room [] words) (only_one v u place at).0 (record {
          begins = λ has. (refl, refl, refl, refl);
          logs = All-cons (λ (q : CoreAccesses). (q.core < cores) × (q.list ≡ by_core q.core [])) (new_log 0) [] (some_cores, refl) (All-nil (λ (q : CoreAccesses). (q.core < cores) × (q.list ≡ by_core q.core [])));
          distinct = ((λ no. no), tt);
          holds = λ some_holds. absurd (omega (arith, some_holds));
          first = λ made. inl refl;
        });
        apart = λ place other core u x here there has too. (only_one v u place here).1 ∙ sym (only_one v x other there).1;
        fresh = λ place u at made. (
          All-nil (λ a. a.entry.core < u.made),
          (λ other core x there has.
              let is : core ≡ 0 = sym (has_one core (new_log 0) (subst (λ (z : View). Has core z.logs) (sym (only_one v x other there).0) has)) in
              omega (arith, is, made)),
        );
      }
    where
      some_slot : Option TimedPart → mathlib.Core.Option.Option (Option TimedPart)
      some_slot slot = mathlib.Core.Option.some slot

      value_is : (part : ℕ) → (low : part < cores + banks) → world_of parts part ≡ (opened.there part low).0
      value_is part low = ap some_part (slot_is parts part (Some (opened.there part low).0) (opened.there part low).1)

      no_time : (part : ℕ) → (world_of parts part).time ≡ 0
      no_time part =
          elim (cases_lt part (cores + banks)) as (λ _. (world_of parts part).time ≡ 0) [
            | inl low ↦ ap (λ (x : TimedPart). x.time) (value_is part low) ∙ (opened.there part low).2
            | inr past ↦ ap (λ (x : Option TimedPart). (some_part x).time) (get_or_past parts part None (subst (λ (n : ℕ). n ≤ part) (sym opened.count) past))
          ]

  -- ---- one seat more

  module _ (s : State (Option TimedPart) View) (r : Rule s) (id : ℕ) (v : View) (at : get_elem? s.views id ≡ some v) (none_held : v.holds ≡ [])
      (made : 0 < v.made) (more : v.made < cores) where
    knows : IsTrueOfHistory parts cores banks room r.history s.words v
    knows = r.seats id v at

    abbrev new : View
    new = next_seat v

    abbrev views' : List View
    views' = slice_set s.views id (with_one_seat_more v)

    -- the first seat alone counts
    alone : (place : ℕ) (u : View) → get_elem? s.views place ≡ some u → 0 < u.made → place ≡ id
    alone place u there counted = r.apart place id 0 u v there at ((r.seats place u there).first counted) (knows.first made)

    old_cores : (place : ℕ) (u : View) → get_elem? views' place ≡ some u → (core : ℕ) → Has core u.logs → core < v.made
    old_cores place u there core has =
        let y = had s.views id v (with_one_seat_more v) at (λ c h. h) place u there core has in
        (r.fresh id v at made).1 place core y.0 y.1 y.2

    new_core : (core : ℕ) → Has core new.logs → core ≡ v.made
    new_core core has = sym (has_one core (new_log v.made) has)

    seat_rule : Rule (record { words = s.words; homes = s.homes; views = views' ++ new ∷ [] })
    seat_rule = record {
      history = r.history;
      opened = r.opened;
      accesses = r.accesses;
      words = r.words;
      homes = r.homes;
      home = r.home;
      busy = λ k inside word.
          let b = r.busy k inside word in
          let there : get_elem? views' b.0 ≡ some b.1 = other_there s.views id v (with_one_seat_more v) at b.0 (holder_apart s.views id v at none_held b.0 b.1 k b.2 b.3) ∙ b.2 in
          (b.0, b.1, at_longer views' (new ∷ []) b.0 b.1 there, b.3);
      seats = λ place u there.
          elim (at_end views' new u place there) as (λ _. IsTrueOfHistory parts cores banks room r.history s.words u) [
            | inl old ↦ elim (at_set s.views id place (with_one_seat_more v) u old) as (λ _. IsTrueOfHistory parts cores banks room r.history s.words u) [
              | inl first ↦ subst (IsTrueOfHistory parts cores banks room r.history s.words) first.1 (record {
                begins = knows.begins;
                logs = knows.logs;
                distinct = knows.distinct;
                holds = knows.holds;
                first = λ some. knows.first made;
              })
              | inr other ↦ r.seats place u other.1
            ]
            | inr last ↦ subst (IsTrueOfHistory parts cores banks room r.history s.words) last.0 (record {
              begins = λ some. knows.begins (some_log 0 v.logs (knows.first made));
              logs = All-cons (λ (q : CoreAccesses). (q.core < cores) × (q.list ≡ by_core q.core r.history)) (new_log v.made) []
                  (more, sym (none_own v.made r.history (All-weaker (λ a. a.entry.core < v.made) (λ a. a.entry.core ≡ v.made → ⊥) (λ a low same. absurd (omega (arith, low, same))) r.history (r.fresh id v at made).0)))
                  (All-nil (λ (q : CoreAccesses). (q.core < cores) × (q.list ≡ by_core q.core r.history)));
              distinct = ((λ no. no), tt);
              holds = λ some_holds. absurd (omega (arith, some_holds));
              first = λ some. absurd (omega (arith, some));
            })
          ];
      apart = λ place other core u x here there has too.
          elim (at_end views' new u place here) as (λ _. place ≡ other) [
            | inl one ↦ elim (at_end views' new x other there) as (λ _. place ≡ other) [
              | inl two ↦ apart_stays s.views id v (with_one_seat_more v) at (λ c h. h) r.apart place other core u x one two has too
              | inr two ↦ absurd (let low = old_cores place u one core has in let is = new_core core (subst (λ (z : View). Has core z.logs) (sym two.0) too) in omega (arith, low, is))
            ]
            | inr one ↦ elim (at_end views' new x other there) as (λ _. place ≡ other) [
              | inl two ↦ absurd (let low = old_cores other x two core too in let is = new_core core (subst (λ (z : View). Has core z.logs) (sym one.0) has) in omega (arith, low, is))
              | inr two ↦ one.1 ∙ sym two.1
            ]
          ];
      fresh = λ place u there counted.
          elim (at_end views' new u place there) as (λ _. All (λ a. a.entry.core < u.made) r.history × ((other core : ℕ) (x : View) → get_elem? (views' ++ new ∷ []) other ≡ some x → Has core x.logs → core < u.made)) [
            | inl old ↦ elim (at_set s.views id place (with_one_seat_more v) u old) as (λ _. All (λ a. a.entry.core < u.made) r.history × ((other core : ℕ) (x : View) → get_elem? (views' ++ new ∷ []) other ≡ some x → Has core x.logs → core < u.made)) [
              | inl first ↦
                  let count : v.made + 1 ≡ u.made = ap (λ (z : View). z.made) first.1 in (
                    All-weaker (λ a. a.entry.core < v.made) (λ a. a.entry.core < u.made) (λ a low. omega (arith, low, count)) r.history (r.fresh id v at made).0,
                    (λ other core x here has.
                        elim (at_end views' new x other here) as (λ _. core < u.made) [
                          | inl one ↦ let low = old_cores other x one core has in omega (arith, low, count)
                          | inr one ↦ let is = new_core core (subst (λ (z : View). Has core z.logs) (sym one.0) has) in omega (arith, is, count)
                        ]),
                  )
              | inr other ↦ absurd (other.0 (alone place u other.1 counted))
            ]
            | inr last ↦ absurd (let nothing : 0 ≡ u.made = ap (λ (z : View). z.made) last.0 in omega (arith, nothing, counted))
          ];
    }

  pub splits : (id : ℕ) (v : View) → v.holds ≡ [] → 0 < v.made → v.made < cores → Splits Rule id v (with_one_seat_more v) (next_seat v)
  splits id v none_held made more = λ s r at. seat_rule s r id v at none_held made more

  -- ---- two seats are put together

  module _ (s : State (Option TimedPart) View) (r : Rule s) (id other : ℕ) (v w : View) (at : get_elem? s.views id ≡ some v) (apart : other ≢ id)
      (too : get_elem? s.views other ≡ some w) (none_held : v.holds ≡ []) (none_held_too : w.holds ≡ []) (some_logs : 0 < length v.logs) where
    abbrev whole : View
    whole = both v w

    abbrev views2 : List View
    views2 = slice_set (slice_set s.views id whole) other spent

    v_knows : IsTrueOfHistory parts cores banks room r.history s.words v
    v_knows = r.seats id v at

    w_knows : IsTrueOfHistory parts cores banks room r.history s.words w
    w_knows = r.seats other w too

    later_at : get_elem? (slice_set s.views id whole) other ≡ some w
    later_at = other_there s.views id v whole at other apart ∙ too

    -- what a view is after it
    kinds : (place : ℕ) (u : View) → get_elem? views2 place ≡ some u → (spent ≡ u) ⊎ (((place ≡ id) × (whole ≡ u)) ⊎ ((place ≢ id) × (place ≢ other) × (get_elem? s.views place ≡ some u)))
    kinds place u there =
        elim (at_set (slice_set s.views id whole) other place spent u there) as (λ _. (spent ≡ u) ⊎ (((place ≡ id) × (whole ≡ u)) ⊎ ((place ≢ id) × (place ≢ other) × (get_elem? s.views place ≡ some u)))) [
          | inl end ↦ inl end.1
          | inr here ↦ elim (at_set s.views id place whole u here.1) as (λ _. (spent ≡ u) ⊎ (((place ≡ id) × (whole ≡ u)) ⊎ ((place ≢ id) × (place ≢ other) × (get_elem? s.views place ≡ some u)))) [
            | inl first ↦ inr (inl first)
            | inr old ↦ inr (inr (old.0, here.0, old.1))
          ]
        ]

    -- no other seat has a core of the two
    not_other : (place : ℕ) (u : View) (core : ℕ) → place ≢ id → place ≢ other → get_elem? s.views place ≡ some u → Has core u.logs → Has core whole.logs → ⊥
    not_other place u core one two there has both_has =
        elim (has_either core v.logs w.logs both_has) as (λ _. ⊥) [
          | inl left ↦ one (r.apart place id core u v there at has left)
          | inr right ↦ two (r.apart place other core u w there too has right)
        ]

    none_spent : (core : ℕ) (u : View) → spent ≡ u → Has core u.logs → ⊥
    none_spent core u is has = subst (λ (z : View). Has core z.logs) (sym is) has

    joined_rule : Rule (record { words = s.words; homes = s.homes; views = views2 })
    joined_rule = record {
      history = r.history;
      opened = r.opened;
      accesses = r.accesses;
      words = r.words;
      homes = r.homes;
      home = r.home;
      busy = λ k inside word.
          let b = r.busy k inside word in
          let one : b.0 ≢ id = holder_apart s.views id v at none_held b.0 b.1 k b.2 b.3 in
          let two : b.0 ≢ other = holder_apart s.views other w too none_held_too b.0 b.1 k b.2 b.3 in
          (b.0, b.1, other_there (slice_set s.views id whole) other w spent later_at b.0 two ∙ (other_there s.views id v whole at b.0 one ∙ b.2), b.3);
      seats = λ place u there.
          elim (kinds place u there) as (λ _. IsTrueOfHistory parts cores banks room r.history s.words u) [
            | inl end ↦ subst (IsTrueOfHistory parts cores banks room r.history s.words) end (record {
              begins = λ some. absurd (omega (arith, some));
              logs = All-nil (λ (q : CoreAccesses). (q.core < cores) × (q.list ≡ by_core q.core r.history));
              distinct = tt;
              holds = λ some_holds. absurd (omega (arith, some_holds));
              first = λ some. absurd (omega (arith, some));
            })
            | inr (inl first) ↦ subst (IsTrueOfHistory parts cores banks room r.history s.words) first.1 (record {
              begins = λ some. v_knows.begins some_logs;
              logs = All-append (λ (q : CoreAccesses). (q.core < cores) × (q.list ≡ by_core q.core r.history)) v.logs w.logs v_knows.logs w_knows.logs;
              distinct = distinct_both v.logs w.logs v_knows.distinct w_knows.distinct (λ core left right. apart (sym (r.apart id other core v w at too left right)));
              holds = λ some_holds. absurd (let is = ap length none_held in omega (arith, is, some_holds));
              first = λ some. has_left 0 v.logs w.logs (v_knows.first some);
            })
            | inr (inr old) ↦ r.seats place u old.2
          ];
      apart = λ place there_place core u x here there has has_too.
          elim (kinds place u here) as (λ _. place ≡ there_place) [
            | inl end ↦ absurd (none_spent core u end has)
            | inr (inl one) ↦ elim (kinds there_place x there) as (λ _. place ≡ there_place) [
              | inl end ↦ absurd (none_spent core x end has_too)
              | inr (inl two) ↦ one.0 ∙ sym two.0
              | inr (inr two) ↦ absurd (not_other there_place x core two.0 two.1 two.2 has_too (subst (λ (z : View). Has core z.logs) (sym one.1) has))
            ]
            | inr (inr one) ↦ elim (kinds there_place x there) as (λ _. place ≡ there_place) [
              | inl end ↦ absurd (none_spent core x end has_too)
              | inr (inl two) ↦ absurd (not_other place u core one.0 one.1 one.2 has (subst (λ (z : View). Has core z.logs) (sym two.1) has_too))
              | inr (inr two) ↦ r.apart place there_place core u x one.2 two.2 has has_too
            ]
          ];
      fresh = λ place u there counted.
          let from : (p : ℕ) (y : View) → get_elem? s.views p ≡ some y → y.made ≡ u.made
          → All (λ a. a.entry.core < u.made) r.history × ((q core : ℕ) (x : View) → get_elem? views2 q ≡ some x → Has core x.logs → core < u.made) = λ p y here same.
          let before = r.fresh p y here (omega (arith, same, counted)) in (
            subst (λ (n : ℕ). All (λ (a : Made). a.entry.core < n) r.history) same before.0,
            (λ q core x at_q has.
                elim (kinds q x at_q) as (λ _. core < u.made) [
                  | inl end ↦ absurd (none_spent core x end has)
                  | inr (inl first) ↦ elim (has_either core v.logs w.logs (subst (λ (z : View). Has core z.logs) (sym first.1) has)) as (λ _. core < u.made) [
                    | inl left ↦ subst (λ (n : ℕ). core < n) same (before.1 id core v at left)
                    | inr right ↦ subst (λ (n : ℕ). core < n) same (before.1 other core w too right)
                  ]
                  | inr (inr old) ↦ subst (λ (n : ℕ). core < n) same (before.1 q core x old.2 has)
                ]),
          )
          in
          elim (kinds place u there) as (λ _. All (λ a. a.entry.core < u.made) r.history × ((q core : ℕ) (x : View) → get_elem? views2 q ≡ some x → Has core x.logs → core < u.made)) [
            | inl end ↦ absurd (let nothing : 0 ≡ u.made = ap (λ (z : View). z.made) end in omega (arith, nothing, counted))
            | inr (inl first) ↦ from id v at (ap (λ (z : View). z.made) first.1)
            | inr (inr old) ↦ from place u old.2 refl
          ];
    }

  pub joins : (id : ℕ) (v : View) (other : ℕ) (w : View) → v.holds ≡ [] → w.holds ≡ [] → 0 < length v.logs → Joins Rule id v other w (both v w) spent
  joins id v other w none_held none_held_too some_logs = λ s r at apart later.
      joined_rule s r id other v w at apart (sym (other_there s.views id v (both v w) at other apart) ∙ later) none_held none_held_too some_logs
