-- The table begins, seats are made, and seats are put together.
use Rattle.std.proofs.Common.{◌≡◌, ℕ, zero, suc, ◌+◌, ◌*◌, ◌<◌, ◌≤◌, ◌≢◌, ◌⊎◌, List, [], ◌∷◌, ◌++◌, length, replicate, All, refl, sym, ◌∙◌, ap, subst, arith, inl, inr}
use Rattle.std.specs.Prelude.{slice_get, slice_index, slice_set, Some, None}
use mathlib.Core.Option.{some, none, some-injective, some-ne-none}
use lib.ListN.{get_elem?}
use Rattle.std.proofs.lemmas.Bool.{cases_lt}
use Rattle.std.proofs.lemmas.List.{get_or-replicate, get_or_past, length-map, length-replicate}
use Rattle.std.proofs.lemmas.List.Elements.{All-append, All-cons, All-nil, All-weaker}
use Rattle.std.proofs.lemmas.Option.{same_Some}
use Rattle.atomic_table.specs.Table.{Joins, Splits, State, opening}
use Rattle.atomic_table.proofs.Lists.{at_longer, at_map, at_set}
use Rattle.zs_num.specs.declared.entry.Entry.{Entry}
use Rattle.access_log.specs.History.{core_of_entry, of_bank, of_core}
use Rattle.shard.specs.Served.{ShardState}
use Rattle.shard_table.specs.declared.view.View.{View}
use Rattle.shard_table.specs.declared.view.CoreAccesses.{CoreAccesses}
use Rattle.shard_table.specs.declared.view.ShardAccesses.{ShardAccesses}
use Rattle.shard_table.specs.Lives.{AreNew, IsPrefix, MayAsk}
use Rattle.shard_table.specs.Rule.{AreDistinct, AreHoldsAtTable, Has, IsTrueOfHistory, word_index}
use Rattle.shard_table.specs.Views.{both, first_view, new_part, next_seat, spent, with_one_seat_more}
use Rattle.shard_table.proofs.Ends.{none_numbered}
use Rattle.shard_table.proofs.Seats.{apart_stays, had, has_either, has_left, has_one, other_there}
use Rattle.shard_table.proofs.Taking.{holder_apart}

-- ---- lists

pub elem_at : {X : Type 0} (xs : List X) (i : ℕ) (x : X) → slice_get xs i ≡ Some x → get_elem? xs i ≡ some x
elem_at [] i x at = absurd (let none : None ≡ Some x = at in cc)
elem_at (y ∷ xs) zero x at = let same : y ≡ x = same_Some y x at in ap some same
elem_at (y ∷ xs) (suc i) x at = elem_at xs i x at

at_end : {X : Type 0} (xs : List X) (a b : X) (j : ℕ) → get_elem? (xs ++ a ∷ []) j ≡ some b → (get_elem? xs j ≡ some b) ⊎ ((a ≡ b) × (j ≡ length xs))
at_end [] a b zero at = inr (some-injective a b at, refl)
at_end [] a b (suc j) at = absurd (some-ne-none b (sym at))
at_end (x ∷ xs) a b zero at = inl at
at_end (x ∷ xs) a b (suc j) at =
    elim (at_end xs a b j at) as (λ _. (get_elem? (x ∷ xs) (suc j) ≡ some b) ⊎ ((a ≡ b) × (suc j ≡ length (x ∷ xs)))) [
      | inl old ↦ inl old
      | inr new ↦ inr (new.0, ap suc new.1)
    ]

only_one : {X : Type 0} (a b : X) (j : ℕ) → get_elem? (a ∷ []) j ≡ some b → (a ≡ b) × (j ≡ 0)
only_one a b zero at = (some-injective a b at, refl)
only_one a b (suc j) at = absurd (some-ne-none b (sym at))

zeros : (n i : ℕ) → slice_index (replicate n 0) i ≡ 0
zeros n i =
    elim (cases_lt i n) [
      | inl within ↦ get_or-replicate n i 0 0 within
      | inr past ↦ get_or_past (replicate n 0) i 0 (omega (arith, past, length-replicate {A = ℕ} n 0))
    ]

some_part : (core : ℕ) (parts : List CoreAccesses) → Has core parts → 0 < length parts
some_part core [] has = absurd has
some_part core (part ∷ parts) has = omega arith

pub distinct_both : (parts others : List CoreAccesses) → AreDistinct parts → AreDistinct others → ((core : ℕ) → Has core parts → Has core others → ⊥) → AreDistinct (parts ++ others)
distinct_both [] others one two apart = two
distinct_both (part ∷ parts) others one two apart = (
  (λ has. elim (has_either part.core parts others has) as (λ _. ⊥) [
    | inl left ↦ one.0 left
    | inr right ↦ apart part.core (inl refl) right
  ]),
  distinct_both parts others one.1 two (λ core has. apart core (inr has)),
)

module _ (shards : List ShardState) (cores room : ℕ) where
  abbrev Rule : State ShardState View → Type 0
  Rule = AreHoldsAtTable shards cores room

  -- ---- the beginning

  pub begins : AreNew shards → 0 < cores → Rule (opening (replicate (16 * length shards) 0) shards (first_view shards cores room))
  begins new some_cores =
      let v : View = first_view shards cores room in
      let words : List ℕ = replicate (16 * length shards) 0 in
      record {
        history = [];
        begins = new;
        accesses = record {
          known = All-nil (λ e. e.core < cores);
          asked = All-nil (λ e. MayAsk shards e.core e.request);
          served = λ number shard at. tt;
          stamped = tt;
          low = All-nil (λ e. e.stamp ≤ 0);
          fits = λ core. omega arith;
        };
        words = length-replicate {A = ℕ} (16 * length shards) 0;
        homes = length-map shards some_shard;
        home = λ number shard at free. at_map some_shard shards number shard (elem_at shards number shard at);
        busy = λ number within word. absurd (let free = zeros (16 * length shards) (word_index number) in omega (arith, free, word));
        seats = λ place u at. subst (IsTrueOfHistory shards cores room [] words) (only_one v u place at).0 (record {
          opening = λ has. (refl, refl, refl);
          parts = All-cons (λ (q : CoreAccesses). (q.core < cores) × (q.list ≡ of_core q.core [])) (new_part 0) [] (some_cores, refl) (All-nil (λ (q : CoreAccesses). (q.core < cores) × (q.list ≡ of_core q.core [])));
          distinct = ((λ no. no), tt);
          hold = λ served is. absurd (let none : None ≡ Some served = is in cc);
          notes = All-nil (λ (note : ShardAccesses). IsPrefix note.list (of_bank (length shards) note.shard []));
          first = λ made. inl refl;
        });
        apart = λ place other core u x here there has too. (only_one v u place here).1 ∙ sym (only_one v x other there).1;
        fresh = λ place u at made. (
          All-nil (λ e. e.core < u.made),
          (λ other core x there has.
              let is : core ≡ 0 = sym (has_one core (new_part 0) (subst (λ (z : View). Has core z.parts) (sym (only_one v x other there).0) has)) in
              omega (arith, is, made)),
        );
      }
    where
      some_shard : ShardState → mathlib.Core.Option.Option ShardState
      some_shard shard = mathlib.Core.Option.some shard

  -- ---- one seat more

  module _ (s : State ShardState View) (r : Rule s) (id : ℕ) (v : View) (at : get_elem? s.views id ≡ some v) (hold : v.hold ≡ None)
      (made : 0 < v.made) (more : v.made < cores) where
    knows : IsTrueOfHistory shards cores room r.history s.words v
    knows = r.seats id v at

    abbrev new : View
    new = next_seat v

    abbrev views' : List View
    views' = slice_set s.views id (with_one_seat_more v)

    -- the first seat alone counts
    alone : (place : ℕ) (u : View) → get_elem? s.views place ≡ some u → 0 < u.made → place ≡ id
    alone place u there counted = r.apart place id 0 u v there at ((r.seats place u there).first counted) (knows.first made)

    old_cores : (place : ℕ) (u : View) → get_elem? views' place ≡ some u → (core : ℕ) → Has core u.parts → core < v.made
    old_cores place u there core has =
        let y = had s.views id v (with_one_seat_more v) at (λ c h. h) place u there core has in
        (r.fresh id v at made).1 place core y.0 y.1 y.2

    new_core : (core : ℕ) → Has core new.parts → core ≡ v.made
    new_core core has = sym (has_one core (new_part v.made) has)

    seat_rule : Rule (record { words = s.words; homes = s.homes; views = views' ++ new ∷ [] })
    seat_rule = record {
      history = r.history;
      begins = r.begins;
      accesses = r.accesses;
      words = r.words;
      homes = r.homes;
      home = r.home;
      busy = λ k inside word.
          let b = r.busy k inside word in
          let there : get_elem? views' b.0 ≡ some b.1 = other_there s.views id v (with_one_seat_more v) at b.0 (holder_apart shards cores room s r id v at hold b.0 b.1 b.2 b.3 b.4) ∙ b.3 in
          (b.0, b.1, b.2, at_longer views' (new ∷ []) b.0 b.1 there, b.4, b.5);
      seats = λ place u there.
          elim (at_end views' new u place there) as (λ _. IsTrueOfHistory shards cores room r.history s.words u) [
            | inl old ↦ elim (at_set s.views id place (with_one_seat_more v) u old) as (λ _. IsTrueOfHistory shards cores room r.history s.words u) [
              | inl first ↦ subst (IsTrueOfHistory shards cores room r.history s.words) first.1 (record {
                opening = knows.opening;
                parts = knows.parts;
                distinct = knows.distinct;
                hold = knows.hold;
                notes = knows.notes;
                first = λ some. knows.first made;
              })
              | inr other ↦ r.seats place u other.1
            ]
            | inr last ↦ subst (IsTrueOfHistory shards cores room r.history s.words) last.0 (record {
              opening = λ some. knows.opening (some_part 0 v.parts (knows.first made));
              parts = All-cons (λ (q : CoreAccesses). (q.core < cores) × (q.list ≡ of_core q.core r.history)) (new_part v.made) []
                  (more, sym (none_numbered core_of_entry v.made r.history (All-weaker (λ e. e.core < v.made) (λ e. e.core ≡ v.made → ⊥) (λ e low same. absurd (omega (arith, low, same))) r.history (r.fresh id v at made).0)))
                  (All-nil (λ (q : CoreAccesses). (q.core < cores) × (q.list ≡ of_core q.core r.history)));
              distinct = ((λ no. no), tt);
              hold = λ served is. absurd (let none : None ≡ Some served = is in cc);
              notes = All-nil (λ (note : ShardAccesses). IsPrefix note.list (of_bank (length shards) note.shard r.history));
              first = λ some. absurd (omega (arith, some));
            })
          ];
      apart = λ place other core u x here there has too.
          elim (at_end views' new u place here) as (λ _. place ≡ other) [
            | inl one ↦ elim (at_end views' new x other there) as (λ _. place ≡ other) [
              | inl two ↦ apart_stays s.views id v (with_one_seat_more v) at (λ c h. h) r.apart place other core u x one two has too
              | inr two ↦ absurd (let low = old_cores place u one core has in let is = new_core core (subst (λ (z : View). Has core z.parts) (sym two.0) too) in omega (arith, low, is))
            ]
            | inr one ↦ elim (at_end views' new x other there) as (λ _. place ≡ other) [
              | inl two ↦ absurd (let low = old_cores other x two core too in let is = new_core core (subst (λ (z : View). Has core z.parts) (sym one.0) has) in omega (arith, low, is))
              | inr two ↦ one.1 ∙ sym two.1
            ]
          ];
      fresh = λ place u there counted.
          elim (at_end views' new u place there) as (λ _. All (λ e. e.core < u.made) r.history × ((other core : ℕ) (x : View) → get_elem? (views' ++ new ∷ []) other ≡ some x → Has core x.parts → core < u.made)) [
            | inl old ↦ elim (at_set s.views id place (with_one_seat_more v) u old) as (λ _. All (λ e. e.core < u.made) r.history × ((other core : ℕ) (x : View) → get_elem? (views' ++ new ∷ []) other ≡ some x → Has core x.parts → core < u.made)) [
              | inl first ↦
                  let count : v.made + 1 ≡ u.made = ap (λ (z : View). z.made) first.1 in (
                    All-weaker (λ e. e.core < v.made) (λ e. e.core < u.made) (λ e low. omega (arith, low, count)) r.history (r.fresh id v at made).0,
                    (λ other core x here has.
                        elim (at_end views' new x other here) as (λ _. core < u.made) [
                          | inl one ↦ let low = old_cores other x one core has in omega (arith, low, count)
                          | inr one ↦ let is = new_core core (subst (λ (z : View). Has core z.parts) (sym one.0) has) in omega (arith, is, count)
                        ]),
                  )
              | inr other ↦ absurd (other.0 (alone place u other.1 counted))
            ]
            | inr last ↦ absurd (let nothing : 0 ≡ u.made = ap (λ (z : View). z.made) last.0 in omega (arith, nothing, counted))
          ];
    }

  pub splits : (id : ℕ) (v : View) → v.hold ≡ None → 0 < v.made → v.made < cores → Splits Rule id v (with_one_seat_more v) (next_seat v)
  splits id v hold made more = λ s r at. seat_rule s r id v at hold made more

  -- ---- two seats are put together

  module _ (s : State ShardState View) (r : Rule s) (id other : ℕ) (v w : View) (at : get_elem? s.views id ≡ some v) (apart : other ≢ id)
      (too : get_elem? s.views other ≡ some w) (hold : v.hold ≡ None) (hold_too : w.hold ≡ None) (some_parts : 0 < length v.parts) where
    abbrev whole : View
    whole = both v w

    abbrev views2 : List View
    views2 = slice_set (slice_set s.views id whole) other spent

    v_knows : IsTrueOfHistory shards cores room r.history s.words v
    v_knows = r.seats id v at

    w_knows : IsTrueOfHistory shards cores room r.history s.words w
    w_knows = r.seats other w too

    later_at : get_elem? (slice_set s.views id whole) other ≡ some w
    later_at = other_there s.views id v whole at other apart ∙ too

    -- what a view is after it
    kinds : (place : ℕ) (u : View) → get_elem? views2 place ≡ some u → (spent ≡ u) ⊎ (((place ≡ id) × (whole ≡ u)) ⊎ ((place ≢ id) × (place ≢ other) × (get_elem? s.views place ≡ some u)))
    kinds place u there =
        elim (at_set (slice_set s.views id whole) other place spent u there) as (λ _. (spent ≡ u) ⊎ (((place ≡ id) × (whole ≡ u)) ⊎ ((place ≢ id) × (place ≢ other) × (get_elem? s.views place ≡ some u)))) [
          | inl end ↦ inl end.1
          | inr here ↦ elim (at_set s.views id place whole u here.1) as (λ _. (spent ≡ u) ⊎ (((place ≡ id) × (whole ≡ u)) ⊎ ((place ≢ id) × (place ≢ other) × (get_elem? s.views place ≡ some u)))) [
            | inl first ↦ inr (inl first)
            | inr old ↦ inr (inr (old.0, here.0, old.1))
          ]
        ]

    -- no other seat has a core of the two
    not_other : (place : ℕ) (u : View) (core : ℕ) → place ≢ id → place ≢ other → get_elem? s.views place ≡ some u → Has core u.parts → Has core whole.parts → ⊥
    not_other place u core one two there has both_has =
        elim (has_either core v.parts w.parts both_has) as (λ _. ⊥) [
          | inl left ↦ one (r.apart place id core u v there at has left)
          | inr right ↦ two (r.apart place other core u w there too has right)
        ]

    none_spent : (core : ℕ) (u : View) → spent ≡ u → Has core u.parts → ⊥
    none_spent core u is has = subst (λ (z : View). Has core z.parts) (sym is) has

    joined_rule : Rule (record { words = s.words; homes = s.homes; views = views2 })
    joined_rule = record {
      history = r.history;
      begins = r.begins;
      accesses = r.accesses;
      words = r.words;
      homes = r.homes;
      home = r.home;
      busy = λ k inside word.
          let b = r.busy k inside word in
          let one : b.0 ≢ id = holder_apart shards cores room s r id v at hold b.0 b.1 b.2 b.3 b.4 in
          let two : b.0 ≢ other = holder_apart shards cores room s r other w too hold_too b.0 b.1 b.2 b.3 b.4 in
          (b.0, b.1, b.2, other_there (slice_set s.views id whole) other w spent later_at b.0 two ∙ (other_there s.views id v whole at b.0 one ∙ b.3), b.4, b.5);
      seats = λ place u there.
          elim (kinds place u there) as (λ _. IsTrueOfHistory shards cores room r.history s.words u) [
            | inl end ↦ subst (IsTrueOfHistory shards cores room r.history s.words) end (record {
              opening = λ some. absurd (omega (arith, some));
              parts = All-nil (λ (q : CoreAccesses). (q.core < cores) × (q.list ≡ of_core q.core r.history));
              distinct = tt;
              hold = λ served is. absurd (let none : None ≡ Some served = is in cc);
              notes = All-nil (λ (note : ShardAccesses). IsPrefix note.list (of_bank (length shards) note.shard r.history));
              first = λ some. absurd (omega (arith, some));
            })
            | inr (inl first) ↦ subst (IsTrueOfHistory shards cores room r.history s.words) first.1 (record {
              opening = λ some. v_knows.opening some_parts;
              parts = All-append (λ (q : CoreAccesses). (q.core < cores) × (q.list ≡ of_core q.core r.history)) v.parts w.parts v_knows.parts w_knows.parts;
              distinct = distinct_both v.parts w.parts v_knows.distinct w_knows.distinct (λ core left right. apart (sym (r.apart id other core v w at too left right)));
              hold = λ served is. absurd (let none : None ≡ Some served = sym hold ∙ is in cc);
              notes = All-append (λ (note : ShardAccesses). IsPrefix note.list (of_bank (length shards) note.shard r.history)) v.notes w.notes v_knows.notes w_knows.notes;
              first = λ some. has_left 0 v.parts w.parts (v_knows.first some);
            })
            | inr (inr old) ↦ r.seats place u old.2
          ];
      apart = λ place there_place core u x here there has has_too.
          elim (kinds place u here) as (λ _. place ≡ there_place) [
            | inl end ↦ absurd (none_spent core u end has)
            | inr (inl one) ↦ elim (kinds there_place x there) as (λ _. place ≡ there_place) [
              | inl end ↦ absurd (none_spent core x end has_too)
              | inr (inl two) ↦ one.0 ∙ sym two.0
              | inr (inr two) ↦ absurd (not_other there_place x core two.0 two.1 two.2 has_too (subst (λ (z : View). Has core z.parts) (sym one.1) has))
            ]
            | inr (inr one) ↦ elim (kinds there_place x there) as (λ _. place ≡ there_place) [
              | inl end ↦ absurd (none_spent core x end has_too)
              | inr (inl two) ↦ absurd (not_other place u core one.0 one.1 one.2 has (subst (λ (z : View). Has core z.parts) (sym two.1) has_too))
              | inr (inr two) ↦ r.apart place there_place core u x one.2 two.2 has has_too
            ]
          ];
      fresh = λ place u there counted.
          let from : (p : ℕ) (y : View) → get_elem? s.views p ≡ some y → y.made ≡ u.made
          → All (λ e. e.core < u.made) r.history × ((q core : ℕ) (x : View) → get_elem? views2 q ≡ some x → Has core x.parts → core < u.made) = λ p y here same.
          let before = r.fresh p y here (omega (arith, same, counted)) in (
            subst (λ (n : ℕ). All (λ (e : Entry). e.core < n) r.history) same before.0,
            (λ q core x at_q has.
                elim (kinds q x at_q) as (λ _. core < u.made) [
                  | inl end ↦ absurd (none_spent core x end has)
                  | inr (inl first) ↦ elim (has_either core v.parts w.parts (subst (λ (z : View). Has core z.parts) (sym first.1) has)) as (λ _. core < u.made) [
                    | inl left ↦ subst (λ (n : ℕ). core < n) same (before.1 id core v at left)
                    | inr right ↦ subst (λ (n : ℕ). core < n) same (before.1 other core w too right)
                  ]
                  | inr (inr old) ↦ subst (λ (n : ℕ). core < n) same (before.1 q core x old.2 has)
                ]),
          )
          in
          elim (kinds place u there) as (λ _. All (λ e. e.core < u.made) r.history × ((q core : ℕ) (x : View) → get_elem? views2 q ≡ some x → Has core x.parts → core < u.made)) [
            | inl end ↦ absurd (let nothing : 0 ≡ u.made = ap (λ (z : View). z.made) end in omega (arith, nothing, counted))
            | inr (inl first) ↦ from id v at (ap (λ (z : View). z.made) first.1)
            | inr (inr old) ↦ from place u old.2 refl
          ];
    }

  pub joins : (id : ℕ) (v : View) (other : ℕ) (w : View) → v.hold ≡ None → w.hold ≡ None → 0 < length v.parts → Joins Rule id v other w (both v w) spent
  joins id v other w hold hold_too some_parts = λ s r at apart later.
      joined_rule s r id other v w at apart (sym (other_there s.views id v (both v w) at other apart) ∙ later) hold hold_too some_parts
