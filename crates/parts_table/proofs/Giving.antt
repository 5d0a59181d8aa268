-- A part is given back, and accesses are published.
use Rattle.std.proofs.Common.{◌≡◌, ℕ, ◌+◌, ◌<◌, ◌≤◌, ◌≢◌, ◌⊎◌, List, [], ◌∷◌, ◌++◌, length, All, refl, sym, ◌∙◌, ap, subst, arith, inl, inr}
use Rattle.std.specs.Prelude.{slice_index, slice_set, Option, Some}
use mathlib.Core.Option.{some, none}
use lib.ListN.{get_elem?}
use Rattle.std.proofs.lemmas.Bool.{cases_eq, eq-eqb, ne_eqb}
use Rattle.std.proofs.lemmas.List.{append-nil, get_or-set_other, get_or-set_same, length-append, length-set}
use Rattle.std.proofs.lemmas.List.Elements.{All-append, All-cons, All-head, All-nil, All-tail, All-weaker}
use Rattle.atomic_table.specs.Table.{Allows, State, gives, rest, step, stepped}
use Rattle.atomic_table.proofs.Lists.{at_set, set_else, set_here}
use Rattle.parts_table.specs.declared.part.TimedPart.{TimedPart}
use Rattle.parts_table.specs.declared.view.CoreAccesses.{CoreAccesses}
use Rattle.parts_table.specs.declared.view.Hold.{Hold}
use Rattle.parts_table.specs.declared.view.Made.{Made}
use Rattle.parts_table.specs.declared.view.View.{View}
use Rattle.parts_table.specs.MachineLaws.{MachineLaws}
use Rattle.parts_table.specs.Rule.{AreAccesses, AreHeld, AreHoldsAtTable, Has, Holds, IsTrueOfHistory, word_index}
use Rattle.parts_table.specs.Steps.{MayGive, gave, gave_at, left_by, part_of_step}
use Rattle.parts_table.specs.TurnOrder.{by_core}
use Rattle.parts_table.specs.Views.{given}
use Rattle.parts_table.specs.World.{MayAsk, World, lived, world_of}
use Rattle.parts_table.proofs.ByCore.{all_own, by_core_append, none_own}
use Rattle.parts_table.proofs.Held.{agrees_at, held_agrees, held_stays, held_within, held_word, its_holds, its_log, reached_fine, then, then_fine}
use Rattle.parts_table.proofs.Runs.{IsSameRun, lived_append, right_append, same_run}
use Rattle.parts_table.proofs.Seats.{apart_stays, fresh_stays, has_its, its_own, new_here, other_there}
use Rattle.parts_table.proofs.Taking.{words_apart}

pub holds_or_not : (k : ℕ) (holds : List Hold) → Holds k holds ⊎ (Holds k holds → ⊥)
holds_or_not k [] = inr (λ no. no)
holds_or_not k (h ∷ holds) =
    elim (cases_eq h.part k) as (λ _. Holds k (h ∷ holds) ⊎ (Holds k (h ∷ holds) → ⊥)) [
      | inl same ↦ inl (inl same)
      | inr other ↦ elim (holds_or_not k holds) as (λ _. Holds k (h ∷ holds) ⊎ (Holds k (h ∷ holds) → ⊥)) [
        | inl has ↦ inl (inr has)
        | inr none_has ↦ inr (neither h holds other none_has)
      ]
    ]
  where
    neither : (h : Hold) (holds : List Hold) → h.part ≢ k → (Holds k holds → ⊥) → Holds k (h ∷ holds) → ⊥
    neither h holds other none_has (inl is) = other is
    neither h holds other none_has (inr has) = none_has has

-- ---- what is left

module _ (cores banks : ℕ) (w : World) (list : List Made) (part : ℕ) where
  abbrev left : List Hold → List Hold
  left holds = left_by cores banks w list part holds

  own_left : (h : Hold) (holds : List Hold) → h.part ≡ part → left (h ∷ holds) ≡ left holds
  own_left h holds same = rw (eq-eqb h.part part same) refl

  other_left : (h : Hold) (holds : List Hold) → h.part ≢ part → left (h ∷ holds) ≡ record h { value = lived cores banks w list h.part } ∷ left holds
  other_left h holds other = rw (ne_eqb h.part part other) refl

  pub left_has : (k : ℕ) (holds : List Hold) → Holds k (left holds) → Holds k holds
  left_has k [] has = has
  left_has k (h ∷ holds) has =
      elim (cases_eq h.part part) as (λ _. Holds k (h ∷ holds)) [
        | inl same ↦ inr (left_has k holds (subst (Holds k) (own_left h holds same) has))
        | inr other ↦ one h holds (left_has k holds) (subst (Holds k) (other_left h holds other) has)
      ]
    where
      one : (h : Hold) (holds : List Hold) → (Holds k (left holds) → Holds k holds) → Holds k (record h { value = lived cores banks w list h.part } ∷ left holds) → Holds k (h ∷ holds)
      one h holds later (inl is) = inl is
      one h holds later (inr has) = inr (later has)

  pub has_left : (k : ℕ) (holds : List Hold) → k ≢ part → Holds k holds → Holds k (left holds)
  has_left k [] apart has = absurd has
  has_left k (h ∷ holds) apart (inl is) = subst (Holds k) (sym (other_left h holds (λ same. apart (sym is ∙ same)))) (inl is)
  has_left k (h ∷ holds) apart (inr has) =
      elim (cases_eq h.part part) as (λ _. Holds k (left (h ∷ holds))) [
        | inl same ↦ subst (Holds k) (sym (own_left h holds same)) (has_left k holds apart has)
        | inr other ↦ subst (Holds k) (sym (other_left h holds other)) (inr (has_left k holds apart has))
      ]

  pub left_held : (opening : List (Option TimedPart)) (room : ℕ) (history later : List Made) (words words' : List ℕ) (core : ℕ) (holds : List Hold)
      → AreHeld opening cores banks room history words core holds
      → ((k : ℕ) → k ≢ part → slice_index words' (word_index k) ≡ slice_index words (word_index k))
      → ((k : ℕ) → Holds k holds → then opening cores banks room later k ≡ lived cores banks w list k)
      → AreHeld opening cores banks room later words' core (left holds)
  left_held opening room history later words words' core [] held others is = tt
  left_held opening room history later words words' core (h ∷ holds) held others is =
      let rest_held = left_held opening room history later words words' core holds held.4 others (λ k has. is k (inr has)) in
      elim (cases_eq h.part part) as (λ _. AreHeld opening cores banks room later words' core (left (h ∷ holds))) [
        | inl same ↦ subst (AreHeld opening cores banks room later words' core) (sym (own_left h holds same)) rest_held
        | inr other ↦ subst (AreHeld opening cores banks room later words' core) (sym (other_left h holds other))
            (held.0, others h.part other ∙ held.1, sym (is h.part (inl refl)), (λ has. held.3 (left_has h.part holds has)), rest_held)
      ]

module _ (opening : List (Option TimedPart)) (cores banks room : ℕ) where
  abbrev Rule : State (Option TimedPart) View → Type 0
  Rule = AreHoldsAtTable opening cores banks room

  abbrev in_this : View → View
  in_this v = record v { opening = opening; cores = cores; banks = banks; room = room }

  module _ (laws : MachineLaws) (s : State (Option TimedPart) View) (r : Rule s) (id : ℕ) (v : View) (at : get_elem? s.views id ≡ some v)
      (part : ℕ) (value : TimedPart) (list : List Made) (left : List Hold) (may : MayGive v part value list left) (slots : List (ℕ × Option TimedPart)) where
    knows : IsTrueOfHistory opening cores banks room r.history s.words v
    knows = r.seats id v at

    begins : (v.opening ≡ opening) × (v.cores ≡ cores) × (v.banks ≡ banks) × (v.room ≡ room)
    begins = knows.begins (subst (λ (ls : List CoreAccesses). 0 < length ls) (sym may.lone) (omega arith))

    is_this : v ≡ in_this v
    is_this = λ i. record v { opening = begins.0 i; cores = begins.1 i; banks = begins.2 i; room = begins.3 i }

    pub g : MayGive (in_this v) part value list left
    g = subst (λ (u : View). MayGive u part value list left) is_this may

    abbrev log : CoreAccesses
    log = g.log

    logs : v.logs ≡ log ∷ []
    logs = g.lone

    abbrev now : World
    now = then opening cores banks room r.history

    abbrev history' : List Made
    history' = r.history ++ list

    held : AreHeld opening cores banks room r.history s.words log.core v.holds
    held = its_holds opening cores banks room r.history s.words v log knows logs

    its : (log.core < cores) × (log.list ≡ by_core log.core r.history)
    its = its_log opening cores banks room r.history s.words v log knows logs

    word : slice_index s.words (word_index part) ≡ log.core + 1
    word = held_word opening cores banks room r.history s.words log.core v.holds held part g.held

    within : part < cores + banks
    within = held_within opening cores banks room r.history s.words log.core v.holds held part g.held

    agree : (k : ℕ) → Holds k v.holds → now k ≡ g.world k
    agree = agrees_at g.world v.holds g.reached.agrees now (held_agrees opening cores banks room r.history s.words log.core v.holds held)

    run : IsSameRun cores banks g.world now list v.holds
    run = same_run cores banks laws (world_of opening) g.world now list v.holds
        (reached_fine opening cores banks room (in_this v) (refl, refl, refl, refl) g.world g.reached)
        (then_fine opening cores banks room laws r.history r.opened r.accesses) agree g.right g.asked g.inside

    -- the parts after them
    later_is : (k : ℕ) → then opening cores banks room history' k ≡ lived cores banks now list k
    later_is k = ap (λ (w : World). w k) (lived_append cores banks (world_of opening) r.history list)

    held_later : (k : ℕ) → Holds k v.holds → then opening cores banks room history' k ≡ lived cores banks g.world list k
    held_later k has = later_is k ∙ run.held k has

    other_later : (k : ℕ) → (Holds k v.holds → ⊥) → then opening cores banks room history' k ≡ now k
    other_later k other = later_is k ∙ run.others k other

    -- ---- the history

    longer : length history' ≡ length r.history + length list
    longer = length-append r.history list

    low_later : (k : ℕ) → (then opening cores banks room history' k).time ≤ length history'
    low_later k =
        let before = r.accesses.low k in
        let n = longer in
        elim (holds_or_not k v.holds) as (λ _. (then opening cores banks room history' k).time ≤ length history') [
          | inl has ↦
              let more = g.low (length r.history) (λ j held_too. let was = r.accesses.low j in let same = ap (λ (x : TimedPart). x.time) (agree j held_too) in omega (arith, was, same)) k has in
              let is = ap (λ (x : TimedPart). x.time) (held_later k has) in
              omega (arith, n, more, is)
          | inr other ↦ let is = ap (λ (x : TimedPart). x.time) (other_later k other) in omega (arith, before, n, is)
        ]

    none_of : (core : ℕ) → core ≢ log.core → by_core core list ≡ []
    none_of core other =
        none_own core list (All-weaker (λ a. a.entry.core ≡ log.core) (λ a. a.entry.core ≡ core → ⊥) (λ a is same. other (sym same ∙ is)) list g.own)

    same_core : (core : ℕ) → core ≢ log.core → by_core core history' ≡ by_core core r.history
    same_core core other = by_core_append core r.history list ∙ (ap (λ (xs : List Made). by_core core r.history ++ xs) (none_of core other) ∙ append-nil (by_core core r.history))

    own_core : by_core log.core history' ≡ log.list ++ list
    own_core = by_core_append log.core r.history list ∙ (ap (λ (xs : List Made). by_core log.core r.history ++ xs) (all_own log.core list g.own) ∙ ap (λ (xs : List Made). xs ++ list) (sym its.1))

    accesses' : AreAccesses opening cores banks room history'
    accesses' = record {
      asked = All-append (λ (a : Made). MayAsk cores banks (world_of opening) a.entry.core a.entry.request) r.history list r.accesses.asked g.asked;
      right = right_append cores banks (world_of opening) r.history list r.accesses.right run.right;
      low = low_later;
      fits = λ core.
          elim (cases_eq core log.core) as (λ _. length (by_core core history') ≤ room) [
            | inl own ↦
                let size : length (by_core core history') ≡ length log.list + length list = ap (λ (n : ℕ). length (by_core n history')) own ∙ (ap length own_core ∙ length-append log.list list) in
                let fits = g.room in
                omega (arith, size, fits)
            | inr other ↦ subst (λ (xs : List Made). length xs ≤ room) (sym (same_core core other)) (r.accesses.fits core)
          ];
    }

    -- ---- the words

    abbrev words' : List ℕ
    words' = slice_set s.words (word_index part) 0

    others : (k : ℕ) → k ≢ part → slice_index words' (word_index k) ≡ slice_index s.words (word_index k)
    others k other = get_or-set_other s.words (word_index part) (word_index k) 0 0 (words_apart k part other)

    free : slice_index words' (word_index part) ≡ 0
    free = get_or-set_same s.words (word_index part) 0 0 (let n = r.words in omega (arith, n, within))

    -- ---- the seats

    abbrev w : View
    w = given v log list left

    -- another seat has other cores
    other_cores : (place : ℕ) (u : View) → get_elem? s.views place ≡ some u → place ≢ id → (core : ℕ) → Has core u.logs → core ≢ log.core
    other_cores place u there other core has same_one =
        other (r.apart place id core u v there at has (subst (λ (n : ℕ). Has n v.logs) (sym same_one) (its_own v.logs log logs)))

    abbrev Known : List Made → CoreAccesses → Type 0
    Known list log = (log.core < cores) × (log.list ≡ by_core log.core list)

    same_logs : (ls : List CoreAccesses) → ((core : ℕ) → Has core ls → core ≢ log.core) → All (Known r.history) ls → All (Known history') ls
    same_logs [] apart all = All-nil (Known history')
    same_logs (l ∷ ls) apart all =
        let it : Known r.history l = All-head (Known r.history) l ls all in
        All-cons (Known history') l ls (it.0, it.1 ∙ sym (same_core l.core (apart l.core (inl refl))))
        (same_logs ls (λ core has. apart core (inr has)) (All-tail (Known r.history) l ls all))

    other_seat : (place : ℕ) (u : View) → get_elem? s.views place ≡ some u → place ≢ id → IsTrueOfHistory opening cores banks room history' words' u
    other_seat place u there other =
        let it : IsTrueOfHistory opening cores banks room r.history s.words u = r.seats place u there in
        record {
          begins = it.begins;
          logs = same_logs u.logs (other_cores place u there other) it.logs;
          distinct = it.distinct;
          holds = λ some_holds.
              let h = it.holds some_holds in
              let core_apart : h.0.core ≢ log.core = other_cores place u there other h.0.core (its_own u.logs h.0 h.1) in
              let its_word : (k : ℕ) → Holds k u.holds → slice_index s.words (word_index k) ≡ h.0.core + 1 = held_word opening cores banks room r.history s.words h.0.core u.holds h.2 in (
                h.0,
                h.1,
                held_stays opening cores banks room r.history history' s.words words' h.0.core u.holds h.2 (λ k has low. (
                  others k (λ same_part. core_apart (
                      let theirs = its_word k has in
                      let ours : slice_index s.words (word_index k) ≡ log.core + 1 = ap (λ (n : ℕ). slice_index s.words (word_index n)) same_part ∙ word in
                      omega (arith, theirs, ours))),
                  other_later k (λ mine. core_apart (
                      let theirs = its_word k has in
                      let ours = held_word opening cores banks room r.history s.words log.core v.holds held k mine in
                      omega (arith, theirs, ours))),
                )),
              );
          first = it.first;
        }

    left_is : left_by cores banks g.world list part v.holds ≡ left
    left_is = sym g.left_is

    own_seat : IsTrueOfHistory opening cores banks room history' words' w
    own_seat = record {
      begins = λ some_logs. begins;
      logs = All-cons (Known history') (record log { list = log.list ++ list }) [] (its.0, sym own_core) (All-nil (Known history'));
      distinct = ((λ no. no), tt);
      holds = λ some_holds. (
        record log { list = log.list ++ list },
        refl,
        subst (AreHeld opening cores banks room history' words' log.core) left_is
            (left_held cores banks g.world list part opening room r.history history' s.words words' log.core v.holds held others held_later),
      );
      first = λ some_made. inl (has_its 0 v.logs log logs (knows.first some_made));
    }

    kept : (core : ℕ) → Has core w.logs → Has core v.logs
    kept core (inl is) = subst (Has core) (sym logs) (inl is)
    kept core (inr never) = absurd never

    -- the first seat counts this one
    made_above : (place : ℕ) (u : View) → get_elem? (slice_set s.views id w) place ≡ some u → 0 < u.made → log.core < u.made
    made_above place u there counted = (fresh_stays s.views id v w at kept r.history refl r.fresh place u there counted).1 id log.core w (new_here s.views id v w at) (inl refl)

    pub given_rule : Rule (stepped s (word_index part) 0 id ((part, Some value) ∷ slots) (given v g.log list left) gives)
    given_rule = record {
      history = history';
      opened = r.opened;
      accesses = accesses';
      words = length-set s.words (word_index part) 0 ∙ r.words;
      homes = length-set s.homes part (some (Some value)) ∙ r.homes;
      home = λ k low zero_there.
          elim (cases_eq k part) as (λ _. get_elem? (slice_set s.homes part (some (Some value))) k ≡ some (some (Some (then opening cores banks room history' k)))) [
            | inl same_part ↦
                let whole : value ≡ then opening cores banks room history' k = g.value_is ∙ (sym (held_later part g.held) ∙ ap (then opening cores banks room history') (sym same_part)) in
                ap (get_elem? (slice_set s.homes part (some (Some value)))) same_part
                ∙ (set_here s.homes part (some (Some value)) (let n = r.homes in omega (arith, n, within)) ∙ ap (λ (x : TimedPart). some (some (Some x))) whole)
            | inr other ↦
                let before : slice_index s.words (word_index k) ≡ 0 = sym (others k other) ∙ zero_there in
                let not_held : Holds k v.holds → ⊥ = λ has. absurd (let is = held_word opening cores banks room r.history s.words log.core v.holds held k has in omega (arith, is, before)) in
                set_else s.homes part k (some (Some value)) other ∙ (r.home k low before ∙ ap (λ (x : TimedPart). some (some (Some x))) (sym (other_later k not_held)))
          ];
      busy = λ k low some_word.
          let other : k ≢ part = λ same_part. absurd (let zero_word : slice_index words' (word_index k) ≡ 0 = ap (λ (n : ℕ). slice_index words' (word_index n)) same_part ∙ free in omega (arith, zero_word, some_word)) in
          let b = r.busy k low (subst (λ (n : ℕ). 0 < n) (others k other) some_word) in
          elim (cases_eq b.0 id) as (λ _. (place : ℕ) × (u : View) × (get_elem? (slice_set s.views id w) place ≡ some u) × Holds k u.holds) [
            | inl here ↦
                let is_v : b.1 ≡ v = (let both : some b.1 ≡ some v = sym b.2 ∙ (ap (get_elem? s.views) here ∙ at) in cc) in
                (id, w, new_here s.views id v w at, subst (Holds k) left_is (has_left cores banks g.world list part k v.holds other (subst (λ (u : View). Holds k u.holds) is_v b.3)))
            | inr there ↦ (b.0, b.1, other_there s.views id v w at b.0 there ∙ b.2, b.3)
          ];
      seats = λ place u there.
          elim (at_set s.views id place w u there) as (λ _. IsTrueOfHistory opening cores banks room history' words' u) [
            | inl new ↦ subst (IsTrueOfHistory opening cores banks room history' words') new.1 own_seat
            | inr old ↦ other_seat place u old.1 old.0
          ];
      apart = apart_stays s.views id v w at kept r.apart;
      fresh = λ place u there counted.
          let before = fresh_stays s.views id v w at kept r.history refl r.fresh place u there counted in (
            All-append (λ (a : Made). a.entry.core < u.made) r.history list before.0
                (All-weaker (λ a. a.entry.core ≡ log.core) (λ a. a.entry.core < u.made) (λ a is. subst (λ (n : ℕ). n < u.made) (sym is) (made_above place u there counted)) list g.own),
            before.1,
          );
    }

  -- ---- the step

  pub gives_part : MachineLaws → (slots id part : ℕ) (v : View) (value : TimedPart) (rest : List (ℕ × Option TimedPart)) (list : List Made) (left : List Hold)
      → MayGive v part value list left
      → Allows Rule slots id (v, (part, Some value) ∷ rest) (word_index part) (λ _. 0) (λ _. gave list left (step slots (word_index part) 0 0 none) (v, (part, Some value) ∷ rest) 0)
  gives_part laws slots id part v value rest list left may = λ s r long at small.
      let is_part : part ≡ part_of_step (step {S = Option TimedPart} slots (word_index part) 0 0 none) = omega arith in
      let it = g laws s r id v at part value list left may rest in (
        given v it.log list left,
        gives,
        tt,
        given_rule laws s r id v at part value list left may rest,
        subst (λ (k : ℕ). gave_at list left k (v, (part, Some value) ∷ rest) (given v it.log list left, rest)) is_part
            (λ slot others log in_hand logs.
            let one : it.log ∷ [] ≡ log ∷ [] = sym it.lone ∙ logs in
            let two : it.log ≡ log = cc in
            let three : rest ≡ others = cc in
            λ i. (given v (two i) list left, three i)),
      )
