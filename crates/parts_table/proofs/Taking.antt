-- A part is taken, or found to be held.
use Rattle.std.proofs.Common.{◌≡◌, ℕ, zero, suc, ◌+◌, ◌/◌, ◌<◌, ◌≤◌, ◌≢◌, ◌==◌, All, List, [], ◌∷◌, length, refl, sym, ◌∙◌, ap, subst, arith, inl, inr}
use Rattle.std.specs.Prelude.{slice_index, slice_set, Option, Some}
use mathlib.Core.Option.{some, none}
use lib.ListN.{get_elem?}
use prog.Atomic.{either}
use Rattle.std.proofs.lemmas.Bool.{cases_eq}
use Rattle.std.proofs.lemmas.List.{get_or-set_other, get_or-set_same, length-set}
use Rattle.atomic_table.specs.Table.{Act, Allows, State, Valid, carried_after, keeps, step, stepped, takes}
use Rattle.atomic_table.proofs.Lists.{at_set, exchanged, set_again, set_else}
use Rattle.parts_table.specs.declared.part.TimedPart.{TimedPart}
use Rattle.parts_table.specs.declared.view.CoreAccesses.{CoreAccesses}
use Rattle.parts_table.specs.declared.view.Made.{Made}
use Rattle.parts_table.specs.declared.view.View.{View}
use Rattle.parts_table.specs.MachineLaws.{MachineLaws}
use Rattle.parts_table.specs.Rule.{AreHeld, AreHoldsAtTable, Holds, IsTrueOfHistory, word_index}
use Rattle.parts_table.specs.Steps.{IsTaken, same, taken, taken_at}
use Rattle.parts_table.specs.Views.{holding}
use Rattle.parts_table.specs.World.{World, world_of}
use Rattle.parts_table.proofs.Held.{few, fine_reached, held_agrees, held_stays, held_word, its_holds, its_log, most_is, then, then_fine}
use Rattle.parts_table.proofs.Seats.{apart_stays, fresh_stays, new_here, other_there}
use Rattle.parts_table.proofs.Times.{own_risen}

-- the words of different parts are different
pub words_apart : (k part : ℕ) → k ≢ part → word_index k ≢ word_index part
words_apart k part other same = other (omega (arith, same))

-- a word as it is, written again
pub same_word : (words : List ℕ) (i : ℕ) → slice_set words i (slice_index words i) ≡ words
same_word [] i = refl
same_word (n ∷ words) zero = refl
same_word (n ∷ words) (suc i) = ap (λ (ms : List ℕ). n ∷ ms) (same_word words i)

module _ (opening : List (Option TimedPart)) (cores banks room : ℕ) where
  abbrev Rule : State (Option TimedPart) View → Type 0
  Rule = AreHoldsAtTable opening cores banks room

  -- ---- nobody holds the part

  module _ (laws : MachineLaws) (s : State (Option TimedPart) View) (r : Rule s) (id : ℕ) (v : View) (at : get_elem? s.views id ≡ some v)
      (part core : ℕ) (log : CoreAccesses) (logs : v.logs ≡ log ∷ []) (own : log.core ≡ core) (within : part < cores + banks) (free : slice_index s.words (word_index part) ≡ 0) where
    knows : IsTrueOfHistory opening cores banks room r.history s.words v
    knows = r.seats id v at

    begins : (v.opening ≡ opening) × (v.cores ≡ cores) × (v.banks ≡ banks) × (v.room ≡ room)
    begins = knows.begins (subst (λ (ls : List CoreAccesses). 0 < length ls) (sym logs) (omega arith))

    abbrev now : World
    now = then opening cores banks room r.history

    abbrev value : TimedPart
    value = now part

    held : AreHeld opening cores banks room r.history s.words log.core v.holds
    held = its_holds opening cores banks room r.history s.words v log knows logs

    -- a part with a holder is another
    apart_from : (u : View) (l : CoreAccesses) → AreHeld opening cores banks room r.history s.words l.core u.holds → (k : ℕ) → Holds k u.holds → k ≢ part
    apart_from u l has k holds same =
        absurd (
        let word : slice_index s.words (word_index k) ≡ l.core + 1 = held_word opening cores banks room r.history s.words l.core u.holds has k holds in
        let none_word : slice_index s.words (word_index k) ≡ 0 = ap (λ (n : ℕ). slice_index s.words (word_index n)) same ∙ free in
        omega (arith, word, none_word))

    pub apart : Holds part v.holds → ⊥
    apart holds = apart_from v log held part holds refl

    abbrev w : View
    w = holding v part value

    abbrev words' : List ℕ
    words' = slice_set s.words (word_index part) (core + 1)

    mine : slice_index words' (word_index part) ≡ core + 1
    mine = get_or-set_same s.words (word_index part) (core + 1) 0 (let n = r.words in omega (arith, n, within))

    others : (k : ℕ) → k ≢ part → slice_index words' (word_index k) ≡ slice_index s.words (word_index k)
    others k other = get_or-set_other s.words (word_index part) (word_index k) (core + 1) 0 (words_apart k part other)

    with_words : (u : View) (l : CoreAccesses) → AreHeld opening cores banks room r.history s.words l.core u.holds → AreHeld opening cores banks room r.history words' l.core u.holds
    with_words u l has = held_stays opening cores banks room r.history r.history s.words words' l.core u.holds has (λ k holds low. (others k (apart_from u l has k holds), refl))

    own_seat : IsTrueOfHistory opening cores banks room r.history words' w
    own_seat = record {
      begins = knows.begins;
      logs = knows.logs;
      distinct = knows.distinct;
      holds = λ some_holds. (log, logs, (within, mine ∙ ap (λ (n : ℕ). n + 1) (sym own), refl, apart, with_words v log held));
      first = knows.first;
    }

    other_seat : (place : ℕ) (u : View) → get_elem? s.views place ≡ some u → IsTrueOfHistory opening cores banks room r.history words' u
    other_seat place u there =
        let it : IsTrueOfHistory opening cores banks room r.history s.words u = r.seats place u there in
        record {
          begins = it.begins;
          logs = it.logs;
          distinct = it.distinct;
          holds = λ some_holds. let h = it.holds some_holds in (h.0, h.1, with_words u h.0 h.2);
          first = it.first;
        }

    pub taken_rule : Rule (stepped s (word_index part) (core + 1) id [] w (takes part (Some value)))
    taken_rule = record {
      history = r.history;
      opened = r.opened;
      accesses = r.accesses;
      words = length-set s.words (word_index part) (core + 1) ∙ r.words;
      homes = length-set s.homes part none ∙ r.homes;
      home = λ k low zero_there.
          elim (cases_eq k part) as (λ _. get_elem? (slice_set s.homes part none) k ≡ some (some (Some (now k)))) [
            | inl same ↦ absurd (let word : slice_index words' (word_index k) ≡ core + 1 = ap (λ (n : ℕ). slice_index words' (word_index n)) same ∙ mine in omega (arith, word, zero_there))
            | inr other ↦ set_else s.homes part k none other ∙ r.home k low (sym (others k other) ∙ zero_there)
          ];
      busy = λ k low some_word.
          elim (cases_eq k part) as (λ _. (place : ℕ) × (u : View) × (get_elem? (slice_set s.views id w) place ≡ some u) × Holds k u.holds) [
            | inl same_part ↦ (id, w, new_here s.views id v w at, inl (sym same_part))
            | inr other ↦
                let b = r.busy k low (subst (λ (n : ℕ). 0 < n) (others k other) some_word) in
                elim (cases_eq b.0 id) as (λ _. (place : ℕ) × (u : View) × (get_elem? (slice_set s.views id w) place ≡ some u) × Holds k u.holds) [
                  | inl here ↦
                      let is_v : b.1 ≡ v = (let both : some b.1 ≡ some v = sym b.2 ∙ (ap (get_elem? s.views) here ∙ at) in cc) in
                      (id, w, new_here s.views id v w at, inr (subst (λ (u : View). Holds k u.holds) is_v b.3))
                  | inr there ↦ (b.0, b.1, other_there s.views id v w at b.0 there ∙ b.2, b.3)
                ]
          ];
      seats = λ place u here.
          elim (at_set s.views id place w u here) as (λ _. IsTrueOfHistory opening cores banks room r.history words' u) [
            | inl new ↦ subst (IsTrueOfHistory opening cores banks room r.history words') new.1 own_seat
            | inr old ↦ other_seat place u old.1
          ];
      apart = apart_stays s.views id v w at (λ c has. has) r.apart;
      fresh = fresh_stays s.views id v w at (λ c has. has) r.history refl r.fresh;
    }

    pub is_taken : IsTaken v part value
    is_taken = record {
      apart = apart;
      world = now;
      reached = fine_reached opening cores banks room w begins now (then_fine opening cores banks room laws r.history r.opened r.accesses)
          (refl, held_agrees opening cores banks room r.history s.words log.core v.holds held);
      low = λ k.
          let low = r.accesses.low k in
          let all = few opening cores banks room r.history r.accesses in
          let most = most_is opening cores banks room v begins now in
          omega (arith, low, all, most);
      risen = λ l is.
          let mine : l ≡ log = (let both : l ∷ [] ≡ log ∷ [] = sym is ∙ logs in cc) in
          subst (λ (x : CoreAccesses). All (λ a. a.time ≤ (now x.core).time) x.list) (sym mine)
          (subst (λ (list : List Made). All (λ a. a.time ≤ (now log.core).time) list) (sym (its_log opening cores banks room r.history s.words v log knows logs).1)
          (own_risen cores banks (world_of opening) r.history r.accesses.right log.core));
    }

  -- ---- another core has it

  -- a step that changes no word and no view
  pub nothing_rule : (s : State (Option TimedPart) View) (id i : ℕ) (v : View) → Rule s → get_elem? s.views id ≡ some v → Rule (stepped s i (slice_index s.words i) id [] v keeps)
  nothing_rule s id i v r at =
      subst (λ (ws : List ℕ). Rule (record { words = ws; homes = s.homes; views = slice_set s.views id v })) (sym (same_word s.words i))
      (subst (λ (vs : List View). Rule (record { words = s.words; homes = s.homes; views = vs })) (sym (set_again s.views id v at)) r)

  -- ---- the step

  pub takes_part : MachineLaws → (slots id part core : ℕ) (v : View) (held : List (ℕ × Option TimedPart)) (log : CoreAccesses) → v.logs ≡ log ∷ [] → log.core ≡ core → part < cores + banks
      → Allows Rule slots id (v, held) (word_index part) (λ n. either (n == 0) (core + 1) n) (taken (step slots (word_index part) 0 (core + 1) none) (v, held))
  takes_part laws slots id part core v held log logs own within = λ s r long at small.
      let found : ℕ = slice_index s.words (word_index part) in
      let value : TimedPart = then opening cores banks room r.history part in
      let is_part : part ≡ word_index part / 16 = omega arith in
      let F : ℕ → Type 0 = λ n. (w : View) × (a : Act (Option TimedPart)) × Valid s.homes held a × Rule (stepped s (word_index part) n id held w a)
      × taken (step slots (word_index part) 0 (core + 1) none) (v, held) found (w, carried_after held a) in
      exchanged found 0 (core + 1) F
      (λ free. (
        holding v part value,
        takes part (Some value),
        r.home part within free,
        taken_rule laws s r id v at part core log logs own within free,
        subst (λ (k : ℕ). taken_at k (v, held) found (holding v part value, (part, Some value) ∷ held)) is_part
            ((λ _. (value, refl, is_taken laws s r id v at part core log logs own within free)), (λ other. absurd (other free))),
      ))
      (λ other. (
        v,
        keeps,
        tt,
        nothing_rule s id (word_index part) v r at,
        ((λ free. absurd (other free)), (λ _. refl)),
      ))
