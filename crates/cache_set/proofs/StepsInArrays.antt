-- What each step does to the arrays of a cache, and to the sets that they stand for.
use Rattle.std.proofs.Common.{◌≡◌, ℕ, ◌+◌, ◌-◌, ◌*◌, ◌/◌, ◌%◌, ◌<◌, ◌≤◌, List, [], ◌∷◌, length, get_or, set, Some, None, sym, ap, ◌∙◌, subst, arith, inl, inr}
use Rattle.std.proofs.lemmas.Bool.{cases_eq}
use Rattle.std.proofs.lemmas.Nat.{mod_below}
use Rattle.std.proofs.lemmas.List.{get_or-set_other, get_or-set_same}
use Rattle.cache_set.specs.Lines.{in_set_of, set_number, set_of}
use Rattle.cache_set.specs.Pieces.{AreAgedSets, IsSameOrder, sets_in}
use Rattle.cache_set.specs.Ways.{kept_of, without, used, filled, changed, victim_of}
use Rattle.cache_set.proofs.SetsInArrays.{absent_where_none, aged_freed, aged_sets_anew, aged_used, aged_with, changed_standing, filled_in_set, first_standing, kept_nowhere, kept_standing, length_sets, live_after, no_victim_in, place_within, the_victim_in, used_standing, without_nowhere, without_standing}
use Rattle.cache_set.specs.Places.{IsNext, StandsAt, StandsNowhere, set_number_in}

-- ---- over whatever is kept

module _ {X : Type 0} {sets ways tick : ℕ} {ages tags : List ℕ} (are : AreAgedSets sets ways tick ages tags) (some_sets : 0 < sets) (shards line : ℕ)
    (kept : List X) (long : length kept ≡ sets * ways) (d : X) where
  abbrev n : ℕ
  n = set_number_in shards sets line

  pub n_within : n < sets
  n_within = mod_below (line / shards) sets some_sets

  abbrev S : List (List (ℕ × X))
  S = sets_in sets ways ages tags kept

  number : set_number shards line S ≡ n
  number = ap (λ (c : ℕ). line / shards % c) (length_sets sets ways ages tags kept)

  pub set_is : set_of shards line S ≡ get_or S n []
  set_is = ap (λ (j : ℕ). get_or S j []) number

  pub in_set_is : (f : List (ℕ × X) → List (ℕ × X)) → in_set_of shards line f S ≡ set S n (f (get_or S n []))
  in_set_is f = ap (λ (j : ℕ). set S j (f (get_or S j []))) number

  pub nowhere_kept : StandsNowhere ways ages tags n line → kept_of line (set_of shards line S) ≡ None
  nowhere_kept lacks = ap (kept_of line) set_is ∙ kept_nowhere are n n_within line lacks.nowhere kept long

  pub nowhere_without : StandsNowhere ways ages tags n line → in_set_of shards line (without line) S ≡ S
  nowhere_without lacks = in_set_is (without line) ∙ without_nowhere are n n_within line lacks.nowhere kept long

  module _ (p : ℕ) (at : StandsAt ways ages tags n line p) where
    abbrev i : ℕ
    i = p - n * ways

    i_within : i < ways
    i_within = omega (arith, at.from, at.to)

    at_i : p ≡ n * ways + i
    at_i = omega (arith, at.from)

    pub somewhere_kept : kept_of line (set_of shards line S) ≡ Some (get_or kept p d)
    somewhere_kept = ap (kept_of line) set_is ∙ kept_standing are n i p n_within i_within at_i line at.live at.tag kept long d

    pub sets_without : sets_in sets ways (set ages p 0) tags kept ≡ in_set_of shards line (without line) S
    sets_without = without_standing are n i p n_within i_within at_i line at.live at.tag kept long d ∙ sym (in_set_is (without line))

    pub sets_changed : (y : X) → sets_in sets ways ages tags (set kept p y) ≡ in_set_of shards line (changed line y) S
    sets_changed y = changed_standing are n i p n_within i_within at_i line at.live at.tag kept long d y ∙ sym (in_set_is (changed line y))

    pub sets_used : (age : ℕ) → tick < age → sets_in sets ways (set ages p age) tags kept ≡ in_set_of shards line (used line) S
    sets_used age later = used_standing are n i p n_within i_within at_i line at.live at.tag kept long d age later ∙ sym (in_set_is (used line))

    pub sets_first : (age : ℕ) (y : X) → tick < age → sets_in sets ways (set ages p age) tags (set kept p y) ≡ in_set_of shards line (λ others. (line, y) ∷ without line others) S
    sets_first age y later =
        first_standing are n i p n_within i_within at_i line at.live at.tag kept long d age y later ∙ sym (in_set_is (λ others. (line, y) ∷ without line others))

  module _ (p : ℕ) (some : 1 ≤ ways) (next : IsNext ways ages n p) where
    abbrev j : ℕ
    j = p - n * ways

    j_within : j < ways
    j_within = omega (arith, next.from, next.to)

    at_j : p ≡ n * ways + j
    at_j = omega (arith, next.from)

    pub next_free : get_or ages p 0 ≡ 0 → victim_of ways (set_of shards line S) ≡ None
    next_free free = ap (victim_of ways) set_is ∙ no_victim_in are n j p n_within j_within at_j some next.oldest kept long d free

    pub next_full : 0 < get_or ages p 0 → victim_of ways (set_of shards line S) ≡ Some (get_or tags p 0, get_or kept p d)
    next_full live = ap (victim_of ways) set_is ∙ the_victim_in are n j p n_within j_within at_j some next.oldest kept long d live

    pub sets_filled : (age : ℕ) (y : X) → tick < age → sets_in sets ways (set ages p age) (set tags p line) (set kept p y) ≡ in_set_of shards line (filled ways line y) S
    sets_filled age y later = filled_in_set are n j p n_within j_within at_j some next.oldest kept long d age line y later ∙ sym (in_set_is (filled ways line y))

    pub aged_filled : (age : ℕ) → tick < age → kept_of line (set_of shards line S) ≡ None → AreAgedSets sets ways age (set ages p age) (set tags p line)
    aged_filled age later none =
        aged_with are n j p n_within j_within at_j age line later
        (λ k b apart. absent_where_none are n n_within line kept long d (sym (ap (kept_of line) set_is) ∙ none) k b)

module _ {sets ways tick : ℕ} {ages tags : List ℕ} (are : AreAgedSets sets ways tick ages tags) (some_sets : 0 < sets) (shards line p : ℕ)
    (at : StandsAt ways ages tags (set_number_in shards sets line) line p) where
  n2 : set_number_in shards sets line < sets
  n2 = mod_below (line / shards) sets some_sets

  pub within_all : p < sets * ways
  within_all = omega (arith, place_within are (set_number_in shards sets line) (p - set_number_in shards sets line * ways) p n2 (omega (arith, at.from, at.to)) (omega (arith, at.from)), are.ages_are)

  pub aged_free_at : AreAgedSets sets ways tick (set ages p 0) tags
  aged_free_at = aged_freed are (set_number_in shards sets line) (p - set_number_in shards sets line * ways) p n2 (omega (arith, at.from, at.to)) (omega (arith, at.from))

  pub aged_used_at : (age : ℕ) → tick < age → AreAgedSets sets ways age (set ages p age) tags
  aged_used_at age later =
      aged_used are (set_number_in shards sets line) (p - set_number_in shards sets line * ways) p n2 (omega (arith, at.from, at.to)) (omega (arith, at.from)) line at.live at.tag age later

-- ---- after the next age is taken

module _ {sets ways tick : ℕ} {ages tags : List ℕ} (are : AreAgedSets sets ways tick ages tags) (age : ℕ) (anew : List ℕ) (order : IsSameOrder sets ways ages anew) (all : length anew ≡ sets * ways)
    (later : (q : ℕ) → q < sets * ways → get_or anew q 0 < age) where
  -- ages are given from 1 on
  pub aged_next : 0 < age → AreAgedSets sets ways (age - 1) anew tags
  aged_next some = aged_sets_anew (age - 1) anew are (all ∙ sym are.ages_are) (λ q l. omega (arith, later q (omega (arith, l, are.ages_are)), some)) order

  pub stands_next : (n line p : ℕ) → n < sets → StandsAt ways ages tags n line p → StandsAt ways anew tags n line p
  stands_next n line p l at =
      record {
        from = at.from;
        to = at.to;
        live = live_after are anew order p (omega (arith, place_within are n (p - n * ways) p l (omega (arith, at.from, at.to)) (omega (arith, at.from)), are.ages_are)) at.live;
        tag = at.tag;
      }

  pub live_then : (p : ℕ) (q : ℕ) → q < sets * ways → 0 < age → 0 < get_or ages q 0 → 0 < get_or (set anew p age) q 0
  live_then p q l some live =
      elim (cases_eq q p) as (λ _. 0 < get_or (set anew p age) q 0) [
        | inl e ↦ subst (λ (k : ℕ). 0 < get_or (set anew k age) q 0) e (subst (λ (v : ℕ). 0 < v) (sym (get_or-set_same anew q age 0 (omega (arith, l, all)))) some)
        | inr apart ↦ subst (λ (v : ℕ). 0 < v) (sym (get_or-set_other anew p q age 0 apart)) (live_after are anew order q l live)
      ]
