-- What comes into a set takes a free way, or that of the victim.
use Rattle.std.proofs.Common.{◌≡◌, ℕ, zero, suc, ◌+◌, ◌-◌, ◌<◌, ◌≤◌, true, false, cond, eqb, List, [], ◌∷◌, ◌++◌, length, get_or, take, set, Some, None, refl, sym, ap, ◌∙◌, subst, arith, inl, inr}
use Rattle.std.specs.List.{remove}
use Rattle.std.specs.Prelude.{nat_lt, slice_get}
use Rattle.std.proofs.lemmas.Bool.{cases_eq, ne_eqb}
use Rattle.std.proofs.lemmas.List.{length-map, take_all, get_or_default}
use Rattle.std.proofs.lemmas.List.Edits.{length-remove}
use Rattle.std.proofs.lemmas.Option.{slice_get_past}
use Rattle.std.proofs.Math.Seq.{take-append_seam}
use Rattle.cache_set.specs.Ages.{AreAged, by_age, put_by_age, rows_in, ways_in}
use Rattle.cache_set.specs.Ways.{filled, victim_of}
use Rattle.cache_set.proofs.ByAge.{AllOf, the_ways}
use Rattle.cache_set.proofs.WaysByAge.{filled_anew, free_before, length_rows, oldest_before, others_than}

-- ---- lengths

module _ {X : Type 0} where
  length_put : (w : ℕ × (ℕ × X)) (ws : List (ℕ × (ℕ × X))) → length (put_by_age w ws) ≡ suc (length ws)
  length_put w [] = refl
  length_put w (v ∷ ws) =
      elim (nat_lt v.0 w.0) as (λ b. length (cond b (w ∷ v ∷ ws) (v ∷ put_by_age w ws)) ≡ suc (suc (length ws))) [
        | true ↦ refl
        | false ↦ ap suc (length_put w ws)
      ]

  no_more_ways : (ws : List (ℕ × (ℕ × X))) → length (by_age ws) ≤ length ws
  no_more_ways [] = omega arith
  no_more_ways (w ∷ ws) =
      elim (eqb w.0 0) as (λ b. length (cond b (by_age ws) (put_by_age w (by_age ws))) ≤ suc (length ws)) [
        | true ↦ omega (arith, no_more_ways ws)
        | false ↦ omega (arith, no_more_ways ws, length_put w (by_age ws))
      ]

  all_ways : (ws : List (ℕ × (ℕ × X))) → AllOf (λ w. 0 < w.0) ws → length (by_age ws) ≡ length ws
  all_ways [] all = refl
  all_ways (w ∷ ws) all = rw (ne_eqb w.0 0 (λ e. omega (arith, e, all.0))) (length_put w (by_age ws) ∙ ap suc (all_ways ws all.1))

  all_live : (ages tags : List ℕ) (kept : List X) → ((j : ℕ) → j < length ages → 0 < get_or ages j 0) → AllOf (λ w. 0 < w.0) (rows_in ages tags kept)
  all_live [] tags kept h = tt
  all_live (a ∷ ages) [] kept h = tt
  all_live (a ∷ ages) (g ∷ tags) [] h = tt
  all_live (a ∷ ages) (g ∷ tags) (m ∷ kept) h = (h 0 (omega arith), all_live ages tags kept (λ j l. h (suc j) (omega arith)))

  length_more : (xs : List (ℕ × X)) (v : ℕ × X) → length (xs ++ (v ∷ [])) ≡ length xs + 1
  length_more [] v = refl
  length_more (x ∷ xs) v = omega (arith, length_more xs v)

  length_ways : (ws : List (ℕ × (ℕ × X))) → length (the_ways ws) ≡ length ws
  length_ways ws = length-map ws (λ w. w.1)

  last_of : (xs : List (ℕ × X)) (v : ℕ × X) (n : ℕ) → n ≡ length xs → slice_get (xs ++ (v ∷ [])) n ≡ Some v
  last_of [] v zero e = refl
  last_of [] v (suc n) e = absurd (omega arith)
  last_of (x ∷ xs) v zero e = absurd (omega arith)
  last_of (x ∷ xs) v (suc n) e = last_of xs v n (omega arith)

module _ {X : Type 0} {ways tick : ℕ} {ages tags : List ℕ} (aged : AreAged ways tick ages tags) (kept : List X) (kept_are : length kept ≡ ways)
    (some : 1 ≤ ways) (i : ℕ) (within : i < ways) (oldest : (j : ℕ) → j < ways → get_or ages i 0 ≤ get_or ages j 0) (d : X) where
  abbrev it : X
  it = get_or kept i d

  it_is : get_or kept i it ≡ it
  it_is = get_or_default kept i it d (omega (arith, within, kept_are))

  others : List (ℕ × X)
  others = the_ways (others_than aged kept kept_are i within)

  many : length (rows_in ages tags kept) ≡ ways
  many = length_rows ages tags kept (omega (arith, aged.ages_are, aged.tags_are)) (omega (arith, aged.ages_are, kept_are)) ∙ aged.ages_are

  fewer : length others + 1 ≤ ways
  unfolding others
  fewer =
      omega (
        arith,
        length_ways (by_age (remove (rows_in ages tags kept) i)),
        no_more_ways (remove (rows_in ages tags kept) i),
        length-remove (rows_in ages tags kept) i (omega (arith, within, many)),
        many,
      )

  when_free : get_or ages i 0 ≡ 0 → ways_in ages tags kept ≡ others
  unfolding others
  when_free free = free_before aged kept kept_are i within it it_is free

  when_full : 0 < get_or ages i 0 → ways_in ages tags kept ≡ others ++ ((get_or tags i 0, it) ∷ [])
  unfolding others
  when_full live = oldest_before aged kept kept_are i within it it_is live oldest

  full : 0 < get_or ages i 0 → length (ways_in ages tags kept) ≡ ways
  full live =
      length_ways (by_age (rows_in ages tags kept))
      ∙ (all_ways (rows_in ages tags kept) (all_live ages tags kept (λ j l. omega (arith, live, oldest j (omega (arith, l, aged.ages_are))))) ∙ many)

  not_full : get_or ages i 0 ≡ 0 → length (ways_in ages tags kept) + 1 ≤ ways
  not_full free = subst (λ (l : List (ℕ × X)). length l + 1 ≤ ways) (sym (when_free free)) fewer

  length_others : 0 < get_or ages i 0 → length others + 1 ≡ ways
  length_others live = sym (length_more others (get_or tags i 0, it)) ∙ (ap length (sym (when_full live)) ∙ full live)

  pub no_victim : get_or ages i 0 ≡ 0 → victim_of ways (ways_in ages tags kept) ≡ None
  no_victim free = slice_get_past (ways_in ages tags kept) (ways - 1) (omega (arith, not_full free))

  pub the_victim : 0 < get_or ages i 0 → victim_of ways (ways_in ages tags kept) ≡ Some (get_or tags i 0, get_or kept i d)
  the_victim live =
      ap (λ (l : List (ℕ × X)). slice_get l (ways - 1)) (when_full live)
      ∙ last_of others (get_or tags i 0, it) (ways - 1) (omega (arith, length_others live))

  filled_to : (line : ℕ) (x : X) → filled ways line x (ways_in ages tags kept) ≡ (line, x) ∷ others
  filled_to line x =
      elim (cases_eq (get_or ages i 0) 0) as (λ _. filled ways line x (ways_in ages tags kept) ≡ (line, x) ∷ others) [
        | inl free ↦ ap (λ (l : List (ℕ × X)). take ways ((line, x) ∷ l)) (when_free free) ∙ take_all ways ((line, x) ∷ others) (omega (arith, fewer))
        | inr e ↦
            let live : 0 < get_or ages i 0 = omega (arith, e) in
            let count : ways ≡ length ((line, x) ∷ others) = omega (arith, length_others live) in
            ap (λ (l : List (ℕ × X)). take ways ((line, x) ∷ l)) (when_full live)
            ∙ (ap (λ (n : ℕ). take n ((line, x) ∷ others ++ ((get_or tags i 0, it) ∷ []))) count
            ∙ take-append_seam ((line, x) ∷ others) ((get_or tags i 0, it) ∷ []))
      ]

  pub filled_is : (age line : ℕ) (x : X) → tick < age → ways_in (set ages i age) (set tags i line) (set kept i x) ≡ filled ways line x (ways_in ages tags kept)
  unfolding others
  filled_is age line x later = filled_anew aged kept kept_are i within age line x later ∙ sym (filled_to line x)
