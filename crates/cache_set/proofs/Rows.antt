-- What each call does to the ages, the tags and the marks of a set, and that they stay rows of a set.
use Rattle.std.proofs.Common.{◌≡◌, ◌≢◌, ℕ, zero, suc, ◌+◌, ◌-◌, ◌^◌, ◌<◌, ◌≤◌, true, false, cond, eqb, List, [], ◌∷◌, ◌++◌, length, get_or, take, set, replicate, Option, Some, None, refl, sym, ap, ◌∙◌, subst, arith, inl, inr}
use Rattle.std.specs.List.{remove, IsDistinct}
use Rattle.std.specs.Prelude.{◌⊎◌, ◌↔◌, IsNone, IsSome, nat_lt, option_map, slice_get}
use Rattle.std.proofs.lemmas.Bool.{cases_eq, eq-eqb, ne_eqb}
use Rattle.std.proofs.lemmas.Grind.{get_or_default_zero}
use Rattle.std.proofs.lemmas.List.{length-set, length-map, take_all, get_or-set_same, get_or-set_other, get_or-replicate, length-replicate}
use Rattle.std.proofs.lemmas.List.Edits.{length-remove}
use Rattle.std.proofs.lemmas.Option.{slice_get_past}
use Rattle.std.proofs.Math.Seq.{take-append_seam}
use Rattle.cache_set.specs.Ages.{AreAged, IsPlaceOf, HasNoPlace, by_age, put_by_age, renumbered, rows_in, ways_in}
use Rattle.cache_set.specs.Ways.{kept_of, without, used, filled, changed, victim_of}
use Rattle.cache_set.specs.WaySets.{IsWaySet, way_of}
use Rattle.cache_set.specs.Rows.{AreRows, way_at}
use Rattle.cache_set.proofs.ByAge.{AllOf, the_ways}
use Rattle.cache_set.proofs.Renumbered.{aged_anew, same_order}
use Rattle.cache_set.proofs.Sets.{set-without, set-used, set-changed, set-filled}
use Rattle.cache_set.proofs.WaysByAge.{changed_at, filled_anew, free_before, kept_at, kept_none, length_rows, oldest_before, others_than, set_as_it_is, used_at, without_at, without_none}

-- ---- lengths

length_put : (w : ℕ × (ℕ × ℕ)) (ws : List (ℕ × (ℕ × ℕ))) → length (put_by_age w ws) ≡ suc (length ws)
length_put w [] = refl
length_put w (v ∷ ws) =
    elim (nat_lt v.0 w.0) as (λ b. length (cond b (w ∷ v ∷ ws) (v ∷ put_by_age w ws)) ≡ suc (suc (length ws))) [
      | true ↦ refl
      | false ↦ ap suc (length_put w ws)
    ]

no_more_ways : (ws : List (ℕ × (ℕ × ℕ))) → length (by_age ws) ≤ length ws
no_more_ways [] = omega arith
no_more_ways (w ∷ ws) =
    elim (eqb w.0 0) as (λ b. length (cond b (by_age ws) (put_by_age w (by_age ws))) ≤ suc (length ws)) [
      | true ↦ omega (arith, no_more_ways ws)
      | false ↦ omega (arith, no_more_ways ws, length_put w (by_age ws))
    ]

all_ways : (ws : List (ℕ × (ℕ × ℕ))) → AllOf (λ w. 0 < w.0) ws → length (by_age ws) ≡ length ws
all_ways [] all = refl
all_ways (w ∷ ws) all = rw (ne_eqb w.0 0 (λ e. omega (arith, e, all.0))) (length_put w (by_age ws) ∙ ap suc (all_ways ws all.1))

all_live : (ages tags marks : List ℕ) → ((j : ℕ) → j < length ages → 0 < get_or ages j 0) → AllOf (λ w. 0 < w.0) (rows_in ages tags marks)
all_live [] tags marks h = tt
all_live (a ∷ ages) [] marks h = tt
all_live (a ∷ ages) (g ∷ tags) [] h = tt
all_live (a ∷ ages) (g ∷ tags) (m ∷ marks) h = (h 0 (omega arith), all_live ages tags marks (λ j l. h (suc j) (omega arith)))

length_more : (xs : List (ℕ × ℕ)) (v : ℕ × ℕ) → length (xs ++ (v ∷ [])) ≡ length xs + 1
length_more [] v = refl
length_more (x ∷ xs) v = omega (arith, length_more xs v)

length_ways : (ws : List (ℕ × (ℕ × ℕ))) → length (the_ways ws) ≡ length ws
length_ways ws = length-map ws (λ w. w.1)

last_of : (xs : List (ℕ × ℕ)) (v : ℕ × ℕ) (n : ℕ) → n ≡ length xs → slice_get (xs ++ (v ∷ [])) n ≡ Some v
last_of [] v zero e = refl
last_of [] v (suc n) e = absurd (omega arith)
last_of (x ∷ xs) v zero e = absurd (omega arith)
last_of (x ∷ xs) v (suc n) e = last_of xs v n (omega arith)

all_free : (ages tags marks : List ℕ) → ((j : ℕ) → j < length ages → get_or ages j 0 ≡ 0) → by_age (rows_in ages tags marks) ≡ []
all_free [] tags marks h = refl
all_free (a ∷ ages) [] marks h = refl
all_free (a ∷ ages) (g ∷ tags) [] h = refl
all_free (a ∷ ages) (g ∷ tags) (m ∷ marks) h = rw (eq-eqb a 0 (h 0 (omega arith))) (all_free ages tags marks (λ j l. h (suc j) (omega arith)))

-- ---- one place is set

WasSet : (xs : List ℕ) (i v j : ℕ) → Type 0
WasSet xs i v j = ((j ≡ i) × (get_or (set xs i v) j 0 ≡ v)) ⊎ ((j ≢ i) × (get_or (set xs i v) j 0 ≡ get_or xs j 0))

was_set : (xs : List ℕ) (i v j : ℕ) → i < length xs → WasSet xs i v j
unfolding WasSet
was_set xs i v j l =
    elim (cases_eq j i) as (λ _. ((j ≡ i) × (get_or (set xs i v) j 0 ≡ v)) ⊎ ((j ≢ i) × (get_or (set xs i v) j 0 ≡ get_or xs j 0))) [
      | inl e ↦ inl (e, subst (λ (n : ℕ). get_or (set xs i v) n 0 ≡ v) (sym e) (get_or-set_same xs i v 0 l))
      | inr e ↦ inr (e, get_or-set_other xs i j v 0 e)
    ]

module _ {ways tick : ℕ} {ages tags : List ℕ} (aged : AreAged ways tick ages tags) (i : ℕ) (within : i < ways) where
  in_ages : i < length ages
  in_ages = omega (arith, within, aged.ages_are)

  in_tags : i < length tags
  in_tags = omega (arith, within, aged.tags_are)

  here : (line a : ℕ) → a ≡ i → get_or (set tags i line) a 0 ≡ line
  here line a e = subst (λ (n : ℕ). get_or (set tags i line) n 0 ≡ line) (sym e) (get_or-set_same tags i line 0 in_tags)

  there : (line a : ℕ) → a ≢ i → get_or (set tags i line) a 0 ≡ get_or tags a 0
  there line a e = get_or-set_other tags i a line 0 e

  -- a way gets another age and line
  pub aged_put : (age line : ℕ) → tick < age → ((j : ℕ) → j < ways → j ≢ i → 0 < get_or ages j 0 → line ≢ get_or tags j 0) → AreAged ways age (set ages i age) (set tags i line)
  unfolding WasSet
  aged_put age line later absent = record {
    ages_are = length-set ages i age ∙ aged.ages_are;
    tags_are = length-set tags i line ∙ aged.tags_are;
    past = λ a l. elim (was_set ages i age a in_ages) as (λ _. get_or (set ages i age) a 0 ≤ age) [
      | inl p ↦ omega (arith, p.1)
      | inr p ↦ omega (arith, p.1, aged.past a l, later)
    ];
    apart = λ a b l m h some same. elim (was_set ages i age a in_ages) as (λ _. ⊥) [
      | inl p ↦ elim (was_set ages i age b in_ages) as (λ _. ⊥) [
        | inl q ↦ h (p.0 ∙ sym q.0)
        | inr q ↦ omega (arith, p.1, q.1, same, aged.past b m, later)
      ]
      | inr p ↦ elim (was_set ages i age b in_ages) as (λ _. ⊥) [
        | inl q ↦ omega (arith, p.1, q.1, same, aged.past a l, later)
        | inr q ↦ aged.apart a b l m h (omega (arith, some, p.1)) (sym p.1 ∙ same ∙ q.1)
      ]
    ];
    once = λ a b l m h la lb same. elim (was_set ages i age a in_ages) as (λ _. ⊥) [
      | inl p ↦ elim (was_set ages i age b in_ages) as (λ _. ⊥) [
        | inl q ↦ h (p.0 ∙ sym q.0)
        | inr q ↦ absent b m q.0 (omega (arith, lb, q.1)) (sym (here line a p.0) ∙ same ∙ there line b q.0)
      ]
      | inr p ↦ elim (was_set ages i age b in_ages) as (λ _. ⊥) [
        | inl q ↦ absent a l p.0 (omega (arith, la, p.1)) (sym (here line b q.0) ∙ sym same ∙ there line a p.0)
        | inr q ↦ aged.once a b l m h (omega (arith, la, p.1)) (omega (arith, lb, q.1)) (sym (there line a p.0) ∙ same ∙ there line b q.0)
      ]
    ];
  }

  -- a way becomes free
  pub aged_free : AreAged ways tick (set ages i 0) tags
  unfolding WasSet
  aged_free = record {
    ages_are = length-set ages i 0 ∙ aged.ages_are;
    tags_are = aged.tags_are;
    past = λ a l. elim (was_set ages i 0 a in_ages) as (λ _. get_or (set ages i 0) a 0 ≤ tick) [
      | inl p ↦ omega (arith, p.1)
      | inr p ↦ omega (arith, p.1, aged.past a l)
    ];
    apart = λ a b l m h some same. elim (was_set ages i 0 a in_ages) as (λ _. ⊥) [
      | inl p ↦ omega (arith, p.1, some)
      | inr p ↦ elim (was_set ages i 0 b in_ages) as (λ _. ⊥) [
        | inl q ↦ omega (arith, p.1, q.1, same, some)
        | inr q ↦ aged.apart a b l m h (omega (arith, some, p.1)) (sym p.1 ∙ same ∙ q.1)
      ]
    ];
    once = λ a b l m h la lb same. elim (was_set ages i 0 a in_ages) as (λ _. ⊥) [
      | inl p ↦ omega (arith, p.1, la)
      | inr p ↦ elim (was_set ages i 0 b in_ages) as (λ _. ⊥) [
        | inl q ↦ omega (arith, q.1, lb)
        | inr q ↦ aged.once a b l m h (omega (arith, la, p.1)) (omega (arith, lb, q.1)) same
      ]
    ];
  }

-- ---- the rows of a set

is_set_of : (ways : ℕ) (l m : List (ℕ × ℕ)) → l ≡ m → IsWaySet (record { ways = ways; list = m }) → IsWaySet (record { ways = ways; list = l })
is_set_of ways l m e = subst (λ (es : List (ℕ × ℕ)). IsWaySet (record { ways = ways; list = es })) (sym e)

module _ {ways tick : ℕ} {ages tags marks : List ℕ} (rows : AreRows ways tick ages tags marks) where
  -- the ages are written anew, or not
  pub ways_anew : (anew : List ℕ) → (anew ≡ ages) ⊎ (anew ≡ renumbered ages) → ways_in anew tags marks ≡ ways_in ages tags marks
  ways_anew anew (inl e) = ap (λ (l : List ℕ). ways_in l tags marks) e
  ways_anew anew (inr e) = ap (λ (l : List ℕ). ways_in l tags marks) e ∙ same_order ages tags marks

  aged_again : (latest : ℕ) (anew : List ℕ) → (anew ≡ ages) ⊎ (anew ≡ renumbered ages) → ((j : ℕ) → j < ways → get_or anew j 0 ≤ latest) → AreAged ways latest anew tags
  aged_again latest anew (inl e) past =
      let was = rows.aged in
      subst (λ (l : List ℕ). AreAged ways latest l tags) (sym e)
      (record {
        ages_are = was.ages_are;
        tags_are = was.tags_are;
        past = λ j l. subst (λ (n : List ℕ). get_or n j 0 ≤ latest) e (past j l);
        apart = was.apart;
        once = was.once;
      })
  aged_again latest anew (inr e) past =
      subst (λ (l : List ℕ). AreAged ways latest l tags) (sym e)
      (aged_anew rows.aged latest (λ j l. subst (λ (n : List ℕ). get_or n j 0 ≤ latest) e (past j l)))

  pub rows_anew : (latest : ℕ) (anew : List ℕ) → (anew ≡ ages) ⊎ (anew ≡ renumbered ages) → ((j : ℕ) → j < ways → get_or anew j 0 ≤ latest) → latest < 2 ^ 62 → AreRows ways latest anew tags marks
  rows_anew latest anew order past early = record {
    is_set = is_set_of ways (ways_in anew tags marks) (ways_in ages tags marks) (ways_anew anew order) rows.is_set;
    aged = aged_again latest anew order past;
    marks_are = rows.marks_are;
    early = early;
  }

  module _ (line i : ℕ) (at : IsPlaceOf line ages tags i) where
    place_in : i < ways
    place_in = omega (arith, at.within, rows.aged.tags_are)

    mark_is : get_or marks i (get_or marks i 0) ≡ get_or marks i 0
    mark_is = get_or_default_zero marks i (get_or marks i 0) (omega (arith, place_in, rows.marks_are))

    pub kept_some : kept_of line (ways_in ages tags marks) ≡ Some (get_or marks i 0)
    kept_some = kept_at rows.aged marks rows.marks_are i line (get_or marks i 0) place_in at.live at.tag mark_is

    pub used_some : (age : ℕ) → tick < age → ways_in (set ages i age) tags marks ≡ used line (ways_in ages tags marks)
    used_some age later = used_at rows.aged marks rows.marks_are i line (get_or marks i 0) place_in at.live at.tag mark_is age later

    pub without_some : ways_in (set ages i 0) tags marks ≡ without line (ways_in ages tags marks)
    without_some = without_at rows.aged marks rows.marks_are i line (get_or marks i 0) place_in at.live at.tag mark_is

    pub changed_some : (mark : ℕ) → ways_in ages tags (set marks i mark) ≡ changed line mark (ways_in ages tags marks)
    changed_some mark = changed_at rows.aged marks rows.marks_are i line (get_or marks i 0) place_in at.live at.tag mark_is mark

    others_lack : (j : ℕ) → j < ways → j ≢ i → 0 < get_or ages j 0 → line ≢ get_or tags j 0
    others_lack j l apart live same = rows.aged.once i j place_in l (λ e. apart (sym e)) at.live live (at.tag ∙ same)

    same_tag : set tags i line ≡ tags
    same_tag = set_as_it_is tags i line (get_or_default_zero tags i line at.within ∙ at.tag)

    pub rows_used : (age : ℕ) → tick < age → age < 2 ^ 62 → AreRows ways age (set ages i age) tags marks
    rows_used age later early = record {
      is_set = is_set_of ways (ways_in (set ages i age) tags marks) (used line (ways_in ages tags marks)) (used_some age later) (set-used ways line (ways_in ages tags marks) rows.is_set);
      aged = subst (λ (l : List ℕ). AreAged ways age (set ages i age) l) same_tag (aged_put rows.aged i place_in age line later others_lack);
      marks_are = rows.marks_are;
      early = early;
    }

    pub rows_without : AreRows ways tick (set ages i 0) tags marks
    rows_without = record {
      is_set = is_set_of ways (ways_in (set ages i 0) tags marks) (without line (ways_in ages tags marks)) without_some (set-without ways line (ways_in ages tags marks) rows.is_set);
      aged = aged_free rows.aged i place_in;
      marks_are = rows.marks_are;
      early = rows.early;
    }

    pub rows_changed : (mark : ℕ) → AreRows ways tick ages tags (set marks i mark)
    rows_changed mark = record {
      is_set = is_set_of ways (ways_in ages tags (set marks i mark)) (changed line mark (ways_in ages tags marks)) (changed_some mark) (set-changed ways line mark (ways_in ages tags marks) rows.is_set);
      aged = rows.aged;
      marks_are = length-set marks i mark ∙ rows.marks_are;
      early = rows.early;
    }

  module _ (line : ℕ) (none : HasNoPlace line ages tags) where
    absent : (j : ℕ) → j < ways → 0 < get_or ages j 0 → line ≢ get_or tags j 0
    absent j l live = none j (omega (arith, l, rows.aged.tags_are)) live

    pub kept_no : kept_of line (ways_in ages tags marks) ≡ None
    kept_no = kept_none rows.aged marks rows.marks_are line absent

    pub without_no : without line (ways_in ages tags marks) ≡ ways_in ages tags marks
    without_no = without_none rows.aged marks rows.marks_are line absent

  -- ---- the place that the next line takes
  module _ (i : ℕ) (within : i < ways) (oldest : (j : ℕ) → j < ways → get_or ages i 0 ≤ get_or ages j 0) where
    others : List (ℕ × ℕ)
    others = the_ways (others_than rows.aged marks rows.marks_are i within)

    many : length (rows_in ages tags marks) ≡ ways
    many = length_rows ages tags marks (rows.aged.tags_are ∙ sym rows.aged.ages_are) (rows.marks_are ∙ sym rows.aged.ages_are) ∙ rows.aged.ages_are

    fewer : length others + 1 ≤ ways
    unfolding others
    fewer =
        omega (
          arith,
          length_ways (by_age (remove (rows_in ages tags marks) i)),
          no_more_ways (remove (rows_in ages tags marks) i),
          length-remove (rows_in ages tags marks) i (omega (arith, within, many)),
          many,
        )

    mark_there : get_or marks i (get_or marks i 0) ≡ get_or marks i 0
    mark_there = get_or_default_zero marks i (get_or marks i 0) (omega (arith, within, rows.marks_are))

    when_free : get_or ages i 0 ≡ 0 → ways_in ages tags marks ≡ others
    unfolding others
    when_free free = free_before rows.aged marks rows.marks_are i within (get_or marks i 0) mark_there free

    when_full : 0 < get_or ages i 0 → ways_in ages tags marks ≡ others ++ ((get_or tags i 0, get_or marks i 0) ∷ [])
    unfolding others
    when_full live = oldest_before rows.aged marks rows.marks_are i within (get_or marks i 0) mark_there live oldest

    pub full : 0 < get_or ages i 0 → length (ways_in ages tags marks) ≡ ways
    full live =
        length_ways (by_age (rows_in ages tags marks))
        ∙ (all_ways (rows_in ages tags marks) (all_live ages tags marks (λ j l. omega (arith, live, oldest j (omega (arith, l, rows.aged.ages_are))))) ∙ many)

    pub not_full : get_or ages i 0 ≡ 0 → length (ways_in ages tags marks) + 1 ≤ ways
    not_full free = subst (λ (l : List (ℕ × ℕ)). length l + 1 ≤ ways) (sym (when_free free)) fewer

    length_others : 0 < get_or ages i 0 → length others + 1 ≡ ways
    length_others live = sym (length_more others (get_or tags i 0, get_or marks i 0)) ∙ (ap length (sym (when_full live)) ∙ full live)

    pub victim_none : get_or ages i 0 ≡ 0 → victim_of ways (ways_in ages tags marks) ≡ None
    victim_none free = slice_get_past (ways_in ages tags marks) (ways - 1) (omega (arith, not_full free))

    pub victim_some : 0 < get_or ages i 0 → victim_of ways (ways_in ages tags marks) ≡ Some (get_or tags i 0, get_or marks i 0)
    victim_some live =
        ap (λ (l : List (ℕ × ℕ)). slice_get l (ways - 1)) (when_full live)
        ∙ last_of others (get_or tags i 0, get_or marks i 0) (ways - 1) (omega (arith, length_others live))

    pub victim_is : option_map way_of (victim_of ways (ways_in ages tags marks)) ≡ way_at ages tags marks i
    unfolding way_at
    victim_is =
        elim (cases_eq (get_or ages i 0) 0) as (λ _. option_map way_of (victim_of ways (ways_in ages tags marks)) ≡ cond (eqb (get_or ages i 0) 0) None (Some (way_of (get_or tags i 0, get_or marks i 0)))) [
          | inl free ↦ rw (eq-eqb (get_or ages i 0) 0 free, victim_none free) refl
          | inr e ↦ rw (ne_eqb (get_or ages i 0) 0 e, victim_some (omega (arith, e))) refl
        ]

    pub full_is : IsSome (way_at ages tags marks i) ↔ (length (ways_in ages tags marks) ≡ ways)
    unfolding way_at
    full_is =
        elim (cases_eq (get_or ages i 0) 0) as (λ _. IsSome (cond (eqb (get_or ages i 0) 0) None (Some (way_of (get_or tags i 0, get_or marks i 0)))) ↔ (length (ways_in ages tags marks) ≡ ways)) [
          | inl free ↦ rw (eq-eqb (get_or ages i 0) 0 free) (λ e. absurd cc, λ e. absurd (omega (arith, e, not_full free)))
          | inr e ↦ rw (ne_eqb (get_or ages i 0) 0 e) (λ _. full (omega (arith, e)), λ _. refl)
        ]

    filled_to : (line mark : ℕ) → filled ways line mark (ways_in ages tags marks) ≡ (line, mark) ∷ others
    filled_to line mark =
        elim (cases_eq (get_or ages i 0) 0) as (λ _. filled ways line mark (ways_in ages tags marks) ≡ (line, mark) ∷ others) [
          | inl free ↦ ap (λ (l : List (ℕ × ℕ)). take ways ((line, mark) ∷ l)) (when_free free) ∙ take_all ways ((line, mark) ∷ others) (omega (arith, fewer))
          | inr e ↦
              let live : 0 < get_or ages i 0 = omega (arith, e) in
              let count : ways ≡ length ((line, mark) ∷ others) = omega (arith, length_others live) in
              ap (λ (l : List (ℕ × ℕ)). take ways ((line, mark) ∷ l)) (when_full live)
              ∙ (ap (λ (n : ℕ). take n ((line, mark) ∷ others ++ ((get_or tags i 0, get_or marks i 0) ∷ []))) count
              ∙ take-append_seam ((line, mark) ∷ others) ((get_or tags i 0, get_or marks i 0) ∷ []))
        ]

    pub filled_is : (age line mark : ℕ) → tick < age → ways_in (set ages i age) (set tags i line) (set marks i mark) ≡ filled ways line mark (ways_in ages tags marks)
    unfolding others
    filled_is age line mark later = filled_anew rows.aged marks rows.marks_are i within age line mark later ∙ sym (filled_to line mark)

    lacked : (line : ℕ) → kept_of line (ways_in ages tags marks) ≡ None → (j : ℕ) → j < ways → j ≢ i → 0 < get_or ages j 0 → line ≢ get_or tags j 0
    lacked line none j l apart live same =
        let at : IsPlaceOf line ages tags j = record { within = omega (arith, l, rows.aged.tags_are); live = live; tag = sym same } in
        let some = kept_some line j at in
        absurd cc

    pub rows_filled : (age line mark : ℕ) → tick < age → age < 2 ^ 62 → kept_of line (ways_in ages tags marks) ≡ None → AreRows ways age (set ages i age) (set tags i line) (set marks i mark)
    rows_filled age line mark later early none = record {
      is_set = is_set_of ways (ways_in (set ages i age) (set tags i line) (set marks i mark)) (filled ways line mark (ways_in ages tags marks)) (filled_is age line mark later)
          (set-filled ways line mark (ways_in ages tags marks) rows.is_set none);
      aged = aged_put rows.aged i within age line later (lacked line none);
      marks_are = length-set marks i mark ∙ rows.marks_are;
      early = early;
    }

-- ---- after the next age is taken

pub place_here : {a b t u : List ℕ} (line i : ℕ) → a ≡ b → t ≡ u → IsPlaceOf line a t i → IsPlaceOf line b u i
place_here {a} {b} {t} {u} line i e f at = subst (λ (l : List ℕ). IsPlaceOf line l u i) e (subst (λ (l : List ℕ). IsPlaceOf line a l i) f at)

pub none_here : {a b t u : List ℕ} (line : ℕ) → a ≡ b → t ≡ u → HasNoPlace line a t → HasNoPlace line b u
none_here {a} {b} {t} {u} line e f none = subst (λ (l : List ℕ). HasNoPlace line l u) e (subst (λ (l : List ℕ). HasNoPlace line a l) f none)

pub within_here : {a b : List ℕ} (i ways : ℕ) → a ≡ b → length b ≡ ways → i < length a → i < ways
within_here {a} {b} i ways e long l = omega (arith, ap length e, long, l)

pub oldest_here : {a b : List ℕ} (i ways : ℕ) → a ≡ b → length b ≡ ways → ((j : ℕ) → j < length a → get_or a i 0 ≤ get_or a j 0) → (j : ℕ) → j < ways → get_or b i 0 ≤ get_or b j 0
oldest_here {a} {b} i ways e long oldest j l = subst (λ (n : List ℕ). get_or n i 0 ≤ get_or n j 0) e (oldest j (omega (arith, ap length e, long, l)))

pub way_here : {a b t u m n : List ℕ} (i : ℕ) → a ≡ b → t ≡ u → m ≡ n → way_at a t m i ≡ way_at b u n i
way_here {a} {b} {t} {u} {m} {n} i e f g =
    ap (λ (l : List ℕ). way_at l t m i) e ∙ (ap (λ (l : List ℕ). way_at b l m i) f ∙ ap (λ (l : List ℕ). way_at b u l i) g)

pub value_at : (xs : List ℕ) (i m : ℕ) → i < length xs → m ≡ get_or xs i m → get_or xs i 0 ≡ m
value_at xs i m l e = sym (e ∙ get_or_default_zero xs i m l)

module _ {ways tick : ℕ} {ages tags marks : List ℕ} (rows : AreRows ways tick ages tags marks) (age : ℕ) (anew : List ℕ)
    (order : (anew ≡ ages) ⊎ (anew ≡ renumbered ages)) (later : (j : ℕ) → j < ways → get_or anew j 0 < age) (early : age < 2 ^ 62) where
  pub some_age : age - 1 < age
  some_age = omega (arith, later 0 (omega (arith, rows.is_set.ways)))

  pub rows_next : AreRows ways (age - 1) anew tags marks
  rows_next = rows_anew rows (age - 1) anew order (λ j l. omega (arith, later j l)) (omega (arith, early))

  ways_next : ways_in anew tags marks ≡ ways_in ages tags marks
  ways_next = ways_anew rows anew order

  pub touched_rows : (line i : ℕ) → IsPlaceOf line anew tags i → AreRows ways age (set anew i age) tags marks
  touched_rows line i at = rows_used rows_next line i at age some_age early

  pub touched_ways : (line i : ℕ) → IsPlaceOf line anew tags i → ways_in (set anew i age) tags marks ≡ used line (ways_in ages tags marks)
  touched_ways line i at = used_some rows_next line i at age some_age ∙ ap (used line) ways_next

  pub kept_no_next : (line : ℕ) → HasNoPlace line anew tags → kept_of line (ways_in ages tags marks) ≡ None
  kept_no_next line none = ap (kept_of line) (sym ways_next) ∙ kept_no rows_next line none

  module _ (i : ℕ) (within : i < ways) (oldest : (j : ℕ) → j < ways → get_or anew i 0 ≤ get_or anew j 0) (line mark : ℕ) where
    pub put_rows : kept_of line (ways_in ages tags marks) ≡ None → AreRows ways age (set anew i age) (set tags i line) (set marks i mark)
    put_rows none = rows_filled rows_next i within oldest age line mark some_age early (ap (kept_of line) ways_next ∙ none)

    pub put_victim : option_map way_of (victim_of ways (ways_in ages tags marks)) ≡ way_at anew tags marks i
    put_victim = ap (λ (l : List (ℕ × ℕ)). option_map way_of (victim_of ways l)) (sym ways_next) ∙ victim_is rows_next i within oldest

    pub put_ways : ways_in (set anew i age) (set tags i line) (set marks i mark) ≡ filled ways line mark (ways_in ages tags marks)
    put_ways = filled_is rows_next i within oldest age line mark some_age ∙ ap (filled ways line mark) ways_next

pub empty_ways : (ways : ℕ) (tags marks : List ℕ) → ways_in (replicate ways 0) tags marks ≡ []
empty_ways ways tags marks =
    let zeros : List ℕ = replicate ways 0 in
    let long : length zeros ≡ ways = length-replicate {A = ℕ} ways 0 in
    ap the_ways (all_free zeros tags marks (λ j l. get_or-replicate {A = ℕ} ways j 0 0 (omega (arith, l, long))))

pub rows_empty : (ways tick : ℕ) → 1 ≤ ways → ways ≤ 32 → tick < 2 ^ 62 → AreRows ways tick (replicate ways 0) (replicate ways 0) (replicate ways 0)
unfolding IsDistinct
rows_empty ways tick low high early =
    let zeros : (j : ℕ) → j < ways → get_or (replicate ways 0) j 0 ≡ 0 = λ j l. get_or-replicate {A = ℕ} ways j 0 0 l in
    record {
      is_set = is_set_of ways (ways_in (replicate ways 0) (replicate ways 0) (replicate ways 0)) [] (empty_ways ways (replicate ways 0) (replicate ways 0)) (record { distinct = tt; within = omega arith; ways = (low, high) });
      aged = record {
        ages_are = length-replicate {A = ℕ} ways 0;
        tags_are = length-replicate {A = ℕ} ways 0;
        past = λ j l. let z : get_or (replicate ways 0) j 0 ≡ 0 = zeros j l in omega (arith, z);
        apart = λ a b l m h some. absurd (omega (arith, some, zeros a l));
        once = λ a b l m h some other. absurd (omega (arith, some, zeros a l));
      };
      marks_are = length-replicate {A = ℕ} ways 0;
      early = early;
    }

pub none_from_IsNone : {X : Type 0} {o : Option X} → IsNone o → o ≡ None
none_from_IsNone {o = None} h = refl
none_from_IsNone {o = Some x} h = absurd cc
