-- What the arrays of a set stand for when one way changes: the words on ways, at the way's place.
use Rattle.std.proofs.Common.{◌≡◌, ◌≢◌, ℕ, zero, suc, ◌<◌, ◌≤◌, List, [], ◌∷◌, ◌++◌, length, get_or, set, Option, Some, None, refl, sym, ap, ◌∙◌, subst, arith}
use Rattle.std.specs.List.{remove}
use Rattle.std.specs.Option.{option_map_or}
use Rattle.cache_set.specs.Ages.{AreAged, by_age, put_by_age, rows_in, ways_in}
use Rattle.cache_set.specs.Ways.{changed, kept_of, used, without}
use Rattle.cache_set.proofs.ByAge.{AllLive, AllOf, ApartBut, Others, all_by_age, changed_among, free_at, kept_among, kept_of_none, put_at, put_first, put_last, the_ways, without_absent, without_among}

pub set_as_it_is : {Y : Type 0} (ys : List Y) (i : ℕ) (y : Y) → get_or ys i y ≡ y → set ys i y ≡ ys
set_as_it_is [] i y h = refl
set_as_it_is {Y} (z ∷ ys) zero y h = ap (λ (v : Y). v ∷ ys) (sym h)
set_as_it_is {Y} (z ∷ ys) (suc i) y h = ap (λ (l : List Y). z ∷ l) (set_as_it_is ys i y h)

there : (ys : List ℕ) (i y : ℕ) → get_or ys i 0 ≡ y → get_or ys i y ≡ y
there [] i y h = refl
there (z ∷ ys) zero y h = h
there (z ∷ ys) (suc i) y h = there ys i y h

module _ {X : Type 0} where
  -- ---- rows and their places

  pub length_rows : (ages tags : List ℕ) (kept : List X) → length tags ≡ length ages → length kept ≡ length ages → length (rows_in ages tags kept) ≡ length ages
  length_rows [] tags kept t k = refl
  length_rows (a ∷ ages) [] kept t k = absurd (omega arith)
  length_rows (a ∷ ages) (g ∷ tags) [] t k = absurd (omega arith)
  length_rows (a ∷ ages) (g ∷ tags) (x ∷ kept) t k = omega (arith, length_rows ages tags kept (omega arith) (omega arith))

  rows_set : (ages tags : List ℕ) (kept : List X) (i a g : ℕ) (x : X) → length tags ≡ length ages → length kept ≡ length ages
      → rows_in (set ages i a) (set tags i g) (set kept i x) ≡ set (rows_in ages tags kept) i (a, (g, x))
  rows_set [] tags kept i a g x t k = refl
  rows_set (b ∷ ages) [] kept i a g x t k = absurd (omega arith)
  rows_set (b ∷ ages) (h ∷ tags) [] i a g x t k = absurd (omega arith)
  rows_set (b ∷ ages) (h ∷ tags) (y ∷ kept) zero a g x t k = refl
  rows_set (b ∷ ages) (h ∷ tags) (y ∷ kept) (suc i) a g x t k =
      ap (λ (rows : List (ℕ × (ℕ × X))). (b, (h, y)) ∷ rows) (rows_set ages tags kept i a g x (omega arith) (omega arith))

  pub live_all : (P : ℕ → ℕ → Type 0) (ages tags : List ℕ) (kept : List X)
      → ((j : ℕ) → j < length ages → 0 < get_or ages j 0 → P (get_or ages j 0) (get_or tags j 0))
      → AllLive (λ w. P w.0 w.1.0) (rows_in ages tags kept)
  live_all P [] tags kept h = tt
  live_all P (a ∷ ages) [] kept h = tt
  live_all P (a ∷ ages) (g ∷ tags) [] h = tt
  live_all P (a ∷ ages) (g ∷ tags) (x ∷ kept) h =
      (λ live. h 0 (omega arith) live, live_all P ages tags kept (λ j within live. h (suc j) (omega arith) live))

  -- what holds of all ways but one, by their places
  live_but : (P : ℕ → ℕ → Type 0) (ages tags : List ℕ) (kept : List X) (i : ℕ)
      → ((j : ℕ) → j < length ages → j ≢ i → 0 < get_or ages j 0 → P (get_or ages j 0) (get_or tags j 0))
      → AllLive (λ w. P w.0 w.1.0) (remove (rows_in ages tags kept) i)
  live_but P [] tags kept zero h = tt
  live_but P [] tags kept (suc i) h = tt
  live_but P (a ∷ ages) [] kept zero h = tt
  live_but P (a ∷ ages) [] kept (suc i) h = tt
  live_but P (a ∷ ages) (g ∷ tags) [] zero h = tt
  live_but P (a ∷ ages) (g ∷ tags) [] (suc i) h = tt
  live_but P (a ∷ ages) (g ∷ tags) (x ∷ kept) zero h = live_all P ages tags kept (λ j within live. h (suc j) (omega arith) (λ e. absurd (omega arith)) live)
  live_but P (a ∷ ages) (g ∷ tags) (x ∷ kept) (suc i) h =
      (λ live. h 0 (omega arith) (λ e. absurd (omega arith)) live, live_but P ages tags kept i (λ j within apart live. h (suc j) (omega arith) (λ e. apart (omega arith)) live))

  apart_but : (ages tags : List ℕ) (kept : List X) (i : ℕ) (w : ℕ × (ℕ × X))
      → ((j : ℕ) → j < length ages → j ≢ i → 0 < get_or ages j 0 → w.0 ≢ get_or ages j 0) → ApartBut i w (rows_in ages tags kept)
  apart_but [] tags kept i w h = tt
  apart_but (a ∷ ages) [] kept i w h = tt
  apart_but (a ∷ ages) (g ∷ tags) [] i w h = tt
  apart_but (a ∷ ages) (g ∷ tags) (x ∷ kept) zero w h = live_all (λ age tag. w.0 ≢ age) ages tags kept (λ j within live. h (suc j) (omega arith) (λ e. absurd (omega arith)) live)
  apart_but (a ∷ ages) (g ∷ tags) (x ∷ kept) (suc i) w h =
      (λ live. h 0 (omega arith) (λ e. absurd (omega arith)) live, apart_but ages tags kept i w (λ j within apart live. h (suc j) (omega arith) (λ e. apart (omega arith)) live))

-- ---- a way that has a line

module _ {X : Type 0} {ways tick : ℕ} {ages tags : List ℕ} (aged : AreAged ways tick ages tags) (kept : List X) (kept_are : length kept ≡ ways)
    (i line : ℕ) (x : X) (within : i < ways) (live : 0 < get_or ages i 0) (tag : get_or tags i 0 ≡ line) (has : get_or kept i x ≡ x) where
  abbrev pub rest : List (ℕ × (ℕ × X))
  rest = by_age (remove (rows_in ages tags kept) i)

  others : Others line rest
  others =
      all_by_age (λ w. line ≢ w.1.0) (remove (rows_in ages tags kept) i)
      (live_but (λ age other. line ≢ other) ages tags kept i
      (λ j inside apart j_live e. aged.once i j within (omega (arith, aged.ages_are)) (λ k. apart (sym k)) live j_live (tag ∙ e)))

  pub age_set : (age : ℕ) (y : X) → 0 < age → ((j : ℕ) → j < length ages → j ≢ i → 0 < get_or ages j 0 → age ≢ get_or ages j 0) → ways_in (set ages i age) tags (set kept i y) ≡ the_ways (put_by_age (age, (line, y)) rest)
  age_set age y some apart =
      let same : set tags i line ≡ tags = set_as_it_is tags i line (there tags i line tag) in
      let rows : rows_in (set ages i age) tags (set kept i y) ≡ set (rows_in ages tags kept) i (age, (line, y))
      = subst (λ (l : List ℕ). rows_in (set ages i age) l (set kept i y) ≡ set (rows_in ages tags kept) i (age, (line, y))) same
      (rows_set ages tags kept i age line y (omega (arith, aged.ages_are, aged.tags_are)) (omega (arith, aged.ages_are, kept_are))) in
      let count : i < length (rows_in ages tags kept) = omega (arith, length_rows ages tags kept (omega (arith, aged.ages_are, aged.tags_are)) (omega (arith, aged.ages_are, kept_are)), aged.ages_are) in
      ap (λ (l : List (ℕ × (ℕ × X))). the_ways (by_age l)) rows
      ∙ ap the_ways (put_at (rows_in ages tags kept) i (age, (line, y)) count some (apart_but ages tags kept i (age, (line, y)) apart))

  same_age : set ages i (get_or ages i 0) ≡ ages
  same_age = set_as_it_is ages i (get_or ages i 0) (there ages i (get_or ages i 0) refl)

  its_own : (j : ℕ) → j < length ages → j ≢ i → 0 < get_or ages j 0 → get_or ages i 0 ≢ get_or ages j 0
  its_own j inside apart j_live = aged.apart i j within (omega (arith, aged.ages_are)) (λ k. apart (sym k)) live

  now : ways_in ages tags kept ≡ the_ways (put_by_age (get_or ages i 0, (line, x)) rest)
  now =
      let same_kept : set kept i x ≡ kept = set_as_it_is kept i x has in
      subst (λ (l : List ℕ). ways_in l tags kept ≡ the_ways (put_by_age (get_or ages i 0, (line, x)) rest)) same_age
      (subst (λ (l : List X). ways_in (set ages i (get_or ages i 0)) tags l ≡ the_ways (put_by_age (get_or ages i 0, (line, x)) rest)) same_kept
      (age_set (get_or ages i 0) x live its_own))

  pub kept_at : kept_of line (ways_in ages tags kept) ≡ Some x
  kept_at = ap (kept_of line) now ∙ kept_among (get_or ages i 0) line x rest others

  pub without_at_now : without line (ways_in ages tags kept) ≡ the_ways rest
  without_at_now = ap (without line) now ∙ without_among (get_or ages i 0) line x rest others

  -- it is used, and something else is kept of it
  pub kept_first_at : (age : ℕ) (y : X) → tick < age → ways_in (set ages i age) tags (set kept i y) ≡ (line, y) ∷ without line (ways_in ages tags kept)
  kept_first_at age y later =
      let young : AllOf (λ w. w.0 < age) rest
      = all_by_age (λ w. w.0 < age) (remove (rows_in ages tags kept) i) (live_but (λ old other. old < age) ages tags kept i (λ j inside apart j_live. omega (arith, aged.past j (omega (arith, aged.ages_are)), later))) in
      age_set age y (omega (arith, later)) (λ j inside apart j_live e. omega (arith, aged.past j (omega (arith, aged.ages_are)), later, e))
      ∙ (ap the_ways (put_first (age, (line, y)) rest young) ∙ ap (λ (l : List (ℕ × X)). (line, y) ∷ l) (sym without_at_now))

  -- it stays in its place, and something else is kept of it
  pub changed_at : (y : X) → ways_in ages tags (set kept i y) ≡ changed line y (ways_in ages tags kept)
  changed_at y =
      subst (λ (l : List ℕ). ways_in l tags (set kept i y) ≡ the_ways (put_by_age (get_or ages i 0, (line, y)) rest)) same_age (age_set (get_or ages i 0) y live its_own)
      ∙ sym (ap (changed line y) now ∙ changed_among (get_or ages i 0) line x y rest others)

  -- it is used
  pub used_at : (age : ℕ) → tick < age → ways_in (set ages i age) tags kept ≡ used line (ways_in ages tags kept)
  used_at age later =
      let same_kept : set kept i x ≡ kept = set_as_it_is kept i x has in
      subst (λ (l : List X). ways_in (set ages i age) tags l ≡ (line, x) ∷ without line (ways_in ages tags kept)) same_kept (kept_first_at age x later)
      ∙ sym (ap (λ (o : Option X). option_map_or (λ y. (line, y) ∷ without line (ways_in ages tags kept)) o (ways_in ages tags kept)) kept_at)

  -- it leaves
  pub without_at : ways_in (set ages i 0) tags kept ≡ without line (ways_in ages tags kept)
  without_at =
      let same : set tags i line ≡ tags = set_as_it_is tags i line (there tags i line tag) in
      let same_kept : set kept i x ≡ kept = set_as_it_is kept i x has in
      let rows : rows_in (set ages i 0) tags kept ≡ set (rows_in ages tags kept) i (0, (line, x))
      = subst (λ (l : List ℕ). rows_in (set ages i 0) l kept ≡ set (rows_in ages tags kept) i (0, (line, x))) same
      (subst (λ (k : List X). rows_in (set ages i 0) (set tags i line) k ≡ set (rows_in ages tags kept) i (0, (line, x))) same_kept
      (rows_set ages tags kept i 0 line x (omega (arith, aged.ages_are, aged.tags_are)) (omega (arith, aged.ages_are, kept_are)))) in
      let count : i < length (rows_in ages tags kept) = omega (arith, length_rows ages tags kept (omega (arith, aged.ages_are, aged.tags_are)) (omega (arith, aged.ages_are, kept_are)), aged.ages_are) in
      ap (λ (l : List (ℕ × (ℕ × X))). the_ways (by_age l)) rows ∙ ap the_ways (free_at (rows_in ages tags kept) i (0, (line, x)) count refl) ∙ sym without_at_now

-- ---- a line that is not there

module _ {X : Type 0} {ways tick : ℕ} {ages tags : List ℕ} (aged : AreAged ways tick ages tags) (kept : List X) (kept_are : length kept ≡ ways) (line : ℕ)
    (absent : (j : ℕ) → j < ways → 0 < get_or ages j 0 → line ≢ get_or tags j 0) where
  none_has : Others line (by_age (rows_in ages tags kept))
  none_has = all_by_age (λ w. line ≢ w.1.0) (rows_in ages tags kept) (live_all (λ age other. line ≢ other) ages tags kept (λ j inside j_live. absent j (omega (arith, aged.ages_are)) j_live))

  pub kept_none : kept_of line (ways_in ages tags kept) ≡ None
  kept_none = kept_of_none line (by_age (rows_in ages tags kept)) none_has

  pub without_none : without line (ways_in ages tags kept) ≡ ways_in ages tags kept
  without_none = without_absent line (by_age (rows_in ages tags kept)) none_has

-- ---- another line in place of a way

the_ways_append : {X : Type 0} (ws : List (ℕ × (ℕ × X))) (w : ℕ × (ℕ × X)) → the_ways (ws ++ (w ∷ [])) ≡ the_ways ws ++ (w.1 ∷ [])
the_ways_append [] w = refl
the_ways_append {X} (v ∷ ws) w = ap (λ (l : List (ℕ × X)). v.1 ∷ l) (the_ways_append ws w)

module _ {X : Type 0} {ways tick : ℕ} {ages tags : List ℕ} (aged : AreAged ways tick ages tags) (kept : List X) (kept_are : length kept ≡ ways)
    (i : ℕ) (within : i < ways) where
  abbrev pub others_than : List (ℕ × (ℕ × X))
  others_than = by_age (remove (rows_in ages tags kept) i)

  pub filled_anew : (age line : ℕ) (x : X) → tick < age → ways_in (set ages i age) (set tags i line) (set kept i x) ≡ (line, x) ∷ the_ways others_than
  filled_anew age line x later =
      let young : AllOf (λ w. w.0 < age) others_than
      = all_by_age (λ w. w.0 < age) (remove (rows_in ages tags kept) i) (live_but (λ old other. old < age) ages tags kept i (λ j inside apart j_live. omega (arith, aged.past j (omega (arith, aged.ages_are)), later))) in
      let rows : rows_in (set ages i age) (set tags i line) (set kept i x) ≡ set (rows_in ages tags kept) i (age, (line, x))
      = rows_set ages tags kept i age line x (omega (arith, aged.ages_are, aged.tags_are)) (omega (arith, aged.ages_are, kept_are)) in
      let count : i < length (rows_in ages tags kept) = omega (arith, length_rows ages tags kept (omega (arith, aged.ages_are, aged.tags_are)) (omega (arith, aged.ages_are, kept_are)), aged.ages_are) in
      ap (λ (l : List (ℕ × (ℕ × X))). the_ways (by_age l)) rows
      ∙ (ap the_ways (put_at (rows_in ages tags kept) i (age, (line, x)) count (omega (arith, later)) (apart_but ages tags kept i (age, (line, x)) (λ j inside apart j_live e. omega (arith, aged.past j (omega (arith, aged.ages_are)), later, e))))
      ∙ ap the_ways (put_first (age, (line, x)) others_than young))

  -- the way was free
  pub free_before : (x : X) → get_or kept i x ≡ x → get_or ages i 0 ≡ 0 → ways_in ages tags kept ≡ the_ways others_than
  free_before x has free =
      let tag : ℕ = get_or tags i 0 in
      let same_age : set ages i 0 ≡ ages = set_as_it_is ages i 0 free in
      let same_tag : set tags i tag ≡ tags = set_as_it_is tags i tag (there tags i tag refl) in
      let same_kept : set kept i x ≡ kept = set_as_it_is kept i x has in
      let rows : rows_in (set ages i 0) (set tags i tag) (set kept i x) ≡ set (rows_in ages tags kept) i (0, (tag, x))
      = rows_set ages tags kept i 0 tag x (omega (arith, aged.ages_are, aged.tags_are)) (omega (arith, aged.ages_are, kept_are)) in
      let all : rows_in ages tags kept ≡ set (rows_in ages tags kept) i (0, (tag, x))
      = subst (λ (l : List ℕ). rows_in l tags kept ≡ set (rows_in ages tags kept) i (0, (tag, x))) same_age
      (subst (λ (l : List ℕ). rows_in (set ages i 0) l kept ≡ set (rows_in ages tags kept) i (0, (tag, x))) same_tag
      (subst (λ (l : List X). rows_in (set ages i 0) (set tags i tag) l ≡ set (rows_in ages tags kept) i (0, (tag, x))) same_kept rows)) in
      let count : i < length (rows_in ages tags kept) = omega (arith, length_rows ages tags kept (omega (arith, aged.ages_are, aged.tags_are)) (omega (arith, aged.ages_are, kept_are)), aged.ages_are) in
      ap (λ (l : List (ℕ × (ℕ × X))). the_ways (by_age l)) all ∙ ap the_ways (free_at (rows_in ages tags kept) i (0, (tag, x)) count refl)

  -- it was the one that was used longest ago
  pub oldest_before : (x : X) → get_or kept i x ≡ x → 0 < get_or ages i 0 → ((j : ℕ) → j < ways → get_or ages i 0 ≤ get_or ages j 0)
      → ways_in ages tags kept ≡ the_ways others_than ++ ((get_or tags i 0, x) ∷ [])
  oldest_before x has live oldest =
      let way : ℕ × (ℕ × X) = (get_or ages i 0, (get_or tags i 0, x)) in
      let old : AllOf (λ w. get_or ages i 0 ≤ w.0) others_than
      = all_by_age (λ w. get_or ages i 0 ≤ w.0) (remove (rows_in ages tags kept) i) (live_but (λ age other. get_or ages i 0 ≤ age) ages tags kept i (λ j inside apart j_live. oldest j (omega (arith, aged.ages_are)))) in
      now aged kept kept_are i (get_or tags i 0) x within live refl has
      ∙ (ap the_ways (put_last way others_than old) ∙ the_ways_append others_than way)
