-- Ages that are written anew leave the ways in their order.
use Rattle.std.proofs.Common.{◌≡◌, ◌≢◌, ℕ, zero, suc, ◌+◌, ◌<◌, ◌≤◌, Bool, true, false, cond, List, [], ◌∷◌, length, get_or, map, refl, sym, ap, ◌∙◌, arith, inl, inr}
use Rattle.std.specs.List.{count_by}
use Rattle.std.specs.Prelude.{nat_lt}
use Rattle.std.proofs.lemmas.Bool.{cases_lt, cases_eq, eq-eqb, ne_eqb, le-leb, lt-leb, le-ltb, lt-ltb}
use Rattle.std.proofs.lemmas.List.{length-map}
use Rattle.std.proofs.lemmas.List.Recursion.{is_count_by}
use Rattle.std.proofs.lemmas.List.Sums.{count_by-le-length}
use Rattle.cache_set.specs.Ages.{is_up_to, rank_in, renumbered, AreAged, by_age, put_by_age, rows_in, ways_in}
use Rattle.cache_set.proofs.ByAge.{AllLive, the_ways}
use Rattle.cache_set.proofs.WaysByAge.{live_all}

pub rank_at : (f : ℕ → ℕ) (xs : List ℕ) (i : ℕ) → i < length xs → get_or (map f xs) i 0 ≡ f (get_or xs i 0)
rank_at f [] i l = absurd (omega arith)
rank_at f (x ∷ xs) zero l = refl
rank_at f (x ∷ xs) (suc i) l = rank_at f xs i (omega arith)

pub ranks_are_few : (old : List ℕ) (k : ℕ) → k < length old → get_or (renumbered old) k 0 ≤ length (renumbered old)
ranks_are_few old k l = omega (arith, rank_at (rank_in old) old k l, count_by-le-length (is_up_to (get_or old k 0)) old, length-map old (rank_in old))

-- ---- ranks

abbrev counted : (ℕ → Bool) → List ℕ → ℕ
counted p [] = 0
counted p (x ∷ xs) = cond (p x) (1 + counted p xs) (counted p xs)

as_counted : (p : ℕ → Bool) (xs : List ℕ) → counted p xs ≡ count_by p xs
as_counted p xs = is_count_by (counted p) p refl (λ x xs. refl) xs

step_le : (b c : Bool) (m n : ℕ) → (b ≡ true → c ≡ true) → m ≤ n → cond b (1 + m) m ≤ cond c (1 + n) n
step_le true true m n h l = omega (arith, l)
step_le true false m n h l = let bad = h refl in absurd cc
step_le false true m n h l = omega (arith, l)
step_le false false m n h l = l

step_lt : (b c : Bool) (m n : ℕ) → (b ≡ true → c ≡ true) → m < n → cond b (1 + m) m < cond c (1 + n) n
step_lt true true m n h l = omega (arith, l)
step_lt true false m n h l = let bad = h refl in absurd cc
step_lt false true m n h l = omega (arith, l)
step_lt false false m n h l = l

here_lt : (b c : Bool) (m n : ℕ) → b ≡ false → c ≡ true → m ≤ n → cond b (1 + m) m < cond c (1 + n) n
here_lt true c m n e f l = absurd cc
here_lt false true m n e f l = omega (arith, l)
here_lt false false m n e f l = absurd cc

module _ (p q : ℕ → Bool) (more : (x : ℕ) → p x ≡ true → q x ≡ true) where
  counted_le : (xs : List ℕ) → counted p xs ≤ counted q xs
  counted_le [] = omega arith
  counted_le (x ∷ xs) = step_le (p x) (q x) (counted p xs) (counted q xs) (more x) (counted_le xs)

  counted_lt : (xs : List ℕ) (k : ℕ) → k < length xs → p (get_or xs k 0) ≡ false → q (get_or xs k 0) ≡ true → counted p xs < counted q xs
  counted_lt [] k l e f = absurd (omega arith)
  counted_lt (x ∷ xs) zero l e f = here_lt (p x) (q x) (counted p xs) (counted q xs) e f (counted_le xs)
  counted_lt (x ∷ xs) (suc k) l e f = step_lt (p x) (q x) (counted p xs) (counted q xs) (more x) (counted_lt xs k (omega arith) e f)

up_to : (age other : ℕ) → 0 < other → other ≤ age → is_up_to age other ≡ true
unfolding is_up_to
up_to age other s l = rw (lt-ltb 0 other s) (le-leb other age l)

not_up_to : (age other : ℕ) → age < other → is_up_to age other ≡ false
unfolding is_up_to
not_up_to age other l = rw (lt-ltb 0 other (omega arith), lt-leb other age l) refl

free_is_not : (age : ℕ) → is_up_to age 0 ≡ false
unfolding is_up_to
free_is_not age = refl

up_to_later : (a b x : ℕ) → a ≤ b → is_up_to a x ≡ true → is_up_to b x ≡ true
up_to_later a b zero l h = let no = free_is_not a in absurd cc
up_to_later a b (suc x) l h =
    elim (cases_lt a (suc x)) as (λ _. is_up_to b (suc x) ≡ true) [
      | inl g ↦ let no = not_up_to a (suc x) g in absurd cc
      | inr g ↦ up_to b (suc x) (omega arith) (omega (arith, g, l))
    ]

module _ (ages : List ℕ) where
  rank_le : (a b : ℕ) → a ≤ b → rank_in ages a ≤ rank_in ages b
  rank_le a b l = omega (arith, as_counted (is_up_to a) ages, as_counted (is_up_to b) ages, counted_le (is_up_to a) (is_up_to b) (λ x h. up_to_later a b x l h) ages)

  rank_lt : (a k : ℕ) → k < length ages → 0 < get_or ages k 0 → a < get_or ages k 0 → rank_in ages a < rank_in ages (get_or ages k 0)
  rank_lt a k within live l =
      let b : ℕ = get_or ages k 0 in
      omega (
        arith,
        as_counted (is_up_to a) ages,
        as_counted (is_up_to b) ages,
        counted_lt (is_up_to a) (is_up_to b) (λ x h. up_to_later a b x (omega arith) h) ages k within (not_up_to a b l) (up_to b b live (omega arith)),
      )

  none_up_to_free : (xs : List ℕ) → counted (is_up_to 0) xs ≡ 0
  none_up_to_free [] = refl
  none_up_to_free (zero ∷ xs) = rw (free_is_not 0) (none_up_to_free xs)
  none_up_to_free (suc x ∷ xs) = rw (not_up_to 0 (suc x) (omega arith)) (none_up_to_free xs)

  pub rank_of_free : rank_in ages 0 ≡ 0
  rank_of_free = sym (as_counted (is_up_to 0) ages) ∙ none_up_to_free ages

-- ---- other ages in the same order

-- a way keeps its place among the others
abbrev Keeps : (f : ℕ → ℕ) → ℕ → Type 0
Keeps f b = (0 < f b) × ((a : ℕ) → nat_lt (f a) (f b) ≡ nat_lt a b)

module _ {X : Type 0} (f : ℕ → ℕ) where
  abbrev with_ages : List (ℕ × (ℕ × X)) → List (ℕ × (ℕ × X))
  with_ages [] = []
  with_ages (w ∷ ws) = (f w.0, w.1) ∷ with_ages ws

  put_with : (w : ℕ × (ℕ × X)) (ws : List (ℕ × (ℕ × X))) → Keeps f w.0 → put_by_age (f w.0, w.1) (with_ages ws) ≡ with_ages (put_by_age w ws)
  put_with w [] keeps = refl
  put_with w (v ∷ ws) keeps =
      ap (λ (b : Bool). cond b ((f w.0, w.1) ∷ (f v.0, v.1) ∷ with_ages ws) ((f v.0, v.1) ∷ put_by_age (f w.0, w.1) (with_ages ws))) (keeps.1 v.0)
      ∙ elim (nat_lt v.0 w.0) as (λ b. cond b ((f w.0, w.1) ∷ (f v.0, v.1) ∷ with_ages ws) ((f v.0, v.1) ∷ put_by_age (f w.0, w.1) (with_ages ws)) ≡ with_ages (cond b (w ∷ v ∷ ws) (v ∷ put_by_age w ws))) [
        | true ↦ refl
        | false ↦ ap (λ (l : List (ℕ × (ℕ × X))). (f v.0, v.1) ∷ l) (put_with w ws keeps)
      ]

  by_age_with : (ws : List (ℕ × (ℕ × X))) → f 0 ≡ 0 → AllLive (λ w. Keeps f w.0) ws → by_age (with_ages ws) ≡ with_ages (by_age ws)
  by_age_with [] zeros all = refl
  by_age_with (w ∷ ws) zeros all =
      elim (cases_eq w.0 0) as (λ _. by_age (with_ages (w ∷ ws)) ≡ with_ages (by_age (w ∷ ws))) [
        | inl e ↦
            let free : f w.0 ≡ 0 = ap f e ∙ zeros in
            rw (eq-eqb (f w.0) 0 free, eq-eqb w.0 0 e) (by_age_with ws zeros all.1)
        | inr e ↦
            let keeps = all.0 (omega (arith, e)) in
            rw (ne_eqb (f w.0) 0 (λ k. omega (arith, k, keeps.0)), ne_eqb w.0 0 e)
            (ap (put_by_age (f w.0, w.1)) (by_age_with ws zeros all.1) ∙ put_with w (by_age ws) keeps)
      ]

  same_ways : (ws : List (ℕ × (ℕ × X))) → the_ways (with_ages ws) ≡ the_ways ws
  same_ways [] = refl
  same_ways (w ∷ ws) = ap (λ (l : List (ℕ × X)). w.1 ∷ l) (same_ways ws)

  rows_with : (ages tags : List ℕ) (kept : List X) → rows_in (map f ages) tags kept ≡ with_ages (rows_in ages tags kept)
  rows_with [] tags kept = refl
  rows_with (a ∷ ages) [] kept = refl
  rows_with (a ∷ ages) (g ∷ tags) [] = refl
  rows_with (a ∷ ages) (g ∷ tags) (x ∷ kept) = ap (λ (l : List (ℕ × (ℕ × X))). (f a, (g, x)) ∷ l) (rows_with ages tags kept)

keeps_order : (ages : List ℕ) (k : ℕ) → k < length ages → 0 < get_or ages k 0 → Keeps (rank_in ages) (get_or ages k 0)
keeps_order ages k within live =
    let b : ℕ = get_or ages k 0 in (
      omega (arith, rank_lt ages 0 k within live live),
      λ a. elim (cases_lt a b) as (λ _. nat_lt (rank_in ages a) (rank_in ages b) ≡ nat_lt a b) [
        | inl l ↦ lt-ltb (rank_in ages a) (rank_in ages b) (rank_lt ages a k within live l) ∙ sym (lt-ltb a b l)
        | inr g ↦ le-ltb (rank_in ages a) (rank_in ages b) (rank_le ages b a g) ∙ sym (le-ltb a b g)
      ],
    )

pub same_order : {X : Type 0} (ages tags : List ℕ) (kept : List X) → ways_in (renumbered ages) tags kept ≡ ways_in ages tags kept
same_order {X} ages tags kept =
    ap (λ (l : List (ℕ × (ℕ × X))). the_ways (by_age l)) (rows_with (rank_in ages) ages tags kept)
    ∙ (ap the_ways (by_age_with (rank_in ages) (rows_in ages tags kept) (rank_of_free ages)
    (live_all (λ age tag. Keeps (rank_in ages) age) ages tags kept (λ j within live. keeps_order ages j within live)))
    ∙ same_ways (rank_in ages) (by_age (rows_in ages tags kept)))

module _ {ways tick : ℕ} {ages tags : List ℕ} (aged : AreAged ways tick ages tags) where
  live_before : (i : ℕ) → i < ways → 0 < get_or (renumbered ages) i 0 → 0 < get_or ages i 0
  live_before i l some =
      elim (cases_eq (get_or ages i 0) 0) as (λ _. 0 < get_or ages i 0) [
        | inl e ↦
            let free : rank_in ages (get_or ages i 0) ≡ 0 = ap (rank_in ages) e ∙ rank_of_free ages in
            absurd (omega (arith, some, free, rank_at (rank_in ages) ages i (omega (arith, l, aged.ages_are))))
        | inr e ↦ omega (arith, e)
      ]

  apart_ranks : (i j : ℕ) → i < ways → j < ways → i ≢ j → 0 < get_or (renumbered ages) i 0 → get_or (renumbered ages) i 0 ≢ get_or (renumbered ages) j 0
  apart_ranks i j l m h some same =
      let il : i < length ages = omega (arith, l, aged.ages_are) in
      let jl : j < length ages = omega (arith, m, aged.ages_are) in
      let ri = rank_at (rank_in ages) ages i il in
      let rj = rank_at (rank_in ages) ages j jl in
      let live : 0 < get_or ages i 0 = live_before i l some in
      let jlive : 0 < get_or ages j 0 = live_before j m (omega (arith, some, same)) in
      let apart = aged.apart i j l m h live in
      elim (cases_lt (get_or ages i 0) (get_or ages j 0)) as (λ _. ⊥) [
        | inl g ↦ omega (arith, rank_lt ages (get_or ages i 0) j jl jlive g, ri, rj, same)
        | inr g ↦
            let less : get_or ages j 0 < get_or ages i 0 = omega (arith, g, λ (e : get_or ages i 0 ≡ get_or ages j 0). apart e) in
            omega (arith, rank_lt ages (get_or ages j 0) i il live less, ri, rj, same)
      ]

  pub aged_anew : (latest : ℕ) → ((i : ℕ) → i < ways → get_or (renumbered ages) i 0 ≤ latest) → AreAged ways latest (renumbered ages) tags
  aged_anew latest past = record {
    ages_are = length-map ages (rank_in ages) ∙ aged.ages_are;
    tags_are = aged.tags_are;
    past = past;
    apart = apart_ranks;
    once = λ i j l m h li lj. aged.once i j l m h (live_before i l li) (live_before j m lj);
  }

-- a way that is not free stays so
pub live_anew : (ages : List ℕ) (k : ℕ) → k < length ages → 0 < get_or ages k 0 → 0 < get_or (renumbered ages) k 0
live_anew ages k within live = omega (arith, rank_at (rank_in ages) ages k within, (keeps_order ages k within live).0)
