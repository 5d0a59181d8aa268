-- Counts to which items are added one by one, each at the number that owns it: of the cores with their accesses, and of
-- the components with their events.
use Rattle.std.proofs.Common.{◌≡◌, ◌+◌, ◌<◌, ◌≤◌, ℕ, Bool, ◌==◌, cond, List, [], ◌∷◌, ◌++◌, length, take, drop, get_or, set, ap, ◌∙◌, sym, subst, arith, inl, inr, refl, get_or-set_same, get_or-set_other, eq-eqb, append-nil, take-append-drop}
use Rattle.std.specs.List.{fold, filter}
use Rattle.std.proofs.lemmas.Bool.{ne_eqb, cases_eq}
use Rattle.std.proofs.lemmas.List.{get_or_default, take_all}
use Rattle.std.proofs.lemmas.List.Elements.{filter_more, filter-append}
use Rattle.std.proofs.lemmas.List.Sums.{fold_push, fold-append}

module _ {C X : Type 0} (step : C → X → C) (owner : X → ℕ) where
  -- a count after all items of this number
  abbrev pub with_own : C → (n : ℕ) → List X → C
  with_own c n xs = fold step c (filter (λ x. owner x == n) xs)

  module _ (c : C) (n : ℕ) (xs : List X) (i : ℕ) (d : X) (below : i < length xs) where
    pub own_item : owner (get_or xs i d) ≡ n → step (with_own c n (take i xs)) (get_or xs i d) ≡ with_own c n (take (i + 1) xs)
    own_item own =
        let x : X = get_or xs i d in
        let before : List X = filter (λ y. owner y == n) (take i xs) in
        let more = filter_more (λ y. owner y == n) xs i d below in
        let hit = ap (λ (b : Bool). before ++ cond b (x ∷ []) []) (eq-eqb (owner x) n own) in
        sym (ap (fold step c) (more ∙ hit) ∙ fold_push step c before x)

    pub other_item : (owner (get_or xs i d) ≡ n → ⊥) → with_own c n (take i xs) ≡ with_own c n (take (i + 1) xs)
    other_item other =
        let x : X = get_or xs i d in
        let before : List X = filter (λ y. owner y == n) (take i xs) in
        let more = filter_more (λ y. owner y == n) xs i d below in
        let miss = ap (λ (b : Bool). before ++ cond b (x ∷ []) []) (ne_eqb (owner x) n other) in
        sym (ap (fold step c) (more ∙ miss ∙ append-nil before))

  -- what fits with more items fits with fewer
  module _ (Fits : C → Type 0) (fewer : (c : C) (x : X) → Fits (step c x) → Fits c) where
    shorter : (c : C) (ys : List X) → Fits (fold step c ys) → Fits c
    shorter c [] fits = fits
    shorter c (y ∷ ys) fits = fewer c y (shorter (step c y) ys fits)

    pub first_fit : (c : C) (n : ℕ) (xs : List X) (k : ℕ) → Fits (with_own c n xs) → Fits (with_own c n (take k xs))
    first_fit c n xs k fits =
        let p = λ (y : X). owner y == n in
        let split = ap (fold step c) (ap (filter p) (sym (take-append-drop k xs)) ∙ filter-append p (take k xs) (drop k xs)) ∙ fold-append step c (filter p (take k xs)) (filter p (drop k xs)) in
        shorter (with_own c n (take k xs)) (filter p (drop k xs)) (subst Fits split fits)

  -- the counts of all numbers, which so far have the first items, at one item more: it is owned by `place`
  module _ (first now : List C) (xs : List X) (i : ℕ) (d : X) (below : i < length xs)
      (place : ℕ) (own : place ≡ owner (get_or xs i d)) (there : place < length first)
      (so_far : (n : ℕ) (c : C) → n < length first → get_or now n c ≡ with_own (get_or first n c) n (take i xs)) where
    its_count : (c : C) → step (get_or now place c) (get_or xs i d) ≡ with_own (get_or first place c) place (take (i + 1) xs)
    its_count c =
        ap (λ (y : C). step y (get_or xs i d)) (so_far place c there)
        ∙ own_item (get_or first place c) place xs i d below (sym own)

    pub item_fits : (Fits : C → Type 0) → ((c : C) (x : X) → Fits (step c x) → Fits c)
        → ((n : ℕ) (c : C) → n < length first → Fits (with_own (get_or first n c) n xs)) → (c : C) → Fits (step (get_or now place c) (get_or xs i d))
    item_fits Fits fewer fits c =
        subst Fits (sym (its_count c)) (first_fit Fits fewer (get_or first place c) place xs (i + 1) (fits place c there))

    pub item_counted : length now ≡ length first → (c fresh : C) → fresh ≡ step (get_or now place c) (get_or xs i d)
        → (n : ℕ) (z : C) → n < length first → get_or (set now place fresh) n z ≡ with_own (get_or first n z) n (take (i + 1) xs)
    item_counted long c fresh is n z within =
        elim (cases_eq place n) [
          | inl same ↦
              let inside : place < length now = omega arith in
              let P : ℕ → Type 0 = λ k. get_or (set now place fresh) k z ≡ with_own (get_or first k z) k (take (i + 1) xs) in
              subst P same
              (get_or-set_same now place fresh z inside
              ∙ is
              ∙ ap (λ (y : C). step y (get_or xs i d)) (get_or_default now place c z inside)
              ∙ its_count z)
          | inr other ↦
              get_or-set_other now place n fresh z (λ h. other (sym h))
              ∙ so_far n z within
              ∙ other_item (get_or first n z) n xs i d below (λ h. other (own ∙ h))
        ]

  -- no item, and all of them
  pub no_item : (c : C) (n : ℕ) (xs : List X) → c ≡ with_own c n (take 0 xs)
  no_item c n xs = refl

  pub all_counted : (c : C) (n : ℕ) (xs : List X) (i : ℕ) → length xs ≤ i → with_own c n (take i xs) ≡ with_own c n xs
  all_counted c n xs i past = ap (λ (ys : List X). with_own c n ys) (take_all i xs past)
