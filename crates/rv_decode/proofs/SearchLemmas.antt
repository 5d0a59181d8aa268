-- A search of a list, and tests that are computed over a whole list.
use Rattle.std.proofs.Common.{◌≡◌, ℕ, suc, ◌<◌, Bool, true, false, ◌&&◌, not, cond, List, [], ◌∷◌, length, get_or, find, Option, Some, None, refl, sym, ap, ◌∙◌, subst, arith, Contains, All, AllPairs, inl, inr, ◌⊎◌}
use Rattle.std.specs.List.{list_all}
use Rattle.std.proofs.lemmas.Option.{same_Some}
use Rattle.std.proofs.lemmas.Bool.{false≢true, cases_order}
use Rattle.std.proofs.lemmas.List.{get_or_default}
use Rattle.std.proofs.lemmas.List.Kept.{AllPairs-cons}
use Rattle.std.proofs.lemmas.List.Folds.{list_all_at}

pub and_true : (a b : Bool) → (a && b) ≡ true → (a ≡ true) × (b ≡ true)
and_true true b e = (refl, e)
and_true false b e = cc

not_false : (a : Bool) → (a ≡ false → ⊥) → a ≡ true
not_false true h = refl
not_false false h = absurd (h refl)

pub not_equal : (b : Bool) → not b ≡ true → b ≡ false
not_equal true e = cc
not_equal false e = refl

-- a test that all pass, at one
pub all_listed : {X : Type 0} (p : X → Bool) (xs : List X) (x : X) → list_all p xs ≡ true → Contains xs x → p x ≡ true
all_listed p xs x t c = not_false (p x) (λ f. false≢true (sym (list_all_at p xs c.0 x c.1 (ap p c.2 ∙ f)) ∙ t))

pub All-from_test : {X : Type 0} (p : X → Bool) (xs : List X) → list_all p xs ≡ true → All (λ x. p x ≡ true) xs
All-from_test p xs t k d h = not_false (p (get_or xs k d)) (λ f. false≢true (sym (list_all_at p xs k d h f) ∙ t))

-- a test of each pair
abbrev pub pairs_all : {X : Type 0} → (X → X → Bool) → List X → Bool
pairs_all p [] = true
pairs_all p (x ∷ xs) = list_all (p x) xs && pairs_all p xs

pub AllPairs-from_test : {X : Type 0} (p : X → X → Bool) (R : X → X → Type 0) → ((x y : X) → p x y ≡ true → R x y) → (xs : List X) → pairs_all p xs ≡ true → AllPairs R xs
AllPairs-from_test p R h [] t = λ i j d lt below. absurd (omega arith)
AllPairs-from_test p R h (x ∷ xs) t =
    let two = and_true (list_all (p x) xs) (pairs_all p xs) t in
    AllPairs-cons R x xs (λ k d below. h x (get_or xs k d) (All-from_test (p x) xs two.0 k d below)) (AllPairs-from_test p R h xs two.1)

pub listed_here : {X : Type 0} (x : X) (xs : List X) → Contains (x ∷ xs) x
listed_here x xs = (0, omega arith, refl)

pub listed_later : {X : Type 0} (y x : X) (xs : List X) → Contains xs x → Contains (y ∷ xs) x
listed_later y x xs c = (suc c.0, omega (arith, c.1), c.2)

-- what a search finds is listed, and passes
found_by : {X : Type 0} (p : X → Bool) (y : X) (xs : List X) (x : X) (b : Bool) → p y ≡ b → (find p xs ≡ Some x → Contains xs x × (p x ≡ true)) → cond b (Some y) (find p xs) ≡ Some x → Contains (y ∷ xs) x × (p x ≡ true)
found_by p y xs x true e ih s = let same = same_Some y x s in (subst (λ z. Contains (y ∷ xs) z) same (listed_here y xs), subst (λ z. p z ≡ true) same e)
found_by p y xs x false e ih s = (listed_later y x xs (ih s).0, (ih s).1)

pub find_listed : {X : Type 0} (p : X → Bool) (xs : List X) (x : X) → find p xs ≡ Some x → Contains xs x × (p x ≡ true)
find_listed p [] x s = cc
find_listed p (y ∷ xs) x s = found_by p y xs x (p y) refl (find_listed p xs x) s

-- where a search finds nothing, nothing listed passes
none_by : {X : Type 0} (p : X → Bool) (y : X) (xs : List X) (b : Bool) → p y ≡ b → (find p xs ≡ None → list_all (λ x. not (p x)) xs ≡ true) → cond b (Some y) (find p xs) ≡ None → (not b && list_all (λ x. not (p x)) xs) ≡ true
none_by p y xs true e ih s = cc
none_by p y xs false e ih s = ih s

none_passes : {X : Type 0} (p : X → Bool) (xs : List X) → find p xs ≡ None → list_all (λ x. not (p x)) xs ≡ true
none_passes p [] s = refl
none_passes p (y ∷ xs) s = none_by p y xs (p y) refl (none_passes p xs) s

pub find_none : {X : Type 0} (p : X → Bool) (xs : List X) (x : X) → find p xs ≡ None → Contains xs x → p x ≡ false
find_none p xs x s c = not_equal (p x) (all_listed (λ y. not (p y)) xs x (none_passes p xs s) c)

-- where at most one element passes, the search finds it
module _ {X : Type 0} (p : X → Bool) (xs : List X) (one : AllPairs (λ x y. p x ≡ true → p y ≡ false) xs) where
  not_both : (k j : ℕ) (x y : X) → k < j → j < length xs → get_or xs k x ≡ x → get_or xs j y ≡ y → p x ≡ true → p y ≡ true → ⊥
  not_both k j x y lt below e f m n =
      let other : p (get_or xs j x) ≡ false = one k j x lt below (subst (λ z. p z ≡ true) (sym e) m) in
      let same : get_or xs j x ≡ y = get_or_default xs j x y below ∙ f in
      let not : p y ≡ false = subst (λ z. p z ≡ false) same other in
      cc

  same_place : (k j : ℕ) (x y : X) → k ≡ j → j < length xs → get_or xs k x ≡ x → get_or xs j y ≡ y → x ≡ y
  same_place k j x y same below e f = sym e ∙ ap (λ n. get_or xs n x) same ∙ get_or_default xs j x y below ∙ f

  by_order : (x y : X) (c : Contains xs x) (d : Contains xs y) → p x ≡ true → p y ≡ true → (c.0 ≡ d.0) ⊎ ((c.0 < d.0) ⊎ (d.0 < c.0)) → x ≡ y
  by_order x y c d m n (inl e) = same_place c.0 d.0 x y e d.1 c.2 d.2
  by_order x y c d m n (inr (inl lt)) = absurd (not_both c.0 d.0 x y lt d.1 c.2 d.2 m n)
  by_order x y c d m n (inr (inr lt)) = absurd (not_both d.0 c.0 y x lt c.1 d.2 c.2 n m)

  only_one : (x y : X) → Contains xs x → Contains xs y → p x ≡ true → p y ≡ true → x ≡ y
  only_one x y c d m n = by_order x y c d m n (cases_order c.0 d.0)

  find_by : (o : Option X) → find p xs ≡ o → (x : X) → Contains xs x → p x ≡ true → o ≡ Some x
  find_by (Some y) e x c m =
      let found = find_listed p xs y e in
      ap Some (only_one y x found.0 c found.1 m)
  find_by None e x c m =
      let none = find_none p xs x e c in
      cc

  pub find_only : (x : X) → Contains xs x → p x ≡ true → find p xs ≡ Some x
  find_only x c m = find_by (find p xs) refl x c m
