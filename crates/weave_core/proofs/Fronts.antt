-- How a filtered front of a list grows.
use Rattle.std.proofs.Common.{◌≡◌, ◌+◌, ◌<◌, ◌≤◌, ◌-◌, ℕ, zero, suc, Bool, true, false, cond, List, [], ◌∷◌, ◌++◌, length, take, Option, Some, None, slice_get, sym, ◌∙◌, ap, refl, arith}
use Rattle.std.proofs.lemmas.Bool.{false≢true}
use Rattle.std.proofs.lemmas.Option.{same_Some, none-some}
use Rattle.std.proofs.lemmas.List.{append-nil}
use Rattle.std.specs.List.{filter, fold}

module _ {X : Type 0} (test : X → Bool) where
  one_more : (xs : List X) (k : ℕ) (x : X) → slice_get xs k ≡ Some x → filter test (take (suc k) xs) ≡ filter test (take k xs) ++ cond (test x) (x ∷ []) []
  one_more [] k x h = absurd (none-some x h)
  one_more (y ∷ xs) zero x h = first (test y) (test x) (ap test (same_Some y x h))
    where
      first : (t u : Bool) → t ≡ u → cond t (y ∷ []) [] ≡ cond u (x ∷ []) []
      first true true e = ap (λ (z : X). z ∷ []) (same_Some y x h)
      first true false e = absurd (false≢true (sym e))
      first false true e = absurd (false≢true e)
      first false false e = refl
  one_more (y ∷ xs) (suc k) x h =
      elim (test y) as (λ t. cond t (y ∷ filter test (take (suc k) xs)) (filter test (take (suc k) xs)) ≡ cond t (y ∷ filter test (take k xs)) (filter test (take k xs)) ++ cond (test x) (x ∷ []) []) [
        | true ↦ ap (λ (zs : List X). y ∷ zs) (one_more xs k x h)
        | false ↦ one_more xs k x h
      ]

  one_past : (xs : List X) (k : ℕ) → slice_get xs k ≡ None → take (suc k) xs ≡ take k xs
  one_past [] zero h = refl
  one_past [] (suc k) h = refl
  one_past (y ∷ xs) zero h = absurd (none-some y (sym h))
  one_past (y ∷ xs) (suc k) h = ap (λ (zs : List X). y ∷ zs) (one_past xs k h)

  -- one element more
  pub front_more : (xs : List X) (k : ℕ) (x : X) → slice_get xs k ≡ Some x → filter test (take (k + 1) xs) ≡ filter test (take k xs) ++ cond (test x) (x ∷ []) []
  front_more xs k x h =
      let more : k + 1 ≡ suc k = omega arith in
      ap (λ n. filter test (take n xs)) more ∙ one_more xs k x h

  front_past : (xs : List X) (k : ℕ) → slice_get xs k ≡ None → take (k + 1) xs ≡ take k xs
  front_past xs k h =
      let more : k + 1 ≡ suc k = omega arith in
      ap (λ n. take n xs) more ∙ one_past xs k h

  -- elements that don't pass change nothing
  pub front_same : (xs : List X) (low gap : ℕ) → ((j : ℕ) (y : X) → low ≤ j → j < low + gap → slice_get xs j ≡ Some y → test y ≡ false)
      → filter test (take (low + gap) xs) ≡ filter test (take low xs)
  front_same xs low zero none = ap (λ n. filter test (take n xs)) (omega arith)
  front_same xs low (suc gap) none =
      let rest : filter test (take (low + gap) xs) ≡ filter test (take low xs) = front_same xs low gap (λ j y a b h. none j y a (omega (arith, b)) h) in
      let next : low + suc gap ≡ (low + gap) + 1 = omega arith in
      ap (λ n. filter test (take n xs)) next ∙ (step (slice_get xs (low + gap)) refl ∙ rest)
    where
      step : (o : Option X) → slice_get xs (low + gap) ≡ o → filter test (take ((low + gap) + 1) xs) ≡ filter test (take (low + gap) xs)
      step None e = ap (filter test) (front_past xs (low + gap) e)
      step (Some y) e =
          let no : test y ≡ false = none (low + gap) y (omega arith) (omega arith) e in
          front_more xs (low + gap) y e ∙ (ap (λ t. filter test (take (low + gap) xs) ++ cond t (y ∷ []) []) no ∙ append-nil (filter test (take (low + gap) xs)))

  -- the first that passes from here on is put behind those before
  pub front_next : (xs : List X) (low k : ℕ) (x : X) → low ≤ k → slice_get xs k ≡ Some x → test x ≡ true
      → ((j : ℕ) (y : X) → low ≤ j → j < k → slice_get xs j ≡ Some y → test y ≡ false)
      → filter test (take (k + 1) xs) ≡ filter test (take low xs) ++ x ∷ []
  front_next xs low k x l h t none =
      let gap : low + (k - low) ≡ k = omega arith in
      front_more xs k x h
      ∙ (ap (λ u. filter test (take k xs) ++ cond u (x ∷ []) []) t
      ∙ ap (λ (zs : List X). zs ++ x ∷ [])
      (ap (λ n. filter test (take n xs)) (sym gap) ∙ front_same xs low (k - low) (λ j y a b e. none j y a (omega (arith, b, gap)) e)))

  pub front_kept : (xs : List X) (low k : ℕ) → low ≤ k → ((j : ℕ) (y : X) → low ≤ j → j < k → slice_get xs j ≡ Some y → test y ≡ false)
      → filter test (take k xs) ≡ filter test (take low xs)
  front_kept xs low k l none =
      let gap : low + (k - low) ≡ k = omega arith in
      ap (λ n. filter test (take n xs)) (sym gap) ∙ front_same xs low (k - low) (λ j y a b e. none j y a (omega (arith, b, gap)) e)

pub fold-push : {X A : Type 0} (f : A → X → A) (a : A) (xs : List X) (x : X) → fold f a (xs ++ x ∷ []) ≡ f (fold f a xs) x
fold-push f a [] x = refl
fold-push f a (y ∷ xs) x = fold-push f (f a y) xs x

-- a filtered front is a front of the filtered list
pub filter_front : {X : Type 0} (test : X → Bool) (xs : List X) (k : ℕ) → filter test (take k xs) ≡ take (length (filter test (take k xs))) (filter test xs)
filter_front test [] zero = refl
filter_front test [] (suc k) = refl
filter_front test (y ∷ xs) zero = refl
filter_front {X} test (y ∷ xs) (suc k) =
    elim (test y) as (λ t. cond t (y ∷ filter test (take k xs)) (filter test (take k xs))
    ≡ take (length (cond t (y ∷ filter test (take k xs)) (filter test (take k xs)))) (cond t (y ∷ filter test xs) (filter test xs))) [
      | true ↦ ap (λ (zs : List X). y ∷ zs) (filter_front test xs k)
      | false ↦ filter_front test xs k
    ]
