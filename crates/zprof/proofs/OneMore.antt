-- Lists with one element more.
use Rattle.std.proofs.Common.{◌≡◌, ◌⊎◌, ℕ, ◌+◌, ◌-◌, ◌<◌, ◌≤◌, List, [], ◌∷◌, ◌++◌, length, take, map, option_map, slice_get, Option, None, Some, inl, inr, ap, sym, subst, ◌∙◌, arith}
use Rattle.std.proofs.lemmas.Option.{get_or_from_slice_get, slice_get-map, slice_get_past, slice_get_within}
use Rattle.std.proofs.lemmas.List.{take_more}
use Rattle.bound_core.specs.NumberedCores.{NumberedCore}
use Rattle.reference.specs.TimedCore.{TimedCore}
use Rattle.noc_mesh.specs.Lists.{slice_get_left, slice_get_right}

-- the first elements, and one more of them
pub take_on : {A : Type 0} (xs : List A) (k : ℕ) (x : A) → slice_get xs k ≡ Some x → take (k + 1) xs ≡ take k xs ++ x ∷ []
take_on xs k x is = take_more xs k x (slice_get_within xs k x is) ∙ ap (λ y. take k xs ++ y ∷ []) (get_or_from_slice_get xs k x x is)

module _ {A B : Type 0} (P : ℕ → A → B → Type 0) (xs : List A) (ys : List B) (y : B) where
  at_each : (n : ℕ) (x : A) (z : B) → (n < length ys) ⊎ ((n ≡ length ys) ⊎ (length ys < n))
      → ((x : A) → slice_get xs (length ys) ≡ Some x → P (length ys) x y)
      → ((n : ℕ) (x : A) (z : B) → slice_get xs n ≡ Some x → slice_get ys n ≡ Some z → P n x z)
      → slice_get xs n ≡ Some x → slice_get (ys ++ y ∷ []) n ≡ Some z → P n x z
  at_each n x z (inl within) last before at_x at_z = before n x z at_x (sym (slice_get_left ys (y ∷ []) n within) ∙ at_z)
  at_each n x z (inr (inl same)) last before at_x at_z =
      let there : slice_get (ys ++ y ∷ []) n ≡ Some y = slice_get_right ys (y ∷ []) n 0 (omega arith) in
      let is : y ≡ z = cc in
      subst (λ (m : ℕ). P m x z) (sym same) (subst (P (length ys) x) is (last x (subst (λ (m : ℕ). slice_get xs m ≡ Some x) same at_x)))
  at_each n x z (inr (inr past)) last before at_x at_z =
      let there : slice_get (ys ++ y ∷ []) n ≡ slice_get (y ∷ []) (n - length ys) = slice_get_right ys (y ∷ []) n (n - length ys) (omega arith) in
      let many : 1 ≤ n - length ys = omega arith in
      let none : slice_get (y ∷ []) (n - length ys) ≡ None = slice_get_past (y ∷ []) (n - length ys) many in
      absurd cc

  -- what holds of each pair, and of the last one, holds of all
  pub pair_more : (k : ℕ) → length ys ≡ k → ((x : A) → slice_get xs k ≡ Some x → P k x y)
      → ((n : ℕ) (x : A) (z : B) → slice_get xs n ≡ Some x → slice_get ys n ≡ Some z → P n x z)
      → (n : ℕ) (x : A) (z : B) → slice_get xs n ≡ Some x → slice_get (ys ++ y ∷ []) n ≡ Some z → P n x z
  pair_more k is last before n x z at_x at_z =
      let where_it_is : (n < length ys) ⊎ ((n ≡ length ys) ⊎ (length ys < n)) = grind arith in
      at_each n x z where_it_is (subst (λ (m : ℕ). (x : A) → slice_get xs m ≡ Some x → P m x y) (sym is) last) before at_x at_z

-- what holds of a core holds of it where the list has it
pub at_place : (P : ℕ → TimedCore → Type 0) (cores : List NumberedCore) (k number : ℕ) (core : NumberedCore) → slice_get cores k ≡ Some core → P number core.timed → number ≡ k
    → (x : TimedCore) → slice_get (map (λ (c : NumberedCore). c.timed) cores) k ≡ Some x → P k x
at_place P cores k number core there holds is x at =
    let timed : slice_get (map (λ (c : NumberedCore). c.timed) cores) k ≡ Some core.timed =
    slice_get-map (λ (c : NumberedCore). c.timed) cores k ∙ ap (λ (o : Option NumberedCore). option_map (λ (c : NumberedCore). c.timed) o) there in
    let same : core.timed ≡ x = cc in
    subst (P k) same (subst (λ n. P n core.timed) is holds)
