-- The first pair of a list is the least pair of places, by the first and then by the second.
use Rattle.std.proofs.Common.{◌≡◌, ℕ, zero, suc, ◌+◌, ◌<◌, ◌⊎◌, Bool, false, List, [], ◌∷◌, length, get_or, Option, Some, None, inl, inr, unwrap_or, refl, ap, ap₂, subst, arith}
use Rattle.std.specs.List.{position, list_any}
use Rattle.std.specs.Option.{option_or, option_map}
use Rattle.std.proofs.lemmas.List.Quantifiers.{position-Some}
use Rattle.elf_load.specs.Checks.{first_pair, overlap_refusal, overlaps}
use Rattle.elf_load.specs.declared.bad_elf.BadElf.TheVariants as bad
use Rattle.elf_load.specs.declared.header.ProgramHeader.{ProgramHeader}
use Rattle.elf_load.specs.Meaning.{IsLeastPair}
use Rattle.elf_load.proofs.Lists.{position-None, passed_over}

module _ {X : Type 0} (test : X → X → Bool) where
  -- the first element is in the pair
  least_here : (x : X) (xs : List X) (d : X) (k : ℕ) → ((m : ℕ) → m < k → test x (get_or xs m d) ≡ false) → (m n : ℕ) → m < n → (m < 0) ⊎ ((m ≡ 0) × (n < suc k)) → test (get_or (x ∷ xs) m d) (get_or (x ∷ xs) n d) ≡ false
  least_here x xs d k before m zero l c = absurd (omega arith)
  least_here x xs d k before zero (suc n) l (inl c) = absurd (omega arith)
  least_here x xs d k before zero (suc n) l (inr c) = before n (omega (arith, c.1))
  least_here x xs d k before (suc m) (suc n) l (inl c) = absurd (omega arith)
  least_here x xs d k before (suc m) (suc n) l (inr c) = absurd (omega (arith, c.0))

  -- the first element is in no pair
  least_later : (x : X) (xs : List X) (d : X) (j k : ℕ) → list_any (test x) xs ≡ false → IsLeastPair test xs d j k → (m n : ℕ) → m < n → n < suc (length xs) → (m < suc j) ⊎ ((m ≡ suc j) × (n < suc k)) → test (get_or (x ∷ xs) m d) (get_or (x ∷ xs) n d) ≡ false
  least_later x xs d j k none pair m zero l b c = absurd (omega arith)
  least_later x xs d j k none pair zero (suc n) l b c = passed_over (test x) xs n d none (omega arith)
  least_later x xs d j k none pair (suc m) (suc n) l b (inl c) = pair.least m n (omega arith) (omega arith) (inl (omega arith))
  least_later x xs d j k none pair (suc m) (suc n) l b (inr c) = pair.least m n (omega arith) (omega arith) (inr (omega (arith, c.0), omega (arith, c.1)))

  Found : (i : ℕ) (xs : List X) (d : X) (a b : ℕ) → Type 0
  Found i xs d a b = (j : ℕ) × (k : ℕ) × (a ≡ i + j) × (b ≡ i + k) × IsLeastPair test xs d j k

  found_first : (i : ℕ) (x : X) (xs : List X) (d : X) (a b : ℕ) (p : Option ℕ) → position (test x) xs ≡ p → ((a' b' : ℕ) → first_pair test (i + 1) xs ≡ Some (a', b') → Found (i + 1) xs d a' b') → option_or (option_map (λ k. (i, i + 1 + k)) p) (first_pair test (i + 1) xs) ≡ Some (a, b) → Found i (x ∷ xs) d a b
  unfolding Found
  found_first i x xs d a b (Some k) e later h =
      let at = position-Some (test x) xs k d e in
      let first : i ≡ a = ap (λ (o : Option (ℕ × ℕ)). (unwrap_or {T = ℕ × ℕ} o (0, 0)).0) h in
      let second : i + 1 + k ≡ b = ap (λ (o : Option (ℕ × ℕ)). (unwrap_or {T = ℕ × ℕ} o (0, 0)).1) h in
      (0, suc k, omega arith, omega arith, record { order = omega arith; bound = omega (arith, at.0); passes = at.1; least = λ m n l _ c. least_here x xs d k at.2 m n l c })
  found_first i x xs d a b None e later h =
      let found = later a b h in
      let pair = found.4 in
      (suc found.0, suc found.1, omega (arith, found.2), omega (arith, found.3), record { order = omega (arith, pair.order); bound = omega (arith, pair.bound); passes = pair.passes; least = least_later x xs d found.0 found.1 (position-None (test x) xs e) pair })

  found_from : (i : ℕ) (xs : List X) (d : X) (a b : ℕ) → first_pair test i xs ≡ Some (a, b) → Found i xs d a b
  unfolding Found
  found_from i [] d a b h = cc
  found_from i (x ∷ xs) d a b h = found_first i x xs d a b (position (test x) xs) refl (λ a' b' h'. found_from (i + 1) xs d a' b' h') h

  pub first_pair-least : (xs : List X) (d : X) (a b : ℕ) → first_pair test 0 xs ≡ Some (a, b) → IsLeastPair test xs d a b
  unfolding Found
  first_pair-least xs d a b h =
      let found = found_from 0 xs d a b h in
      let first : found.0 ≡ a = omega (arith, found.2) in
      let second : found.1 ≡ b = omega (arith, found.3) in
      subst (λ j. IsLeastPair test xs d j b) first (subst (λ k. IsLeastPair test xs d found.0 k) second found.4)

-- the segments of a refusal
overlap_of : (o : Option (ℕ × ℕ)) (first second : ℕ) → option_map (λ pair. bad.Overlap pair.0 pair.1) o ≡ Some (bad.Overlap first second) → o ≡ Some (first, second)
overlap_of (Some pair) first second h =
    let a : pair.0 ≡ first = cc in
    let b : pair.1 ≡ second = cc in
    ap₂ (λ x y. Some (x, y)) a b
overlap_of None first second h = cc

pub overlap_refusal-least : (headers : List ProgramHeader) (d : ProgramHeader) (first second : ℕ) → overlap_refusal headers ≡ Some (bad.Overlap first second) → IsLeastPair overlaps headers d first second
unfolding overlap_refusal
overlap_refusal-least headers d first second h = first_pair-least overlaps headers d first second (overlap_of (first_pair overlaps 0 headers) first second h)
