-- A search for the place of a chunk by halves.
use Rattle.std.proofs.Common.{◌≡◌, ℕ, suc, ◌+◌, ◌<◌, ◌≤◌, ◌^◌, List, [], ◌∷◌, Option, None, drop, drop-cons, get_or, length, map, set, sym, ap, ◌∙◌, subst, inl, inr, arith}
use Rattle.std.proofs.lemmas.Bool.{cases_lt}
use Rattle.std.proofs.lemmas.List.{get_or-map, get_or_default, length-map, map-set}
use Rattle.std.specs.Option.{unwrap_or}
use Rattle.sparse_table.specs.Chunks.{AreChunks, chunk_at, kept_at, put_at, with_place}
use Rattle.sparse_table.proofs.InChunks.{fits_at, rises}

module _ {T : Type 0} where
  pub within_read : {X : Type 0} (f : X → ℕ × List (Option T)) (xs : List X) (i : ℕ) → i < length (map f xs) → i < length xs
  within_read f xs i lt = omega (arith, length-map xs f)

  -- a chunk as it is read
  module _ {X : Type 0} (f : X → ℕ × List (Option T)) (xs : List X) (i : ℕ) (x : X) (lt : i < length xs) (is : x ≡ get_or xs i x) where
    pub read_at : chunk_at (map f xs) i ≡ f x
    read_at = get_or-map f xs i x (0, []) lt ∙ ap f (sym is)

    -- it and those behind it
    pub rest_at : drop i (map f xs) ≡ f x ∷ drop (suc i) (map f xs)
    rest_at = drop-cons (map f xs) i (0, []) (omega (arith, length-map xs f)) ∙ ap (λ (p : ℕ × List (Option T)). p ∷ drop (suc i) (map f xs)) read_at

    module _ (are : AreChunks 0 (map f xs)) where
      fits_read : ((chunk_at (map f xs) i).0 < 2 ^ 58) × (length (chunk_at (map f xs) i).1 ≡ 64)
      fits_read = fits_at 0 (map f xs) i are (omega (arith, length-map xs f))

      pub read_full : length (f x).1 ≡ 64
      read_full = ap (λ (p : ℕ × List (Option T)). length p.1) (sym read_at) ∙ fits_read.1

      pub read_small : (f x).0 < 2 ^ 58
      read_small = subst (λ (p : ℕ × List (Option T)). p.0 < 2 ^ 58) read_at fits_read.0

    -- what it keeps
    pub kept_is : (place : ℕ) (none : T) (o : Option T) → place < length (f x).1 → o ≡ get_or (f x).1 place o → unwrap_or o none ≡ kept_at none i place (map f xs)
    kept_is place none o within kept =
        ap (λ v. unwrap_or v none) (kept ∙ get_or_default (f x).1 place o None within)
        ∙ ap (λ (p : ℕ × List (Option T)). unwrap_or (get_or p.1 place None) none) (sym read_at)

    pub kept_there : (place : ℕ) (none : T) → unwrap_or (get_or (f x).1 place None) none ≡ kept_at none i place (map f xs)
    kept_there place none = ap (λ (p : ℕ × List (Option T)). unwrap_or (get_or p.1 place None) none) (sym read_at)

    -- a value that is put there
    pub put_is : (place : ℕ) (y : X) (value : T) → f y ≡ with_place place value (f x) → map f (set xs i y) ≡ put_at i place value (map f xs)
    put_is place y value now = map-set f xs i y ∙ ap (λ p. set (map f xs) i p) (now ∙ ap (λ p. with_place place value p) (sym read_at))

  -- the place is neither before the one nor past the other
  pub record IsBetween (chunks : List (ℕ × List (Option T))) (number from to : ℕ) : Type 0 where
    pub order : from ≤ to
    pub within : to ≤ length chunks
    pub before : (j : ℕ) → j < from → (chunk_at chunks j).0 < number
    pub after : (j : ℕ) → to ≤ j → j < length chunks → number ≤ (chunk_at chunks j).0

  -- at first it can be anywhere
  pub all_between : {X : Type 0} (f : X → ℕ × List (Option T)) (xs : List X) (number len : ℕ) → len ≡ length xs → IsBetween (map f xs) number 0 len
  all_between f xs number len is = record {
    order = omega arith;
    within = omega (arith, length-map xs f);
    before = λ j lt. absurd (omega arith);
    after = λ j le lt. absurd (omega (arith, length-map xs f));
  }

  module _ (chunks : List (ℕ × List (Option T))) (are : AreChunks 0 chunks) (number from to middle : ℕ) (between : IsBetween chunks number from to) (lt : middle < to) where
    -- it is past one with a smaller number
    pub past_middle : (chunk_at chunks middle).0 < number → IsBetween chunks number (middle + 1) to
    past_middle less = record {
      order = omega arith;
      within = between.within;
      before = λ j below. elim (cases_lt j middle) [
        | inl earlier ↦ omega (arith, rises 0 chunks j middle are earlier (omega (arith, between.within)))
        | inr later ↦ subst (λ k. (chunk_at chunks k).0 < number) (omega arith) less
      ];
      after = between.after;
    }

    -- and not past another
    pub to_middle : from ≤ middle → number ≤ (chunk_at chunks middle).0 → IsBetween chunks number from middle
    to_middle le more = record {
      order = le;
      within = omega (arith, between.within);
      before = between.before;
      after = λ j above within. elim (cases_lt middle j) [
        | inl later ↦ omega (arith, rises 0 chunks middle j are later within)
        | inr same ↦ subst (λ k. number ≤ (chunk_at chunks k).0) (omega arith) more
      ];
    }
