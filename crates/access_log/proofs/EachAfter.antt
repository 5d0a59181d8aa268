-- A list of things after their own entries, by index.
use Rattle.std.proofs.Common.{◌≡◌, ℕ, zero, suc, ◌+◌, List, [], ◌∷◌, map, Some, refl, ap, arith}
use Rattle.std.specs.Prelude.{slice_get}
use Rattle.std.specs.List.{enumerate_from, fold}
use Rattle.std.specs.Option.{option_map}
use Rattle.zs_num.specs.declared.entry.Entry.{Entry}
use Rattle.access_log.specs.History.{each_after, of_number}

module _ {X : Type 0} (step : X → Entry → X) (number_of : Entry → ℕ) (entries : List Entry) where
  abbrev pub own : ℕ → X → X
  own i x = fold step x (of_number number_of i entries)

  at_from : (a : ℕ) (xs : List X) (i k : ℕ) → k ≡ a + i → slice_get (map (λ at. own at.0 at.1) (enumerate_from a xs)) i ≡ option_map (own k) (slice_get xs i)
  at_from a [] i k is = refl
  at_from a (x ∷ xs) zero k is = let same : a ≡ k = omega (arith, is) in ap (λ (n : ℕ). Some (own n x)) same
  at_from a (x ∷ xs) (suc i) k is = at_from (a + 1) xs i k (omega (arith, is))

  pub own_at : (xs : List X) (i : ℕ) → slice_get (each_after step number_of entries xs) i ≡ option_map (own i) (slice_get xs i)
  own_at xs i = at_from 0 xs i i (omega arith)
