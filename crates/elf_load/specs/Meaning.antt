-- Words of the laws: what the tests of ranges and of pairs mean.
use Rattle.std.specs.Prelude.{◌≡◌, ℕ, ◌+◌, ◌≤◌, ◌<◌, ◌⊎◌, Bool, true, false, List, length, get_or}

-- x lies among `count` numbers from `start` on
pub record LiesIn (start count x : ℕ) : Type 0 where
  pub begins : start ≤ x
  pub ends : x < start + count

-- The elements at places j and k pass the test, and those at no lesser pair of places do, by the first place and then
-- by the second.
pub record IsLeastPair {X : Type 0} (test : X → X → Bool) (xs : List X) (d : X) (j k : ℕ) : Type 0 where
  pub order : j < k
  pub bound : k < length xs
  pub passes : test (get_or xs j d) (get_or xs k d) ≡ true
  pub least : (m n : ℕ) → m < n → n < length xs → (m < j) ⊎ ((m ≡ j) × (n < k))
      → test (get_or xs m d) (get_or xs n d) ≡ false
