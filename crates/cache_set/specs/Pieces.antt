-- The sets of a cache in three arrays: the ages, the tags and what is kept of the ways of one set after the other.
use Rattle.std.specs.Prelude.{◌≡◌, ◌⊎◌, ℕ, zero, suc, ◌*◌, ◌<◌, List, [], ◌∷◌, drop, length, take}
use Rattle.cache_set.specs.Ages.{AreAged, renumbered, ways_in}

module _ {X : Type 0} where
  -- what an array has of one set
  abbrev pub piece : (size n : ℕ) → List X → List X
  piece size n items = take size (drop (n * size) items)

  -- an array cut into so many pieces of so many items
  abbrev pub pieces : (count size : ℕ) → List X → List (List X)
  pieces zero size items = []
  pieces (suc count) size items = take size items ∷ pieces count size (drop size items)

module _ {X : Type 0} where
  -- the sets whose ages, tags and kept things these are
  abbrev pub sets_of : List (List ℕ) → List (List ℕ) → List (List X) → List (List (ℕ × X))
  sets_of [] tags kept = []
  sets_of (a ∷ ages) [] kept = []
  sets_of (a ∷ ages) (t ∷ tags) [] = []
  sets_of (a ∷ ages) (t ∷ tags) (k ∷ kept) = ways_in a t k ∷ sets_of ages tags kept

  -- the sets that three arrays stand for
  unfoldable pub sets_in : (sets ways : ℕ) → (ages tags : List ℕ) → (kept : List X) → List (List (ℕ × X))
  sets_in sets ways ages tags kept = sets_of (pieces sets ways ages) (pieces sets ways tags) (pieces sets ways kept)

-- the ages and the tags of each set are those of a set, with one tick for all
pub record AreAgedSets (sets ways tick : ℕ) (ages tags : List ℕ) : Type 0 where
  pub ages_are : length ages ≡ sets * ways
  pub tags_are : length tags ≡ sets * ways
  pub aged : (n : ℕ) → n < sets → AreAged ways tick (piece ways n ages) (piece ways n tags)

-- the ages of each set are the same, or are written anew in their order
abbrev pub IsSameOrder : (sets ways : ℕ) → (ages anew : List ℕ) → Type 0
IsSameOrder sets ways ages anew = (n : ℕ) → n < sets → (piece ways n anew ≡ piece ways n ages) ⊎ (piece ways n anew ≡ renumbered (piece ways n ages))
