-- The ways of a set in arrays: of each way its age, the number of its line, and what is kept of it. A way of age 0 is
-- free. Of two others the one with the greater age was used later.
use Rattle.std.specs.Prelude.{◌≡◌, ◌≢◌, ℕ, ◌<◌, ◌≤◌, ◌==◌, ◌&&◌, Bool, if◌then◌else◌, List, [], ◌∷◌, length, map, nat_le, nat_lt, slice_index, count_by}
use Rattle.std.specs.List.{zip}

module _ {X : Type 0} where
  -- the ways with their ages, in order of their places
  abbrev pub rows_in : (ages tags : List ℕ) → (kept : List X) → List (ℕ × (ℕ × X))
  rows_in ages tags kept = zip ages (zip tags kept)

  -- a way comes before all that were used earlier
  abbrev pub put_by_age : ℕ × (ℕ × X) → List (ℕ × (ℕ × X)) → List (ℕ × (ℕ × X))
  put_by_age way [] = way ∷ []
  put_by_age way (first ∷ rest) = if nat_lt first.0 way.0 then way ∷ first ∷ rest else first ∷ put_by_age way rest

  -- the ways that are not free, the most recently used first
  abbrev pub by_age : List (ℕ × (ℕ × X)) → List (ℕ × (ℕ × X))
  by_age [] = []
  by_age (way ∷ ways) = if way.0 == 0 then by_age ways else put_by_age way (by_age ways)

  -- the set that the arrays stand for
  abbrev pub ways_in : (ages tags : List ℕ) → (kept : List X) → List (ℕ × X)
  ways_in ages tags kept = map (λ way. way.1) (by_age (rows_in ages tags kept))

-- a way is not free and was used no later than one of this age
unfoldable pub is_up_to : (age other : ℕ) → Bool
is_up_to age other = nat_lt 0 other && nat_le other age

-- the rank of an age among those of ways that are not free
abbrev pub rank_in : (ages : List ℕ) → (age : ℕ) → ℕ
rank_in ages age = count_by (is_up_to age) ages

abbrev pub renumbered : List ℕ → List ℕ
renumbered ages = map (rank_in ages) ages

-- The ages of ways that are not free are apart and at most the tick, and their lines are apart.
pub record AreAged (ways tick : ℕ) (ages tags : List ℕ) : Type 0 where
  pub ages_are : length ages ≡ ways
  pub tags_are : length tags ≡ ways
  pub past : (i : ℕ) → i < ways → slice_index ages i ≤ tick
  pub apart : (i j : ℕ) → i < ways → j < ways → i ≢ j → 0 < slice_index ages i → slice_index ages i ≢ slice_index ages j
  pub once : (i j : ℕ) → i < ways → j < ways → i ≢ j → 0 < slice_index ages i → 0 < slice_index ages j → slice_index tags i ≢ slice_index tags j

-- a way that is not free has the line
pub record IsPlaceOf (line : ℕ) (ages tags : List ℕ) (place : ℕ) : Type 0 where
  pub within : place < length tags
  pub live : 0 < slice_index ages place
  pub tag : slice_index tags place ≡ line

-- none has
abbrev pub HasNoPlace : (line : ℕ) → (ages tags : List ℕ) → Type 0
HasNoPlace line ages tags = (place : ℕ) → place < length tags → 0 < slice_index ages place → line ≢ slice_index tags place
