-- The ways of a cache by their places in its arrays, which have the ways of one set after the other.
use Rattle.std.specs.Prelude.{◌≡◌, ◌≢◌, ℕ, ◌+◌, ◌*◌, ◌/◌, ◌%◌, ◌^◌, ◌<◌, ◌≤◌, Bool, true, false, List, length, slice_index, slice_set}
use Rattle.cache_set.specs.Pieces.{AreAgedSets, IsSameOrder, piece}

-- where a line's set stands among the sets
abbrev pub set_number_in : (shards sets line : ℕ) → ℕ
set_number_in shards sets line = line / shards % sets

-- A way of set n that is not free has the line.
pub record StandsAt (ways : ℕ) (ages tags : List ℕ) (n line place : ℕ) : Type 0 where
  pub from : n * ways ≤ place
  pub to : place < n * ways + ways
  pub live : 0 < slice_index ages place
  pub tag : slice_index tags place ≡ line

-- none has
pub record StandsNowhere (ways : ℕ) (ages tags : List ℕ) (n line : ℕ) : Type 0 where
  pub nowhere : (j : ℕ) → j < ways → 0 < slice_index (piece ways n ages) j → line ≢ slice_index (piece ways n tags) j

-- a way of set n that is free, or else the one that was used longest ago
pub record IsNext (ways : ℕ) (ages : List ℕ) (n place : ℕ) : Type 0 where
  pub from : n * ways ≤ place
  pub to : place < n * ways + ways
  pub oldest : (j : ℕ) → j < ways → slice_index ages place ≤ slice_index ages (n * ways + j)

-- the way of a full set that was used longest ago
pub record IsVictim (ways : ℕ) (ages : List ℕ) (n place : ℕ) : Type 0 where
  pub next : IsNext ways ages n place
  pub live : 0 < slice_index ages place

-- a way of set n is free
pub record HasRoom (ways : ℕ) (ages : List ℕ) (n : ℕ) : Type 0 where
  pub place : ℕ
  pub next : IsNext ways ages n place
  pub free : slice_index ages place ≡ 0

-- A line came into set n, at a place that was next, and has this age. The ages of the others keep their order.
pub record IsPutIn (sets ways : ℕ) (ages tags : List ℕ) (n line place age : ℕ) (ages_then tags_then : List ℕ) : Type 0 where
  -- the ages as they were, or as they were written anew
  pub anew : List ℕ
  pub order : IsSameOrder sets ways ages anew
  pub long : length anew ≡ sets * ways
  pub later : (other : ℕ) → other < sets * ways → slice_index anew other < age
  pub early : age < 2 ^ 62
  pub next : IsNext ways anew n place
  pub ages_are : ages_then ≡ slice_set anew place age
  pub tags_are : tags_then ≡ slice_set tags place line

-- The same, and whether the place was not free: then the line that it had is evicted.
pub record IsEntered (sets ways : ℕ) (ages tags : List ℕ) (n line place age : ℕ) (ages_then tags_then : List ℕ) (live : Bool) : Type 0 where
  pub put : IsPutIn sets ways ages tags n line place age ages_then tags_then
  pub live_was : live ≡ true → 0 < slice_index put.anew place
  pub free_was : live ≡ false → slice_index put.anew place ≡ 0

-- the ways of a cache with their ages and tags
pub record AreTags (sets ways tick : ℕ) (ages tags : List ℕ) : Type 0 where
  pub few : ways ≤ 32
  pub some : 0 < sets → 1 ≤ ways
  pub early : tick < 2 ^ 62
  pub aged : AreAgedSets sets ways tick ages tags
