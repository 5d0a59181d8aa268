-- How a set is laid out: of each way its age, its tag and its mark.
use Rattle.std.specs.Prelude.{◌≡◌, ℕ, ◌<◌, ◌^◌, ◌==◌, if◌then◌else◌, List, length, slice_index, Option, Some, None}
use Rattle.cache_set.specs.Ages.{ways_in, AreAged}
use Rattle.cache_set.specs.WaySets.{WaySet, IsWaySet, way_of}
use Rattle.cache_set.specs.declared.set.Way.{Way}

-- the set that ages, tags and marks stand for
abbrev pub rows_view : (ways : ℕ) (ages tags marks : List ℕ) → WaySet
rows_view ways ages tags marks = record { ways = ways; list = ways_in ages tags marks }

-- the way at a place: none where it is free
unfoldable pub way_at : (ages tags marks : List ℕ) → (place : ℕ) → Option Way
way_at ages tags marks place = if slice_index ages place == 0 then None else Some (way_of (slice_index tags place, slice_index marks place))

pub record AreRows (ways tick : ℕ) (ages tags marks : List ℕ) : Type 0 where
  pub is_set : IsWaySet (rows_view ways ages tags marks)
  pub aged : AreAged ways tick ages tags
  pub marks_are : length marks ≡ ways
  pub early : tick < 2 ^ 62
