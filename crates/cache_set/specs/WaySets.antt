-- A set as the program has it: its number of ways beside its lines, each with the number of its mark.
use Rattle.std.specs.Prelude.{ℕ, ◌≤◌, List, length, nat_eq}
use Rattle.std.specs.List.{IsDistinct}
use Rattle.std.specs.Map.{keys_of}
use Rattle.cache_set.specs.declared.set.Way.{Way}

-- how many ways a set has, and its lines with their marks
pub record WaySet : Type 0 where
  pub ways : ℕ
  pub list : List (ℕ × ℕ)

-- no line stands in a set twice, and it has no more lines than ways
pub record IsWaySet (set : WaySet) : Type 0 where
  pub distinct : IsDistinct nat_eq (keys_of set.list)
  pub within : length set.list ≤ set.ways
  pub ways : (1 ≤ set.ways) × (set.ways ≤ 32)

abbrev pub way_of : ℕ × ℕ → Way
way_of w = record { line = w.0; mark = w.1 }
