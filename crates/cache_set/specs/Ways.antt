-- The ways of a cache set: lines with what is kept of each, the most recently used first.
use Rattle.std.specs.Prelude.{ℕ, ◌-◌, List, ◌∷◌, take, nat_eq, slice_get, Option}
use Rattle.std.specs.Map.{lookup, remove_entry, set_value}
use Rattle.std.specs.Option.{option_map_or}

module _ {X : Type 0} where
  -- what is kept of a line, where it is there
  abbrev pub kept_of : (line : ℕ) → List (ℕ × X) → Option X
  kept_of line list = lookup (nat_eq line) list

  -- the other lines
  abbrev pub without : (line : ℕ) → List (ℕ × X) → List (ℕ × X)
  without line list = remove_entry (nat_eq line) list

  -- a line that is there comes to the front
  abbrev pub used : (line : ℕ) → List (ℕ × X) → List (ℕ × X)
  used line list = option_map_or (λ kept. (line, kept) ∷ without line list) (kept_of line list) list

  -- a line that is not there comes to the front, and the last one of a full set is evicted
  abbrev pub filled : (ways line : ℕ) → X → List (ℕ × X) → List (ℕ × X)
  filled ways line kept list = take ways ((line, kept) ∷ list)

  -- what is kept of a line changes in its place
  abbrev pub changed : (line : ℕ) → X → List (ℕ × X) → List (ℕ × X)
  changed line kept list = set_value (nat_eq line) list kept

  -- the victim, which is evicted when the next line comes: the line in the last place, where the set is full
  abbrev pub victim_of : (ways : ℕ) → List (ℕ × X) → Option (ℕ × X)
  victim_of ways list = slice_get list (ways - 1)
