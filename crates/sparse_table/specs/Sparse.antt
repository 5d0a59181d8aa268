-- Values by number, of which few were set.
use Rattle.std.specs.Prelude.{ℕ, suc, ◌≤◌, ◌==◌, nat_le, nat_lt, List, [], ◌∷◌, Option, Some, None, if◌then◌else◌, sum_by}

module _ {T : Type 0} where
  -- the value of the first entry of this number, or the one of a number that was not set
  abbrev pub value_in : (none : T) → List (ℕ × T) → (number : ℕ) → T
  value_in none [] number = none
  value_in none (first ∷ rest) number = if first.0 == number then first.1 else value_in none rest number

  -- an entry takes the place of the one of its number, or goes before the first of a greater one
  abbrev pub with_entry : (number : ℕ) (value : T) → List (ℕ × T) → List (ℕ × T)
  with_entry number value [] = (number, value) ∷ []
  with_entry number value (first ∷ rest) =
      if nat_lt number first.0 then (number, value) ∷ first ∷ rest
      else if first.0 == number then (number, value) ∷ rest
      else first ∷ with_entry number value rest

  -- the entries whose numbers are no less than this one, of entries in ascending order
  abbrev pub entries_from : (number : ℕ) → List (ℕ × T) → List (ℕ × T)
  entries_from number [] = []
  entries_from number (first ∷ rest) = if nat_le number first.0 then first ∷ rest else entries_from number rest

  -- the number of the first entry
  abbrev pub first_number : List (ℕ × T) → Option ℕ
  first_number [] = None
  first_number (first ∷ rest) = Some first.0

  -- the numbers rise, and the first is no less than this one: so no number comes twice
  abbrev pub RiseFrom : (least : ℕ) → List (ℕ × T) → Type 0
  RiseFrom least [] = Unit {0}
  RiseFrom least (first ∷ rest) = (least ≤ first.0) × RiseFrom (suc first.0) rest

  -- the sum of a measure of number and value, over the entries
  abbrev pub sum_of : (measure : ℕ → T → ℕ) → List (ℕ × T) → ℕ
  sum_of measure entries = sum_by (λ entry. measure entry.0 entry.1) entries

-- The numbers that were set, each with its value, in ascending order, and the value of all others.
pub record Sparse (T : Type 0) : Type 0 where
  pub none : T
  pub entries : List (ℕ × T)

module _ {T : Type 0} where
  -- the value of a number
  abbrev pub value_of : Sparse T → ℕ → T
  value_of table number = value_in table.none table.entries number

  -- the table once a number has a value
  abbrev pub with_value : Sparse T → (number : ℕ) (value : T) → Sparse T
  with_value table number value = record { none = table.none; entries = with_entry number value table.entries }

  -- the least number, from this one on, that was set
  abbrev pub next_from : Sparse T → (from : ℕ) → Option ℕ
  next_from table from = first_number (entries_from from table.entries)
