-- What holds of every table.
use Rattle.std.specs.Prelude.{◌≡◌, ◌≢◌, ℕ, ◌+◌, ◌≤◌, [], ◌∷◌, Some, MatchOption}
use Rattle.sparse_table.specs.Sparse.{Sparse, RiseFrom, entries_from, next_from, sum_of, value_of, with_value}

module _ (T : Type 0) where
  -- a number has the value that it was given last
  abbrev pub GivesBack : Type 0
  GivesBack = (table : Sparse T) (number : ℕ) (value : T) → value_of (with_value table number value) number ≡ value

  -- and all others keep theirs
  abbrev pub OthersStay : Type 0
  OthersStay = (table : Sparse T) (number : ℕ) (value : T) (other : ℕ) → other ≢ number → value_of (with_value table number value) other ≡ value_of table other

  -- the numbers of the entries still rise, so each that was set is among them once
  abbrev pub StaysRising : Type 0
  StaysRising = (table : Sparse T) (number : ℕ) (value : T) → RiseFrom 0 table.entries → RiseFrom 0 (with_value table number value).entries

  -- a number that was given a value is set
  abbrev pub IsSetNow : Type 0
  IsSetNow = (table : Sparse T) (number : ℕ) (value : T) → next_from (with_value table number value) number ≡ Some number

  -- a sum over the entries, of a measure that is 0 where nothing was set, takes on what the number has now for what it had
  abbrev pub SumsFollow : Type 0
  SumsFollow =
      (measure : ℕ → T → ℕ) (table : Sparse T) (number : ℕ) (value : T) →
      RiseFrom 0 table.entries →
      measure number table.none ≡ 0 →
      sum_of measure (with_value table number value).entries + measure number (value_of table number) ≡ sum_of measure table.entries + measure number value

  -- the entries from a number on are that of the next number which was set, and those from the number behind it on
  abbrev pub IsWalked : Type 0
  IsWalked =
      (table : Sparse T) (from : ℕ) →
      RiseFrom 0 table.entries →
      MatchOption (next_from table from) (entries_from from table.entries ≡ []) (λ number. (from ≤ number) × (entries_from from table.entries ≡ (number, value_of table number) ∷ entries_from (number + 1) table.entries))

  -- and those from 0 on are all
  abbrev pub IsWalkedFromZero : Type 0
  IsWalkedFromZero = (table : Sparse T) → entries_from 0 table.entries ≡ table.entries
