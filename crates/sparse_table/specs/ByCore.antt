-- Tables by core, each with values by number.
use Rattle.std.specs.Prelude.{◌≡◌, ℕ, ◌==◌, ◌&&◌, List, [], Option, if◌then◌else◌, slice_index_or}
use Rattle.sparse_table.specs.Next.{IsNextIn}
use Rattle.sparse_table.specs.Sparse.{Sparse, value_of}

module _ {T : Type 0} where
  -- of no number was a value set
  abbrev pub empty : (none : T) → Sparse T
  empty none = record { none = none; entries = [] }

  -- the table of a core; one that is not there is empty
  abbrev pub table_at : (none : T) → List (Sparse T) → (core : ℕ) → Sparse T
  table_at none tables core = slice_index_or tables core (empty none)

  -- what a core has at a number
  abbrev pub value_at : (none : T) → List (Sparse T) → (core number : ℕ) → T
  value_at none tables core number = value_of (table_at none tables core) number

  -- a number that was not set has this value in the table of each core
  abbrev pub HaveNone : (none : T) → List (Sparse T) → Type 0
  HaveNone none tables = (core : ℕ) → (table_at none tables core).none ≡ none

  -- the next number of a core, from this one on, that may have another value: those before it have this one
  abbrev pub IsNextSet : (none : T) → List (Sparse T) → (core from : ℕ) → Option ℕ → Type 0
  IsNextSet none tables core from next = IsNextIn none (value_at none tables core) from next

  -- what each core has at each number once one has this value at one of them
  abbrev pub with_one : (core number : ℕ) (value : T) → (ℕ → ℕ → T) → (ℕ → ℕ → T)
  with_one core number value values = λ c n. if core == c && number == n then value else values c n
