-- How often instructions were executed, as tables have it.
use Rattle.std.specs.Prelude.{ℕ, zero, suc, ◌+◌, ◌-◌, ◌*◌, ◌/◌, ◌%◌, ◌<◌, ◌≤◌, ◌^◌, ◌==◌, nat_le, nat_lt, Bool, ◌&&◌, List, if◌then◌else◌, min}
use Rattle.sparse_table.specs.ByCore.{HaveNone, value_at}
use Rattle.sparse_table.specs.Sparse.{Sparse}
use Rattle.execution_counts.specs.declared.stretch.Stretch.{Stretch}

-- a count as far as 64 bits go
abbrev pub capped : ℕ → ℕ
capped n = min n (2 ^ 64 - 1)

-- one, where the test holds
abbrev pub one_if : Bool → ℕ
one_if test = if test then 1 else 0

-- the address of one of so many instructions that follow each other, the first of them at pc
abbrev pub is_in_stretch : (pc count : ℕ) → (address : ℕ) → Bool
is_in_stretch pc count address = nat_le pc address && ((address - pc) % 4 == 0) && nat_lt ((address - pc) / 4) count

-- the sum of what a function has below a number
abbrev pub sum_below : (ℕ → ℕ) → ℕ → ℕ
sum_below f zero = 0
sum_below f (suc n) = f n + sum_below f n

-- never
abbrev pub no_stretch : Stretch
no_stretch = record { count = 0; times = 0 }

-- how often a stretch was executed, where it has more than so many instructions
abbrev pub times_beyond : (place : ℕ) → Stretch → ℕ
times_beyond place s = if nat_lt place s.count then s.times else 0

-- how often the instruction at an address was executed as the one of this place of the stretch that begins so far before it
abbrev pub times_as : (stretches : ℕ → Stretch) → (address place : ℕ) → ℕ
times_as stretches address place = if nat_le (4 * place) address then times_beyond place (stretches (address - 4 * place)) else 0

-- how often it was executed: by itself, and in stretches of 128 instructions at most
abbrev pub count_of : (singles : ℕ → ℕ) → (stretches : ℕ → Stretch) → (address : ℕ) → ℕ
count_of singles stretches address = capped (singles address + sum_below (times_as stretches address) 128)

-- the tables of all cores
pub record Counts : Type 0 where
  -- those that were counted one by one, by core and address
  pub singles : List (Sparse ℕ)
  -- those that were counted with others, by core and the address of the first of them
  pub stretches : List (Sparse Stretch)

-- the same of a core, by its tables
abbrev pub counted : Counts → (core address : ℕ) → ℕ
counted counts core address = count_of (value_at 0 counts.singles core) (value_at no_stretch counts.stretches core) address

-- What was not set was never executed, and each instruction of a stretch stands at an address of 64 bits.
pub record AreSound (counts : Counts) : Type 0 where
  pub none_single : HaveNone 0 counts.singles
  pub none_stretch : HaveNone no_stretch counts.stretches
  pub within : (core pc place : ℕ) → place < (value_at no_stretch counts.stretches core pc).count → pc + 4 * place < 2 ^ 64

-- No stretch has more instructions than so many, which are 128 at most.
pub record AreShort (longest : ℕ) (stretches : List (Sparse Stretch)) : Type 0 where
  pub few : longest ≤ 128
  pub short : (core pc : ℕ) → (value_at no_stretch stretches core pc).count ≤ longest
