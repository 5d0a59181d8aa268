-- The keys of a core's accesses, which are kept as runs of one key.
use Rattle.std.specs.Prelude.{ℕ, ◌+◌, ◌<◌, ◌≤◌, ◌^◌, List, [], ◌∷◌, ◌++◌, length, nat_lt, replicate, if◌then◌else◌}
use Rattle.parts_table.specs.declared.blocks.Run.{Run}

-- The accesses of a core, by their keys.
pub record BlocksState : Type 0 where
  -- a key for each access that isn't in order yet, in the order of the core
  pub keys : List ℕ
  -- the key of the next private access
  pub now : ℕ
  -- how many accesses were put
  pub made : ℕ
  -- for how many there is memory
  pub room : ℕ

abbrev pub keys_of : List Run → List ℕ
keys_of [] = []
keys_of (run ∷ runs) = replicate run.count run.key ++ keys_of runs

-- a run of so many behind those, where it isn't empty
abbrev pub ended : List Run → (key count : ℕ) → List Run
ended runs key count = runs ++ (if nat_lt 0 count then record { key = key; count = count } ∷ [] else [])

-- the key of the first run, or where there is none this
abbrev pub first_key : List Run → (end : ℕ) → ℕ
first_key [] end = end
first_key (run ∷ runs) end = run.key

-- Keys rise from run to run, and are less than this.
abbrev pub RunsRise : List Run → (end : ℕ) → Type 0
RunsRise [] end = Unit {0}
RunsRise (run ∷ runs) end = (0 < run.count) × (run.key < first_key runs end) × RunsRise runs end

-- The runs that have ended, of which some were taken, and the last run, which may be empty.
pub record AreKeptSo (runs : List Run) (first closed key count room : ℕ) : Type 0 where
  pub taken : first ≤ length runs
  pub rise : RunsRise runs key
  pub few : length runs ≤ closed
  pub fits : closed + count ≤ room
  pub low : key < 2 ^ 55
  pub short : room < 2 ^ 32

-- it stands where there is no key: the greatest number of 64 bits
abbrev pub no_key : ℕ
no_key = 18446744073709551615

-- the first key
abbrev pub first_of : List ℕ → ℕ
first_of [] = no_key
first_of (key ∷ keys) = key
