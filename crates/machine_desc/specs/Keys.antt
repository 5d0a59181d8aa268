-- The keys of a machine description, with what each has to be, in the order in which they are checked: one list for
-- each table.
use Rattle.std.specs.Prelude.{ℕ, ◌^◌, List, [], ◌∷◌, codes}

-- where a value stands: the name of its table, which is empty at the top level, and its own name
pub record KeyPath : Type 0 where
  pub table : List ℕ
  pub name : List ℕ

-- the integers from low to high that are multiples of step
pub record Range : Type 0 where
  pub low : ℕ
  pub high : ℕ
  pub step : ℕ

-- What a value has to be: a table; an integer in a range; such an integer that, as often as the number at `times`
-- says, is at most the number at `whole`; such an integer that is no less than the number at `least`; an array of
-- integers, as many as the number at a key says.
pub data Rule : Type 0 where
  is_table : Rule
  is_integer : Range → Rule
  is_share : Range → (times whole : KeyPath) → Rule
  is_at_least : Range → (least : KeyPath) → Rule
  is_array : (count : KeyPath) → Rule

-- a key that has to be there, and what its value has to be
pub record Check : Type 0 where
  pub key : KeyPath
  pub rule : Rule

-- an integer whose multiple another has to be
pub record Ratio : Type 0 where
  pub key : KeyPath
  pub divisor : KeyPath

abbrev pub top : List ℕ → KeyPath
top name = record { table = []; name = name }

abbrev pub at : (table name : List ℕ) → KeyPath
at table name = record { table = table; name = name }

abbrev pub table_check : List ℕ → Check
table_check name = record { key = top name; rule = is_table }

abbrev pub range_check : KeyPath → (low high : ℕ) → Check
range_check key low high = record { key = key; rule = is_integer (record { low = low; high = high; step = 1 }) }

abbrev pub pages_check : KeyPath → (low high : ℕ) → Check
pages_check key low high = record { key = key; rule = is_integer (record { low = low; high = high; step = 4096 }) }

abbrev pub at_least_check : KeyPath → (low high : ℕ) → (least : KeyPath) → Check
at_least_check key low high least = record { key = key; rule = is_at_least (record { low = low; high = high; step = 1 }) least }

abbrev pub array_check : KeyPath → KeyPath → Check
array_check key count = record { key = key; rule = is_array count }

-- the first check of every description: there are three versions
abbrev pub version_check : Check
version_check = range_check (top (codes "version")) 1 3

unfoldable pub top_checks : List Check
top_checks =
    version_check
    ∷ range_check (top (codes "cores")) 1 256
    ∷ range_check (top (codes "interval")) 1 10000
    ∷ range_check (top (codes "intervals")) 1 1048576
    ∷ []

unfoldable pub memory_checks : List Check
memory_checks =
    table_check (codes "memory")
    ∷ pages_check (at (codes "memory") (codes "base")) 0 (2 ^ 40)
    ∷ pages_check (at (codes "memory") (codes "size")) 4096 (2 ^ 28)
    ∷ record {
      key = at (codes "memory") (codes "stack");
      rule = is_share (record { low = 16; high = 2 ^ 20; step = 16 }) (top (codes "cores")) (at (codes "memory") (codes "size"));
    }
    ∷ []

-- a cache of each core's own, with the table of this name
unfoldable pub own_cache_checks : (table : List ℕ) → List Check
own_cache_checks table =
    table_check table
    ∷ range_check (at table (codes "sets")) 1 4096
    ∷ range_check (at table (codes "ways")) 1 16
    ∷ range_check (at table (codes "latency")) 1 65536
    ∷ []

-- the data cache, and the instruction cache
abbrev pub l1_checks : List Check
l1_checks = own_cache_checks (codes "l1")

abbrev pub l1i_checks : List Check
l1i_checks = own_cache_checks (codes "l1i")

unfoldable pub l2_checks : List Check
l2_checks =
    table_check (codes "l2")
    ∷ range_check (at (codes "l2") (codes "banks")) 1 64
    ∷ range_check (at (codes "l2") (codes "sets")) 1 65536
    ∷ range_check (at (codes "l2") (codes "ways")) 1 32
    ∷ range_check (at (codes "l2") (codes "latency")) 1 65536
    ∷ range_check (at (codes "l2") (codes "remote")) 0 65536
    ∷ range_check (at (codes "l2") (codes "fill")) 1 65536
    ∷ range_check (at (codes "l2") (codes "occupancy")) 1 65536
    ∷ []

unfoldable pub controller_checks : List Check
controller_checks =
    table_check (codes "controllers")
    ∷ range_check (at (codes "controllers") (codes "count")) 1 16
    ∷ range_check (at (codes "controllers") (codes "read")) 1 65536
    ∷ range_check (at (codes "controllers") (codes "write")) 1 65536
    ∷ range_check (at (codes "controllers") (codes "occupancy")) 1 65536
    ∷ []

unfoldable pub domain_checks : List Check
domain_checks =
    table_check (codes "domains")
    ∷ range_check (at (codes "domains") (codes "count")) 1 64
    ∷ array_check (at (codes "domains") (codes "banks")) (at (codes "l2") (codes "banks"))
    ∷ array_check (at (codes "domains") (codes "controllers")) (at (codes "controllers") (codes "count"))
    ∷ []

unfoldable pub mesh_checks : List Check
mesh_checks =
    table_check (codes "mesh")
    ∷ range_check (at (codes "mesh") (codes "width")) 1 8
    ∷ range_check (at (codes "mesh") (codes "height")) 1 8
    ∷ range_check (at (codes "mesh") (codes "hop")) 1 256
    ∷ range_check (at (codes "mesh") (codes "occupancy")) 1 256
    ∷ []

-- a read of the open row takes no longer than one where no row is open, and that no longer than one of another row
unfoldable pub dram_checks : List Check
dram_checks =
    table_check (codes "dram")
    ∷ range_check (at (codes "dram") (codes "banks")) 1 16
    ∷ range_check (at (codes "dram") (codes "row_lines")) 1 4096
    ∷ range_check (at (codes "dram") (codes "hit")) 1 65536
    ∷ at_least_check (at (codes "dram") (codes "closed")) 1 65536 (at (codes "dram") (codes "hit"))
    ∷ at_least_check (at (codes "dram") (codes "conflict")) 1 65536 (at (codes "dram") (codes "closed"))
    ∷ []

unfoldable pub pipe_checks : List Check
pipe_checks =
    table_check (codes "pipe")
    ∷ range_check (at (codes "pipe") (codes "mul")) 1 64
    ∷ range_check (at (codes "pipe") (codes "div")) 1 128
    ∷ range_check (at (codes "pipe") (codes "entries")) 1 4096
    ∷ range_check (at (codes "pipe") (codes "penalty")) 0 64
    ∷ []

-- the sets of the cache with this table are dealt to the banks of the L2, as many to each
abbrev pub sets_ratio : (table : List ℕ) → Ratio
sets_ratio table = record { key = at table (codes "sets"); divisor = at (codes "l2") (codes "banks") }
