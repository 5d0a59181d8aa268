-- A set of cores below 256, as a mask of four words of 64 bits.
use Rattle.std.specs.Prelude.{◌≡◌, ◌≢◌, ℕ, ◌*◌, ◌==◌, ◌||◌, Bool, true, false, not, List, length, nat_eq}
use Rattle.std.specs.List.{filter, range_with_len}
use Rattle.std.specs.Set.{is_member}
use Rattle.lanes.specs.Masks.{has_bit}

-- whether a core is among those whose bits are 1
abbrev pub has_core : (words : List ℕ) → (core : ℕ) → Bool
has_core words core = has_bit words core

-- the cores in ascending order
unfoldable pub cores_in : (words : List ℕ) → List ℕ
cores_in words = filter (has_core words) (range_with_len 0 (64 * length words))

-- no core is
abbrev pub HasNone : (words : List ℕ) → Type 0
HasNone words = (core : ℕ) → has_core words core ≡ false

-- another core than this one is
abbrev pub HasOtherCore : (words : List ℕ) → (core : ℕ) → Type 0
HasOtherCore words core = (other : ℕ) × (other ≢ core) × (has_core words other ≡ true)

-- ---- some cores below 256, in ascending order

-- with a core more
abbrev pub with_core : (core : ℕ) → List ℕ → List ℕ
with_core core cores = filter (λ c. (c == core) || is_member nat_eq cores c) (range_with_len 0 256)

-- without one
abbrev pub without_core : (core : ℕ) → List ℕ → List ℕ
without_core core cores = filter (λ c. not (c == core)) cores
