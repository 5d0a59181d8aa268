-- When tables of tallies are right, and which number is the next that has something.
use Rattle.std.specs.Prelude.{◌≡◌, ℕ, ◌<◌, ◌≤◌, ◌==◌, ◌&&◌, Bool, true, false, not, List, Option, Some, None}
use Rattle.sparse_table.specs.Sparse.{Sparse}
use Rattle.profile.specs.declared.contribution.Contribution.{Contribution}
use Rattle.profile_rows.specs.declared.tally.Tally.{Tally}
use Rattle.profile.specs.Contributions.{at_address, at_line}
use Rattle.sparse_table.specs.ByCore.{HaveNone, value_at}
use Rattle.profile_rows.specs.Tallies.{capped_tally, no_tally}

-- each core's tables have what these contributions add to the instruction at each address, and what they add to each line
pub record AreRows (cs : List Contribution) (addresses lines : List (Sparse Tally)) : Type 0 where
  pub at_addresses : (core pc : ℕ) → value_at no_tally addresses core pc ≡ capped_tally (at_address core pc cs)
  pub at_lines : (core line : ℕ) → value_at no_tally lines core line ≡ capped_tally (at_line core line cs)
  pub none_at_addresses : HaveNone no_tally addresses
  pub none_at_lines : HaveNone no_tally lines

-- The least number, from this one on, of which the test holds, if there is one.
abbrev pub IsNext : (test : ℕ → Bool) → (from : ℕ) → Option ℕ → Type 0
IsNext test from None = (n : ℕ) → from ≤ n → test n ≡ false
IsNext test from (Some next) = (from ≤ next) × (test next ≡ true) × ((n : ℕ) → from ≤ n → n < next → test n ≡ false)

-- or one that comes before all of which it holds, if there are any
abbrev pub IsCandidate : (test : ℕ → Bool) → (from : ℕ) → Option ℕ → Type 0
IsCandidate test from None = (n : ℕ) → from ≤ n → test n ≡ false
IsCandidate test from (Some next) = (from ≤ next) × ((n : ℕ) → from ≤ n → n < next → test n ≡ false)

-- nothing was counted: of accesses, ..
unfoldable pub has_no_access : Tally → Bool
has_no_access t = t.loads == 0 && (t.stores == 0 && (t.atomics == 0 && t.fetches == 0))

-- .. of how caches met them, ..
unfoldable pub has_no_outcome : Tally → Bool
has_no_outcome t = t.hits == 0 && (t.upgrades == 0 && (t.l2hits == 0 && t.misses == 0))

-- .. of why they missed, ..
unfoldable pub has_no_class : Tally → Bool
has_no_class t = t.cold == 0 && (t.coherence == 0 && (t.inclusion == 0 && t.eviction == 0))

-- .. of what they did to other cores, ..
unfoldable pub has_no_change : Tally → Bool
has_no_change t = t.invalidating == 0 && (t.invalidated == 0 && t.downgrades == 0)

-- .. of what these suffered, ..
unfoldable pub has_no_loss : Tally → Bool
has_no_loss t = t.lost == 0 && t.lowered == 0

-- .. and of how long they took
unfoldable pub has_no_cycle : Tally → Bool
has_no_cycle t = t.cycles == 0 && (t.missing == 0 && t.waited == 0)

-- something was counted
unfoldable pub is_something : Tally → Bool
is_something t = not (has_no_access t && (has_no_outcome t && (has_no_class t && (has_no_change t && (has_no_loss t && has_no_cycle t)))))

-- something was added to a line of a core
abbrev pub has_line : List Contribution → (core line : ℕ) → Bool
has_line cs core line = is_something (at_line core line cs)
