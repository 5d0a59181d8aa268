-- The rows of a profile as lists: of each number that has something, ascending.
use Rattle.std.specs.Prelude.{◌≡◌, ℕ, zero, suc, ◌+◌, ◌^◌, ◌<◌, ◌≤◌, Bool, true, false, List, [], ◌∷◌, ◌++◌, filter, flat_map, map, sum_by, None, Some}
use Rattle.std.specs.List.{list_any, range_with_len}
use Rattle.profile_rows.specs.declared.address_row.AddressRow.{AddressRow}
use Rattle.profile_rows.specs.declared.line_row.LineRow.{LineRow}
use Rattle.profile_rows.specs.Tallies.{capped, capped_tally, total}
use Rattle.profile.specs.Contributions.{at_address, at_line}
use Rattle.profile.specs.Executed.{executed_at}
use Rattle.profile.specs.Profiled.{Profiled, added_in, has_address}
use Rattle.profile.specs.Rows.{IsNext, has_line}

-- these are all numbers of 64 bits, from this one on, of which the test holds, ascending
abbrev pub AreAll : (test : ℕ → Bool) → (from : ℕ) → List ℕ → Type 0
AreAll test from [] = (n : ℕ) → from ≤ n → n < 2 ^ 64 → test n ≡ false
AreAll test from (n ∷ ns) = IsNext test from (Some n) × AreAll test (n + 1) ns

-- ---- by address

-- the row of an address and a core
abbrev pub core_row : Profiled → (core pc : ℕ) → AddressRow
core_row p core pc = record {
  core = Some core;
  pc = pc;
  instructions = capped (executed_at core pc p.steps);
  tally = capped_tally (at_address core pc (added_in p));
}

-- the rows of a core
pub record AreCoreRows (p : Profiled) (core : ℕ) (rows : List AddressRow) : Type 0 where
  pub pcs : List ℕ
  pub all : AreAll (has_address p core) 0 pcs
  pub are : rows ≡ map (core_row p core) pcs

-- those of so many cores, one core after the other
abbrev pub AreCoresRows : Profiled → (cores : ℕ) → List AddressRow → Type 0
AreCoresRows p zero rows = rows ≡ []
AreCoresRows p (suc core) rows = (before : List AddressRow) × (own : List AddressRow) × AreCoresRows p core before × AreCoreRows p core own × (rows ≡ before ++ own)

-- a core has something at an address
abbrev pub has_address_of_any : Profiled → (pc : ℕ) → Bool
has_address_of_any p pc = list_any (λ core. has_address p core pc) (range_with_len 0 p.cores)

-- the row of an address, of all cores together
abbrev pub sum_row : Profiled → (pc : ℕ) → AddressRow
sum_row p pc = record {
  core = None;
  pc = pc;
  instructions = capped (sum_by (λ core. executed_at core pc p.steps) (range_with_len 0 p.cores));
  tally = capped_tally (total (map (λ core. at_address core pc (added_in p)) (range_with_len 0 p.cores)));
}

pub record AreSumRows (p : Profiled) (rows : List AddressRow) : Type 0 where
  pub pcs : List ℕ
  pub all : AreAll (has_address_of_any p) 0 pcs
  pub are : rows ≡ map (sum_row p) pcs

abbrev pub AreAddressRows : Profiled → (separate : Bool) → List AddressRow → Type 0
AreAddressRows p true rows = AreCoresRows p p.cores rows
AreAddressRows p false rows = AreSumRows p rows

-- ---- by line

-- the row of a line and a core, without the bytes that the core read and wrote
abbrev pub line_row : Profiled → (line core : ℕ) → LineRow
line_row p line core = record {
  line = line;
  core = core;
  tally = capped_tally (at_line core line (added_in p));
  read = 0;
  written = 0;
}

-- a core has something at a line
abbrev pub has_line_of_any : Profiled → (line : ℕ) → Bool
has_line_of_any p line = list_any (λ core. has_line (added_in p) core line) (range_with_len 0 p.cores)

-- the rows of a line, of each core that has something there
abbrev pub rows_at : Profiled → (line : ℕ) → List LineRow
rows_at p line = map (line_row p line) (filter (λ core. has_line (added_in p) core line) (range_with_len 0 p.cores))

pub record AreLineRows (p : Profiled) (rows : List LineRow) : Type 0 where
  pub lines : List ℕ
  pub all : AreAll (has_line_of_any p) 0 lines
  pub are : rows ≡ flat_map (rows_at p) lines
