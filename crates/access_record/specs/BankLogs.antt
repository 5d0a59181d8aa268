-- What is kept of the accesses of a core where their entries are not.
use Rattle.std.specs.Prelude.{◌≡◌, ℕ, ◌+◌, ◌<◌, ◌≤◌, ◌^◌, Bool, true, false, if◌then◌else◌, List, All, map, length}
use Rattle.std.specs.List.{flat_map}
use Rattle.zs_num.specs.declared.entry.Entry.{Entry}
use Rattle.zs_num.specs.declared.entry.Outcome.{Outcome}
use Rattle.zs_num.specs.declared.entry.Outcome.TheVariants.{Hit, Upgrade, L2, Miss}
use Rattle.access_log.specs.History.{bank_of_entry}

-- whether an access with this outcome goes beyond its core, and so makes events
abbrev pub makes_events : Outcome → Bool
makes_events Hit = false
makes_events (Upgrade others) = true
makes_events (L2 others) = true
makes_events (Miss dirty) = true

-- what is kept of an access: its bank, of which there are 64 at most, and whether it makes events
abbrev pub byte_of : (banks : ℕ) → Entry → ℕ
byte_of banks e = bank_of_entry banks e + (if makes_events e.outcome then 128 else 0)

pub record BankLogState : Type 0 where
  -- whose accesses they are
  pub core : ℕ
  -- how many banks there are
  pub banks : ℕ
  -- in the order of the core
  pub entries : List Entry
  -- for how many there is memory
  pub room : ℕ

-- the accesses of all logs, one log after the other
abbrev pub entries_in : List BankLogState → List Entry
entries_in logs = flat_map (λ log. log.entries) logs

-- a log has a byte for each access
pub record IsKept (log : BankLogState) (bytes : List ℕ) : Type 0 where
  pub some : 0 < log.banks
  pub few : log.banks ≤ 64
  pub bytes_are : bytes ≡ map (byte_of log.banks) log.entries
  pub own : All (λ e. e.core ≡ log.core) log.entries
  pub within : length log.entries ≤ log.room
  pub short : log.room < 2 ^ 32
