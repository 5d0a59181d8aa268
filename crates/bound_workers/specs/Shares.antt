-- Cores that are dealt to workers, and taken back.
use Rattle.std.specs.Prelude.{◌≡◌, ℕ, ◌<◌, List, [], ◌∷◌, length, map}
use Rattle.zs_num.specs.declared.entry.Entry.{Entry}
use Rattle.elf_load.specs.MemoryImage.{MemoryImage}
use Rattle.parts_table.specs.Access.{SeatState, TableState}
use Rattle.bound_core.specs.NumberedCores.{NumberedCore}
use Rattle.bound_records.specs.declared.record_port.CoreRecord.{CoreRecord}
use Rattle.dealing.specs.Dealing.{AreDealt}
use Rattle.dealing.specs.Workers.{queues_of}
use Rattle.bound_workers.specs.declared.member.Member.{Member}
use Rattle.bound_workers.specs.Team.{HaveRun, Team}

-- cores with their seats, and what is kept of them
abbrev pub mates : List NumberedCore → List SeatState → List CoreRecord → List Member
mates [] seats records = []
mates (core ∷ cores) [] records = []
mates (core ∷ cores) (seat ∷ seats) [] = []
mates (core ∷ cores) (seat ∷ seats) (kept ∷ records) = record { core = core; seat = seat; «record» = kept } ∷ mates cores seats records

-- the workers have so many cores
pub record HaveCores (count : ℕ) (teams : List Team) : Type 0 where
  pub some : 0 < length teams
  pub members : List Member
  pub dealt : AreDealt 0 members (queues_of teams)
  pub size : length members ≡ count

-- whatever cores they had, they are these, with these seats and records
abbrev pub AreReturned : (count : ℕ) → List Team → List NumberedCore → List SeatState → List CoreRecord → Type 0
AreReturned count teams cores seats records =
    (members : List Member) → AreDealt 0 members (queues_of teams) → length members ≡ count
    → (cores ≡ map (λ m. m.core) members) × (seats ≡ map (λ m. m.seat) members) × (records ≡ map (λ m. m.record) members)

-- the cores in order where they ran to, their seats, and what is kept of them
pub record HaveReturned (time : Entry → ℕ) (image : MemoryImage) (end : ℕ) (t : TableState) (members : List Member) (cores : List NumberedCore) (seats : List SeatState) (records : List CoreRecord) : Type 0 where
  pub now : List Member
  pub ran : HaveRun time image end t members now
  pub cores_are : cores ≡ map (λ m. m.core) now
  pub seats_are : seats ≡ map (λ m. m.seat) now
  pub records_are : records ≡ map (λ m. m.record) now
