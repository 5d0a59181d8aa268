-- Cores that are dealt to workers, and taken back.
use Rattle.std.specs.Prelude.{◌≡◌, ℕ, ◌<◌, List, [], ◌∷◌, length, map}
use Rattle.zs_num.specs.declared.entry.Entry.{Entry}
use Rattle.elf_load.specs.MemoryImage.{MemoryImage}
use Rattle.shard_table.specs.Access.{SeatState, TableState}
use Rattle.bound_core.specs.NumberedCores.{NumberedCore}
use Rattle.dealing.specs.Dealing.{AreDealt}
use Rattle.dealing.specs.Workers.{queues_of}
use Rattle.bound_phase.specs.declared.member.Member.{Member}
use Rattle.bound_phase.specs.Crew.{Crew, HaveRun}

-- cores with their seats
abbrev pub mates : List NumberedCore → List SeatState → List Member
mates [] seats = []
mates (core ∷ cores) [] = []
mates (core ∷ cores) (seat ∷ seats) = record { core = core; seat = seat } ∷ mates cores seats

-- the workers have so many cores
pub record HaveCores (count : ℕ) (crews : List Crew) : Type 0 where
  pub some : 0 < length crews
  pub members : List Member
  pub dealt : AreDealt 0 members (queues_of crews)
  pub size : length members ≡ count

-- whatever cores they had, they are these, with these seats
abbrev pub AreReturned : (count : ℕ) → List Crew → List NumberedCore → List SeatState → Type 0
AreReturned count crews cores seats =
    (members : List Member) → AreDealt 0 members (queues_of crews) → length members ≡ count → (cores ≡ map (λ m. m.core) members) × (seats ≡ map (λ m. m.seat) members)

-- the cores in order where they ran to, and their seats
pub record HaveReturned (time : Entry → ℕ) (image : MemoryImage) (end : ℕ) (t : TableState) (members : List Member) (cores : List NumberedCore) (seats : List SeatState) : Type 0 where
  pub now : List Member
  pub ran : HaveRun time image end t members now
  pub cores_are : cores ≡ map (λ m. m.core) now
  pub seats_are : seats ≡ map (λ m. m.seat) now
