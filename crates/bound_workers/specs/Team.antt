-- What a worker does in an interval.
use Rattle.std.specs.Prelude.{◌≡◌, ℕ, ◌≤◌, List, [], ◌∷◌, All, Option, None, Some}
use Rattle.std.specs.VecDeque.{deque_capacity}
use Rattle.zs_num.specs.declared.entry.Entry.{Entry}
use Rattle.machine_desc.specs.declared.machine.Memory.{Memory}
use Rattle.elf_load.specs.MemoryImage.{MemoryImage}
use Rattle.parts_table.specs.Access.{TableState}
use Rattle.parts_table.specs.Places.{PlacesState}
use Rattle.dealing.specs.declared.worker.Worker.{Worker}
use Rattle.bound_workers.specs.declared.member.Member.{Member}
use Rattle.bound_workers.specs.Member.{ArePlacesFor, CanRun, HasRun}

-- each of these has run, and is there now
abbrev pub HaveRun : (time : Entry → ℕ) → MemoryImage → (end : ℕ) → TableState → (before after : List Member) → Type 0
HaveRun time image end t [] [] = Unit {0}
HaveRun time image end t [] (m ∷ after) = ⊥
HaveRun time image end t (m ∷ before) [] = ⊥
HaveRun time image end t (m ∷ before) (n ∷ after) = HasRun time image end t m n × HaveRun time image end t before after

-- the worker has places for so many cores, of which none is filled
abbrev pub HasPlaces : (cores : ℕ) → Option PlacesState → Type 0
HasPlaces cores None = ⊥
HasPlaces cores (Some places) = ArePlacesFor cores places

-- a worker with its cores, the next one first
abbrev pub Team : Type 0
Team = Worker Member (Option PlacesState)

-- it has no core, and room and places for so many
pub record IsFree (cores : ℕ) (team : Team) : Type 0 where
  pub none : team.queue.items ≡ []
  pub room : cores ≤ deque_capacity team.queue
  pub places : HasPlaces cores team.tools

-- all its cores can run, and it has places for all of the machine
pub record CanWork (t : TableState) (memory : Memory) (end : ℕ) (team : Team) : Type 0 where
  pub can : All (CanRun t memory end) team.queue.items
  pub places : HasPlaces t.cores team.tools

-- all have run, and are there in the same order
pub record HasWorked (time : Entry → ℕ) (image : MemoryImage) (end : ℕ) (t : TableState) (before after : Team) : Type 0 where
  pub ran : HaveRun time image end t before.queue.items after.queue.items
