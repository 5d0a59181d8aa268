-- What a worker does in an interval.
use Rattle.std.specs.Prelude.{ℕ, List, [], ◌∷◌, All}
use Rattle.zs_num.specs.declared.entry.Entry.{Entry}
use Rattle.machine_desc.specs.declared.machine.Memory.{Memory}
use Rattle.elf_load.specs.MemoryImage.{MemoryImage}
use Rattle.shard_table.specs.Access.{TableState}
use Rattle.dealing.specs.declared.worker.Worker.{Worker}
use Rattle.bound_phase.specs.declared.member.Member.{Member}
use Rattle.bound_phase.specs.Member.{CanRun, HasRun}

-- each of these has run, and is there now
abbrev pub HaveRun : (time : Entry → ℕ) → MemoryImage → (end : ℕ) → TableState → (before after : List Member) → Type 0
HaveRun time image end t [] [] = Unit {0}
HaveRun time image end t [] (m ∷ after) = ⊥
HaveRun time image end t (m ∷ before) [] = ⊥
HaveRun time image end t (m ∷ before) (n ∷ after) = HasRun time image end t m n × HaveRun time image end t before after

-- a worker with its cores, the next one first
abbrev pub Crew : Type 0
Crew = Worker Member (Unit {0})

-- all its cores can run
pub record CanWork (t : TableState) (memory : Memory) (end : ℕ) (crew : Crew) : Type 0 where
  pub can : All (CanRun t memory end) crew.queue.items

-- all have run, and are there in the same order
pub record HasWorked (time : Entry → ℕ) (image : MemoryImage) (end : ℕ) (t : TableState) (before after : Crew) : Type 0 where
  pub ran : HaveRun time image end t before.queue.items after.queue.items
