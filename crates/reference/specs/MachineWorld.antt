-- What serves the accesses of the machine of one thread: flat memory, the cache lists of the whole machine, and the
-- stamps.
use Rattle.std.specs.Prelude.{ℕ, length}
use Rattle.zs_num.specs.declared.entry.Entry.{Entry}
use Rattle.zs_num.specs.declared.request.Request.{Request}
use Rattle.elf_load.specs.MemoryImage.{MemoryImage}
use Rattle.machine_desc.specs.declared.machine.Machine.{Machine}
use Rattle.flat_memory.specs.FlatMemory.{MemoryState, loaded, memory_after, memory_reply}
use Rattle.shard.specs.Coherence.{Caches, caches_after, outcome_of}
use Rattle.shard.specs.NewCaches.{new_caches}
use Rattle.zs_num.specs.Request.{bank_of}
use Rattle.access_log.specs.RecordedOrder.{Stamps, next_stamp, no_stamps, stamped}

pub record MachineWorld : Type 0 where
  pub memory : MemoryState
  -- those of one shard, which has all lines
  pub caches : Caches
  pub stamps : Stamps

-- the access of a core that starts then, as it is recorded: there are as many banks as have a stamp
abbrev pub recorded : MachineWorld → (core start : ℕ) → Request → Entry
recorded w core start request = record {
  core = core;
  stamp = next_stamp w.stamps (bank_of (length w.stamps.banks) request) core;
  start = start;
  request = request;
  reply = memory_reply w.memory core request;
  outcome = outcome_of w.caches core request;
}

-- the access, and the world after it
unfoldable pub serve : MachineWorld → (core start : ℕ) → Request → Entry × MachineWorld
serve w core start request = let e = recorded w core start request in (
  e,
  record {
    memory = memory_after w.memory core request;
    caches = caches_after w.caches core request;
    stamps = stamped w.stamps (bank_of (length w.stamps.banks) request) core e.stamp;
  },
)

-- before the first access of a run
abbrev pub first_world : Machine → MemoryImage → MachineWorld
first_world machine image = record {
  memory = loaded image machine.cores;
  caches = new_caches machine;
  stamps = no_stamps machine.l2.banks machine.cores;
}
