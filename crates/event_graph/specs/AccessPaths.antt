-- What an access goes through: the cores' own caches, the shared cache, and the memory controllers; a mesh and open
-- rows where the machine has them.
use Rattle.std.specs.Prelude.{ℕ, if◌then◌else◌, unwrap_or}
use Rattle.machine_desc.specs.declared.machine.L1.{L1}
use Rattle.machine_desc.specs.declared.machine.Machine.{Machine}
use Rattle.zs_num.specs.declared.request.Request.{Request}
use Rattle.zs_num.specs.Request.{is_fetch}
use Rattle.event_graph.specs.declared.access_path.AccessPath.{AccessPath}

-- the path of a machine
abbrev pub path_of : Machine → AccessPath
path_of m = record { l1 = m.l1; l1i = m.l1i; l2 = m.l2; controllers = m.controllers; mesh = m.mesh; dram = m.dram }

-- the cache that an access comes to first: a fetch to the instruction cache, where there is one, and every other access
-- to the data cache
abbrev pub first_cache : AccessPath → Request → L1
first_cache path request = if is_fetch request then unwrap_or path.l1i path.l1 else path.l1

-- the head of an access: the time that it takes in that cache, also where it goes on from there
abbrev pub head_time : AccessPath → Request → ℕ
head_time path request = (first_cache path request).latency
