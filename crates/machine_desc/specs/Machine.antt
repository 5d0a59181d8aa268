-- What holds of the numbers of every machine that was read from a description.
use Rattle.std.specs.Prelude.{◌≡◌, ◌<◌, ◌≤◌, ◌*◌, ◌%◌, ◌^◌, ℕ, nat_lt, length, All, None, IfSome, is_some}
use Rattle.machine_desc.specs.declared.machine.Memory.{Memory}
use Rattle.machine_desc.specs.declared.machine.L1.{L1}
use Rattle.machine_desc.specs.declared.machine.L2.{L2}
use Rattle.machine_desc.specs.declared.machine.Controllers.{Controllers}
use Rattle.machine_desc.specs.declared.machine.Domains.{Domains}
use Rattle.machine_desc.specs.declared.machine.Mesh.{Mesh}
use Rattle.machine_desc.specs.declared.machine.Dram.{Dram}
use Rattle.machine_desc.specs.declared.machine.Pipe.{Pipe}
use Rattle.machine_desc.specs.declared.machine.Machine.{Machine}

-- a number from low to high
abbrev pub IsBetween : (low n high : ℕ) → Type 0
IsBetween low n high = (low ≤ n) × (n ≤ high)

pub record IsMemory (cores : ℕ) (m : Memory) : Type 0 where
  pub base : m.base ≤ 2 ^ 40
  pub base_page : m.base % 4096 ≡ 0
  pub size : IsBetween 4096 m.size (2 ^ 28)
  pub size_page : m.size % 4096 ≡ 0
  pub stack : IsBetween 16 m.stack (2 ^ 20)
  pub stack_unit : m.stack % 16 ≡ 0
  pub stacks : cores * m.stack ≤ m.size

pub record IsL1 (banks : ℕ) (c : L1) : Type 0 where
  pub sets : IsBetween 1 c.sets 4096
  pub ratio : c.sets % banks ≡ 0
  pub ways : IsBetween 1 c.ways 16
  pub latency : IsBetween 1 c.latency 65536

pub record IsL2 (c : L2) : Type 0 where
  pub banks : IsBetween 1 c.banks 64
  pub sets : IsBetween 1 c.sets 65536
  pub ratio : c.sets % c.banks ≡ 0
  pub ways : IsBetween 1 c.ways 32
  pub latency : IsBetween 1 c.latency 65536
  pub remote : c.remote ≤ 65536
  pub fill : IsBetween 1 c.fill 65536
  pub occupancy : IsBetween 1 c.occupancy 65536

pub record IsControllers (c : Controllers) : Type 0 where
  pub count : IsBetween 1 c.count 16
  pub read : IsBetween 1 c.read 65536
  pub write : IsBetween 1 c.write 65536
  pub occupancy : IsBetween 1 c.occupancy 65536

pub record IsDomains (banks controllers : ℕ) (d : Domains) : Type 0 where
  pub count : IsBetween 1 d.count 64
  pub banks_length : length d.banks ≡ banks
  pub banks_below : All (λ domain. domain < d.count) d.banks
  pub controllers_length : length d.controllers ≡ controllers
  pub controllers_below : All (λ domain. domain < d.count) d.controllers

pub record IsMesh (mesh : Mesh) : Type 0 where
  pub width : IsBetween 1 mesh.width 8
  pub height : IsBetween 1 mesh.height 8
  pub hop : IsBetween 1 mesh.hop 256
  pub occupancy : IsBetween 1 mesh.occupancy 256

pub record IsDram (d : Dram) : Type 0 where
  pub banks : IsBetween 1 d.banks 16
  pub row_lines : IsBetween 1 d.row_lines 4096
  pub hit : IsBetween 1 d.hit 65536
  pub closed : IsBetween d.hit d.closed 65536
  pub conflict : IsBetween d.closed d.conflict 65536

pub record IsPipe (p : Pipe) : Type 0 where
  pub mul : IsBetween 1 p.mul 64
  pub div : IsBetween 1 p.div 128
  pub entries : IsBetween 1 p.entries 4096
  pub penalty : p.penalty ≤ 64

pub record IsMachine (m : Machine) : Type 0 where
  pub version : IsBetween 1 m.version 3
  pub cores : IsBetween 1 m.cores 256
  pub interval : IsBetween 1 m.interval 10000
  pub intervals : IsBetween 1 m.intervals (2 ^ 20)
  pub memory : IsMemory m.cores m.memory
  pub l1 : IsL1 m.l2.banks m.l1
  -- the instruction caches, where there are any: version 1 has none, version 2 has them, and version 3 may
  pub l1i : IfSome m.l1i (IsL1 m.l2.banks)
  pub has_l1i : m.version < 3 → is_some m.l1i ≡ nat_lt 1 m.version
  pub l2 : IsL2 m.l2
  pub controllers : IsControllers m.controllers
  pub domains : IsDomains m.l2.banks m.controllers.count m.domains
  -- what version 3 may have, and no version before it: a mesh, open rows, and pipelines
  pub mesh : IfSome m.mesh IsMesh
  pub dram : IfSome m.dram IsDram
  pub pipe : IfSome m.pipe IsPipe
  pub without_mesh : m.version < 3 → m.mesh ≡ None
  pub without_dram : m.version < 3 → m.dram ≡ None
  pub without_pipe : m.version < 3 → m.pipe ≡ None
