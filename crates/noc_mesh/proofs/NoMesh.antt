-- That an expansion without a mesh is the plain one.
use Rattle.std.proofs.Common.{◌≡◌, ◌+◌, ℕ, max, true, false, Option, None, Some, refl, arith}
use Rattle.machine_desc.specs.declared.machine.Controllers.{Controllers}
use Rattle.machine_desc.specs.declared.machine.Dram.{Dram}
use Rattle.machine_desc.specs.declared.machine.L1.{L1}
use Rattle.machine_desc.specs.declared.machine.L2.{L2}
use Rattle.machine_desc.specs.declared.machine.Mesh.{Mesh}
use Rattle.zs_num.specs.declared.entry.Entry.{Entry}
use Rattle.zs_num.specs.declared.entry.Outcome.{Outcome}
use Rattle.zs_num.specs.declared.entry.Outcome.TheVariants.{Hit, Upgrade, L2 as FoundInL2, Miss}
use Rattle.event_graph.specs.declared.access_path.AccessPath.{AccessPath}
use Rattle.event_graph.specs.AccessPaths.{head_time}
use Rattle.event_graph.specs.PlainTiming.{pieces_by, time_by, read, write}
use Rattle.event_graph.specs.Timing.{bank_component, controller_component}
use Rattle.noc_mesh.specs.NetTiming.{passage}

-- a fill waits for the longer of the read and the write
longer : (before read write : ℕ) → max (before + read) (before + write) ≡ before + max read write
longer before read write = omega arith

module _ (l1 : L1) (l1i : Option L1) (l2 : L2) (controllers : Controllers) (e : Entry) where
  abbrev path : Option Mesh → Option Dram → AccessPath
  path mesh dram = record { l1 = l1; l1i = l1i; l2 = l2; controllers = controllers; mesh = mesh; dram = dram }

  pub plain_pieces : (mesh : Option Mesh) (dram : Option Dram) (o : Outcome) → mesh ≡ None → dram ≡ None
      → (passage (path mesh dram) e o).pieces ≡ pieces_by (head_time (path mesh dram) e.request) l2 controllers (bank_component l2 e) (controller_component l2 controllers e) o
  plain_pieces None None Hit none closed = refl
  plain_pieces None None (Upgrade others) none closed = refl
  plain_pieces None None (FoundInL2 others) none closed = refl
  plain_pieces None None (Miss false) none closed = refl
  plain_pieces None None (Miss true) none closed = rw (longer (head_time (path None None) e.request + l2.latency) controllers.read controllers.write) refl
  plain_pieces None (Some dram) o none closed = absurd (cc closed)
  plain_pieces (Some mesh) dram o none closed = absurd (cc none)

  pub plain_times : (mesh : Option Mesh) (dram : Option Dram) (o : Outcome) → mesh ≡ None → dram ≡ None → (passage (path mesh dram) e o).end ≡ time_by (head_time (path mesh dram) e.request) l2 controllers o
  plain_times None None Hit none closed = refl
  plain_times None None (Upgrade others) none closed = refl
  plain_times None None (FoundInL2 others) none closed = refl
  plain_times None None (Miss false) none closed = refl
  plain_times None None (Miss true) none closed = rw (longer (head_time (path None None) e.request + l2.latency) controllers.read controllers.write) refl
  plain_times None (Some dram) o none closed = absurd (cc closed)
  plain_times (Some mesh) dram o none closed = absurd (cc none)
