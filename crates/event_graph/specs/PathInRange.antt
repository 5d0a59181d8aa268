-- The numbers of what an access goes through.
use Rattle.std.specs.Prelude.{IfSome}
use Rattle.machine_desc.specs.Machine.{IsL1, IsL2, IsControllers, IsMesh, IsDram}
use Rattle.event_graph.specs.declared.access_path.AccessPath.{AccessPath}

-- those of a path are in their ranges
pub record IsAccessPath (path : AccessPath) : Type 0 where
  pub l1 : IsL1 path.l2.banks path.l1
  pub l1i : IfSome path.l1i (IsL1 path.l2.banks)
  pub l2 : IsL2 path.l2
  pub controllers : IsControllers path.controllers
  pub mesh : IfSome path.mesh IsMesh
  pub dram : IfSome path.dram IsDram
