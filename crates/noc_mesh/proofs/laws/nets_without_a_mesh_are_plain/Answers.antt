use Rattle.noc_mesh.proofs.NoMesh.{plain_pieces, plain_times}
use Rattle.noc_mesh.proofs.laws.nets_without_a_mesh_are_plain.Goals as goal

pub returns : goal.returns
returns c = λ path e none closed. (
  plain_pieces path.l1 path.l1i path.l2 path.controllers e path.mesh path.dram e.outcome none closed,
  plain_times path.l1 path.l1i path.l2 path.controllers e path.mesh path.dram e.outcome none closed,
)
