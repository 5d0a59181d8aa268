use Rattle.noc_mesh.proofs.InARow.{net_row}
use Rattle.noc_mesh.proofs.laws.net_events_are_in_a_row.Goals as goal

pub returns : goal.returns
returns c = λ path e. net_row path e
