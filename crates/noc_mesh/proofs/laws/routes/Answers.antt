use Rattle.noc_mesh.proofs.Chains.{routes_lead}
use Rattle.noc_mesh.proofs.laws.routes.Goals as goal

pub returns : goal.returns
returns c = routes_lead
