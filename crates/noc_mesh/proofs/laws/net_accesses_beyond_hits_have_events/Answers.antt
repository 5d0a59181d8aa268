use Rattle.noc_mesh.proofs.SomeEvents.{some_by}
use Rattle.noc_mesh.proofs.laws.net_accesses_beyond_hits_have_events.Goals as goal

pub returns : goal.returns
returns c = λ path e beyond. some_by path e e.outcome beyond
