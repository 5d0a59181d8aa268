use Rattle.std.proofs.Common.{arith}
use Rattle.event_graph.proofs.builder.event_of.Goals as goal

pub returns : goal.returns
returns c = grind arith
