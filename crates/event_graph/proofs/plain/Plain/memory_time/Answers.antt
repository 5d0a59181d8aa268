use Rattle.std.proofs.Common.{arith}
use Rattle.event_graph.proofs.plain.Plain.memory_time.Goals as goal

pub returns-then-dirty : goal.returns-then-dirty
returns-then-dirty c = rw c.if-dirty.true (omega arith)
