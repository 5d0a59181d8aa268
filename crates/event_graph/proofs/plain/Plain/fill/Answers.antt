use Rattle.std.proofs.Common.{refl}
use Rattle.event_graph.proofs.plain.Plain.fill.Goals as goal

pub returns-then-dirty : goal.returns-then-dirty
returns-then-dirty c = rw (c.bank.ensures, c.head.ensures, c.from.ensures, c.memory_time.ensures, c.from-2.ensures, c.if-dirty.true) refl
