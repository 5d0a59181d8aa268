use Rattle.std.proofs.Common.{append_assoc, rules}
use Rattle.domain_map.proofs.make.add_event.Goals as goal

pub returns-clause-crossings : goal.returns-clause-crossings
returns-clause-crossings c = rw (← append_assoc, ← c.in_ok-push_crossing.ensures) (search rules)
