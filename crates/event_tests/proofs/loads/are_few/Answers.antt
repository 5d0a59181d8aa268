-- An access has four events at most.
use Rattle.std.proofs.Common.{length, arith}
use Rattle.std.proofs.lemmas.Bool.{leb-true}
use Rattle.event_tests.proofs.loads.are_few.Goals as goal

pub returns : goal.returns
returns c = λ h. let few = c.plain_accesses_have_few_events.ensures c.args.plain.now.path c.args.entries.now in omega (arith, few, leb-true (length c.args.entries.now) 1048576 h)
