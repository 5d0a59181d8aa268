use Rattle.event_graph.proofs.PlainCounts.{plain_few}
use Rattle.event_graph.proofs.laws.plain_accesses_have_few_events.Goals as goal

pub returns : goal.returns
returns c = λ path entries. plain_few path entries
