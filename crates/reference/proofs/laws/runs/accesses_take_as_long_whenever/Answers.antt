use Rattle.std.proofs.Common.{refl}
use Rattle.event_graph.specs.AccessPaths.{path_of}
use Rattle.reference.specs.SamePath.{whenever}
use Rattle.reference.proofs.laws.runs.accesses_take_as_long_whenever.Goals as goal

pub returns : goal.returns
returns c = λ machine e. (c.events_are_of_lines_and_outcomes.ensures (path_of machine) e (whenever e) refl refl refl refl).1
