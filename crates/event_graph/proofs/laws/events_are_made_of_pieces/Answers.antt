-- By the fold over the accesses.
use Rattle.event_graph.proofs.MadeOfPieces.{made_alike, may_be_left_out}
use Rattle.event_graph.proofs.laws.events_are_made_of_pieces.Goals as goal

pub returns-clause-alike : goal.returns-clause-alike
returns-clause-alike g c = λ x entries other alike. made_alike (g.X.Expand.pieces x) other alike entries

pub returns-clause-left_out : goal.returns-clause-left_out
returns-clause-left_out g c = λ x entries. may_be_left_out (g.X.Expand.pieces x) entries
