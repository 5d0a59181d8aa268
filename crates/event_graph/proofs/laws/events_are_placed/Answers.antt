-- By the fold over the accesses.
use Rattle.std.proofs.Common.{◌+◌, take}
use Rattle.event_graph.proofs.AllEvents.{all_numbered}
use Rattle.event_graph.proofs.Placed.{ends_with, last_placed, next_first, of_which, parents_here, placed_among}
use Rattle.event_graph.proofs.laws.events_are_placed.Goals as goal

pub returns-clause-numbered : goal.returns-clause-numbered
returns-clause-numbered g c = λ x entries. all_numbered (g.X.Expand.pieces x) (g.met.X.Expand.parents_come_before x) entries

pub returns-clause-there : goal.returns-clause-there
returns-clause-there g c = λ x entries a e k p is at. placed_among (g.X.Expand.pieces x) entries a e k p is at

pub returns-clause-next : goal.returns-clause-next
returns-clause-next g c = λ x entries a e is. next_first (g.X.Expand.pieces x) entries a e is

pub returns-clause-each : goal.returns-clause-each
returns-clause-each g c = λ x entries number e at. of_which (g.X.Expand.pieces x) entries number e at

pub returns-clause-parents : goal.returns-clause-parents
returns-clause-parents g c = λ x entries number e at.
    parents_here (g.X.Expand.pieces x) entries (λ a. all_numbered (g.X.Expand.pieces x) (g.met.X.Expand.parents_come_before x) (take a entries)) number e at

pub returns-clause-last : goal.returns-clause-last
returns-clause-last g c = λ x entries core a e is.
    last_placed (g.X.Expand.pieces x) entries core a e (all_numbered (g.X.Expand.pieces x) (g.met.X.Expand.parents_come_before x) (take a entries)) is

pub returns-clause-ends : goal.returns-clause-ends
returns-clause-ends g c = λ x entries a e k p there at end.
    ends_with (g.X.Expand.pieces x) entries a e k p (all_numbered (g.X.Expand.pieces x) (g.met.X.Expand.parents_come_before x) (take (a + 1) entries)) there at end
