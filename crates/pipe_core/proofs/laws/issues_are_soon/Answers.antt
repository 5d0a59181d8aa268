use Rattle.pipe_core.proofs.Soon.{first_goes_on, issues_are_soon, soon_has_room}
use Rattle.pipe_core.proofs.laws.issues_are_soon.Goals as goal

pub returns-clause-first : goal.returns-clause-first
returns-clause-first c = first_goes_on

pub returns-clause-soon : goal.returns-clause-soon
returns-clause-soon c = issues_are_soon

pub returns-clause-room : goal.returns-clause-room
returns-clause-room c = soon_has_room
