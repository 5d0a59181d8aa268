use Rattle.std.proofs.Common.{sym, subst}
use Rattle.pipe_core.specs.PaceLaws.{GoesOnFrom}
use Rattle.pipe_core.proofs.Soon.{first_goes_on}
use Rattle.bound_core.proofs.paced.first_pace.Goals as goal

pub returns-in_ok-new-in-Some-clause-soon : goal.returns-in_ok-new-in-Some-clause-soon
returns-in_ok-new-in-Some-clause-soon c =
    subst (GoesOnFrom 0) (sym c.in_ok-new-in-Some.ensures) (first_goes_on c.in-Some.pipe (rw c.in-Some.is at c.requires))
