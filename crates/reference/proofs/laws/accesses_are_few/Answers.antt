use Rattle.reference.proofs.Accesses.{left_few, most_few}
use Rattle.reference.proofs.laws.accesses_are_few.Goals as goal

pub returns : goal.returns
returns c end core sound = most_few end core (λ late. left_few core.core sound)
