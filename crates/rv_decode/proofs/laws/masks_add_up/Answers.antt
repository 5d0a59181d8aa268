use Rattle.rv_decode.proofs.FamilyLemmas.{and-ones}
use Rattle.rv_decode.proofs.WordLemmas.{and-sum}
use Rattle.rv_decode.proofs.laws.masks_add_up.Goals as goal

pub returns-clause-bits : goal.returns-clause-bits
returns-clause-bits c = and-ones

pub returns-clause-sums : goal.returns-clause-sums
returns-clause-sums c mask other word apart = and-sum mask other apart word
