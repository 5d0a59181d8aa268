use Rattle.shard.proofs.Coherent.{coherent_stays, l2_laws}
use Rattle.shard.proofs.HomesAndL1s.OwnBank.{own_bank}
use Rattle.shard.proofs.laws.own_bank.Goals as goal

pub returns : goal.returns
returns c = own_bank coherent_stays l2_laws
