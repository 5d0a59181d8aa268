use Rattle.shard.proofs.HomesAndL1s.OtherBank.{other_bank}
use Rattle.shard.proofs.laws.other_bank.Goals as goal

pub returns : goal.returns
returns c = other_bank
