use Rattle.access_record.proofs.Steps.{bank_back, events_back}
use Rattle.access_record.proofs.laws.bytes_tell.Goals as goal

pub returns : goal.returns
returns c = λ banks e some few. (bank_back banks e some few, events_back banks e some few)
