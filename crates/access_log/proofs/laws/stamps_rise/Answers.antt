use Rattle.access_log.proofs.Rising.{stamps_rise}
use Rattle.access_log.proofs.laws.stamps_rise.Goals as goal

pub returns : goal.returns
returns c banks cores entries some known stamped = stamps_rise banks cores entries some known stamped
