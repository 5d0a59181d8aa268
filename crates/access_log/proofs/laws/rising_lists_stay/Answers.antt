use Rattle.access_log.proofs.Rising.{rising_stay}
use Rattle.access_log.proofs.laws.rising_lists_stay.Goals as goal

pub returns : goal.returns
returns c number_of entries rising number = rising_stay number_of entries rising number
