use Rattle.access_log.proofs.Distinct.{distinct_keys}
use Rattle.access_log.proofs.laws.rising_stamps_are_distinct.Goals as goal

pub returns : goal.returns
returns c entries rise = distinct_keys entries rise
