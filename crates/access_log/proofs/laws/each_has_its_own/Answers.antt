use Rattle.access_log.proofs.EachAfter.{own_at}
use Rattle.access_log.proofs.laws.each_has_its_own.Goals as goal

pub returns : goal.returns
returns g c step number_of entries xs i = own_at step number_of entries xs i
