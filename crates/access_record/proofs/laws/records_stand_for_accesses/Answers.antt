use Rattle.access_record.proofs.Kept.{stands_for}
use Rattle.access_record.proofs.laws.records_stand_for_accesses.Goals as goal

pub returns : goal.returns
returns c = stands_for
