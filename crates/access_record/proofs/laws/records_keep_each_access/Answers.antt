use Rattle.access_record.proofs.Kept.{same_access}
use Rattle.access_record.proofs.laws.records_keep_each_access.Goals as goal

pub returns : goal.returns
returns c = same_access c.events_are_of_lines_and_outcomes.ensures
