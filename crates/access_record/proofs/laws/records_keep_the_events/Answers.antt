use Rattle.access_record.proofs.Kept.{same_beyond}
use Rattle.access_record.proofs.laws.records_keep_the_events.Goals as goal

pub returns : goal.returns
returns c = same_beyond c.events_are_of_lines_and_outcomes.ensures
