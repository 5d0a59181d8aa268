use Rattle.access_record.proofs.Kept.{no_hits}
use Rattle.access_record.proofs.laws.hits_make_no_events.Goals as goal

pub returns : goal.returns
returns c = no_hits
