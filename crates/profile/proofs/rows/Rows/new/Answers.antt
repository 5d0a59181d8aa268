use Rattle.profile.proofs.RowsMore.{no_rows}
use Rattle.profile.proofs.rows.Rows.new.Goals as goal

pub returns : goal.returns
returns c = no_rows c.new.result.items c.new-2.result.items c.new.ensures.items c.new-2.ensures.items
