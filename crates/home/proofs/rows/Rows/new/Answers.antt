use Rattle.home.proofs.RowsPlaced.{rows_are}
use Rattle.home.proofs.rows.Rows.new.Goals as goal

pub returns : goal.returns
returns c = rows_are c.args.count c.in_ok-new.field-0.places.items c.in_ok-new.field-0.rows.items
