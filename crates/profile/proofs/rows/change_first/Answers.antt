use Rattle.sparse_table.specs.ByCore.{value_at}
use Rattle.profile_rows.specs.Tallies.{no_tally}
use Rattle.profile.proofs.RowsMore.{changed_there}
use Rattle.profile.proofs.rows.change_first.Goals as goal

pub returns-clause-values : goal.returns-clause-values
returns-clause-values g c =
    changed_there c.args.core c.args.number (value_at no_tally c.args.tables.now.items) (value_at no_tally c.change_at.new.tables.items) (g.C.Change.changed c.args.by.now) c.in_ok-change_at.ensures.ok
