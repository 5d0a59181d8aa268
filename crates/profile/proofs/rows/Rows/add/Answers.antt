use Rattle.profile.proofs.RowsMore.{capped_plus}
use Rattle.profile.proofs.rows.Rows.add.Goals as goal

pub returns : goal.returns
returns c = λ cs rows. c.in_ok-change.ensures cs c.args.c.now.tally (λ t. capped_plus t c.args.c.now.tally) rows
