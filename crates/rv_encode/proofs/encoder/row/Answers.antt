use Rattle.std.proofs.Common.{ap}
use Rattle.rv_encode.proofs.RowLemmas.{row_at}
use Rattle.rv_encode.proofs.encoder.row.Goals as goal

pub returns-clause-value : goal.returns-clause-value
returns-clause-value c = ap (λ r. r.0) (row_at c.args.name _)

pub returns-clause-format : goal.returns-clause-format
returns-clause-format c = ap (λ r. r.1) (row_at c.args.name _)
