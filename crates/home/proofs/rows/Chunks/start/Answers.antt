use Rattle.std.proofs.Common.{◌/◌, arith}
use Rattle.cache_set.proofs.Rows.{value_at}
use Rattle.home.proofs.RowsPlaced.{stands_within}
use Rattle.home.proofs.rows.Chunks.start.Goals as goal

pub returns-clause-within : goal.returns-clause-within
returns-clause-within c =
    omega (arith, stands_within c.requires.are c.args.way, value_at c.args.self.now.places.items (c.args.way / 64) c.index.result.now c.requires.within c.index.ensures)
