use Rattle.dram_rows.proofs.InTurn.{rows_serve_in_turn}
use Rattle.dram_rows.proofs.laws.rows.Goals as goal

pub returns : goal.returns
returns c = rows_serve_in_turn
