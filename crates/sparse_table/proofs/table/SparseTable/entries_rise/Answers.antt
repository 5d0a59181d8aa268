use Rattle.sparse_table.proofs.Whole.{entries_fit, entries_rise}
use Rattle.sparse_table.proofs.table.SparseTable.entries_rise.Goals as goal

pub returns-clause-rise : goal.returns-clause-rise
returns-clause-rise g c = entries_rise _ _ _ c.self.view_is c.self.invariant

pub returns-clause-fit : goal.returns-clause-fit
returns-clause-fit g c = entries_fit _ _ _ c.self.view_is c.self.invariant
