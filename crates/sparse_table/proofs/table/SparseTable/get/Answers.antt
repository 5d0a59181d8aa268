use Rattle.std.proofs.Common.{◌∙◌, refl}
use Rattle.sparse_table.proofs.Whole.{value_found}
use Rattle.sparse_table.proofs.table.SparseTable.get.Goals as goal

pub returns-then-is_at : goal.returns-then-is_at
returns-then-is_at g c =
    c.value_at.ensures
    ∙ value_found (λ c'. (c'.number, c'.values.items)) c.self.inside.chunks.items c.self.invariant c.self.inside.none c.args.self.now c.args.number _ c.self.view_is (c.if-is_at.ensures.0 refl)
