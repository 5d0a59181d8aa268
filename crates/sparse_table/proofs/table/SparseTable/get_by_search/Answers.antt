use Rattle.std.proofs.Common.{◌∙◌, refl}
use mathlib.Core.Bool.{false≢true}
use Rattle.sparse_table.proofs.Whole.{value_absent, value_found}
use Rattle.sparse_table.proofs.table.SparseTable.get_by_search.Goals as goal

pub returns-then-is_at : goal.returns-then-is_at
returns-then-is_at g c =
    c.value_at.ensures
    ∙ value_found (λ c'. (c'.number, c'.values.items)) c.self.inside.chunks.items c.self.invariant c.self.inside.none c.args.self.now c.args.number c.place_of-at.result c.self.view_is (c.if-is_at.ensures.0 refl)

pub returns-else-is_at : goal.returns-else-is_at
returns-else-is_at g c =
    value_absent (λ c'. (c'.number, c'.values.items)) c.self.inside.chunks.items c.self.invariant c.self.inside.none c.args.self.now c.args.number c.place_of-at.result c.self.view_is c.place_of-at.ensures (λ here. false≢true (c.if-is_at.ensures.1 here))
