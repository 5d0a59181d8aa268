use Rattle.std.proofs.Common.{◌∙◌, ap, refl}
use Rattle.sparse_table.specs.Sparse.{with_value}
use Rattle.sparse_table.proofs.Whole.{keeps_found, set_found, value_found}
use Rattle.sparse_table.proofs.table.SparseTable.change.Goals as goal

pub invariant_of-self : goal.invariant_of-self
invariant_of-self g c =
    keeps_found (λ c'. (c'.number, c'.values.items)) c.self.inside.chunks.items c.self.invariant c.self.inside.none c.args.self.now c.args.number _ _ _ c.change.new.chunks.items c.change.ensures

pub returns-then-is_at-clause-ok : goal.returns-then-is_at-clause-ok
returns-then-is_at-clause-ok g c =
    set_found (λ c'. (c'.number, c'.values.items)) c.self.inside.chunks.items c.self.invariant c.self.inside.none c.args.self.now c.args.number _ _ _ c.change.new.chunks.items c.change.ensures refl c.self.view_is (c.if-is_at.ensures.0 refl)
    ∙ ap (λ v. with_value c.args.self.now c.args.number (g.C.Change.changed c.args.by.now v))
    (value_found (λ c'. (c'.number, c'.values.items)) c.self.inside.chunks.items c.self.invariant c.self.inside.none c.args.self.now c.args.number _ c.self.view_is (c.if-is_at.ensures.0 refl))
