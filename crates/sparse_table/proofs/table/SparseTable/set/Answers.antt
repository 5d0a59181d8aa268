use Rattle.std.proofs.Common.{refl}
use Rattle.sparse_table.proofs.Whole.{keeps_found, set_found}
use Rattle.sparse_table.proofs.table.SparseTable.set.Goals as goal

pub invariant_of-self : goal.invariant_of-self
invariant_of-self g c =
    keeps_found (λ c'. (c'.number, c'.values.items)) c.self.inside.chunks.items c.self.invariant c.self.inside.none c.args.self.now c.args.number _ c.args.value _ c.put.new.chunks.items c.put.ensures

pub returns-then-is_at-clause-ok : goal.returns-then-is_at-clause-ok
returns-then-is_at-clause-ok g c =
    set_found (λ c'. (c'.number, c'.values.items)) c.self.inside.chunks.items c.self.invariant c.self.inside.none c.args.self.now c.args.number _ c.args.value _ c.put.new.chunks.items c.put.ensures refl c.self.view_is (c.if-is_at.ensures.0 refl)
