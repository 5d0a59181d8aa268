use Rattle.std.proofs.Common.{ap₂, arith, refl}
use mathlib.Core.Bool.{false≢true}
use Rattle.sparse_table.proofs.Whole.{keeps_absent, keeps_found, set_absent, set_found}
use Rattle.sparse_table.proofs.table.SparseTable.set_by_search.Goals as goal

pub invariant_of-self : goal.invariant_of-self
invariant_of-self g c =
    keeps_found (λ c'. (c'.number, c'.values.items)) c.self.inside.chunks.items c.self.invariant c.self.inside.none c.args.self.now c.args.number c.place_of-at.result c.args.value _ c.put.new.chunks.items c.put.ensures

pub returns-then-is_at-clause-ok : goal.returns-then-is_at-clause-ok
returns-then-is_at-clause-ok g c =
    set_found (λ c'. (c'.number, c'.values.items)) c.self.inside.chunks.items c.self.invariant c.self.inside.none c.args.self.now c.args.number c.place_of-at.result c.args.value _ c.put.new.chunks.items c.put.ensures refl c.self.view_is (c.if-is_at.ensures.0 refl)

pub invariant_of-self-2 : goal.invariant_of-self-2
invariant_of-self-2 g c =
    keeps_absent (λ c'. (c'.number, c'.values.items)) c.self.inside.chunks.items c.self.invariant c.self.inside.none c.args.self.now c.args.number c.place_of-at.result c.args.value _ c.insert.new.self.items
    c.in_ok-chunk.chunk (ap₂ (λ n vs. (n, vs)) c.in_ok-chunk.ensures.0 c.in_ok-chunk.ensures.1) c.place_of-at.ensures (λ here. false≢true (c.if-is_at.ensures.1 here)) c.in_ok-insert.ensures.items
    (omega arith)

pub returns-clause-ok : goal.returns-clause-ok
returns-clause-ok g c =
    set_absent (λ c'. (c'.number, c'.values.items)) c.self.inside.chunks.items c.self.invariant c.self.inside.none c.args.self.now c.args.number c.place_of-at.result c.args.value _ c.insert.new.self.items
    c.in_ok-chunk.chunk (ap₂ (λ n vs. (n, vs)) c.in_ok-chunk.ensures.0 c.in_ok-chunk.ensures.1) c.place_of-at.ensures (λ here. false≢true (c.if-is_at.ensures.1 here)) c.in_ok-insert.ensures.items
    refl c.self.view_is
