use Rattle.std.proofs.Common.{subst, sym}
use Rattle.sparse_table.proofs.Firsts.{IsAhead, ahead_at_first, ahead_here, ahead_more, ahead_of_all}
use Rattle.sparse_table.proofs.chunk.first_in.Goals as goal

pub loop-place-init : goal.loop-place-init
loop-place-init g c = subst (IsAhead c.args.base c.args.values.now c.args.from) (sym c.saturating_sub-first.ensures) (ahead_at_first _ _ _)

pub loop-place-preserved : goal.loop-place-preserved
loop-place-preserved g c = ahead_more _ _ _ _ c.loop-place.invariant _ c.index-values-place.is c.loop-place-test.true (sym c.if-is_some.ensures)

pub returns : goal.returns
returns g c = ahead_of_all _ _ _ _ c.loop-place.invariant c.loop-place-test.false

pub returns-then-is_some : goal.returns-then-is_some
returns-then-is_some g c = ahead_here _ _ _ _ c.loop-place.invariant _ c.index-values-place.is c.loop-place-test.true (sym c.if-is_some.ensures)
