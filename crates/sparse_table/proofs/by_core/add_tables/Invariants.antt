use Rattle.std.proofs.Common.{◌≡◌, ℕ, ◌-◌, ◌+◌, length}
use Rattle.sparse_table.specs.ByCore.{HaveNone, value_at}
use Rattle.sparse_table.proofs.by_core.add_tables.Given as goal

abbrev pub invariant-loop-alloc : goal.invariant-loop-alloc
invariant-loop-alloc g l = record {
  same : (c n : ℕ) → value_at l.none l.tables.items c n ≡ value_at l.none l.fn.tables.items c n;
  none : HaveNone l.none l.fn.tables.items → HaveNone l.none l.tables.items;
}

abbrev pub decreases-loop-alloc : goal.decreases-loop-alloc
decreases-loop-alloc g l = l.core + 1 - length l.tables.items
