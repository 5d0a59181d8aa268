use Rattle.std.proofs.Common.{◌≡◌, ◌<◌, ◌≤◌, ℕ, length}
use Rattle.profile.specs.declared.copies.CopyState.TheVariants.{Never}
use Rattle.profile.specs.CopyTables.{all_left}
use Rattle.sparse_table.specs.ByCore.{value_at}
use Rattle.profile.proofs.copies.leave_all.Given as goal

abbrev pub invariant-loop-core : goal.invariant-loop-core
invariant-loop-core l = record {
  done : (c n : ℕ) → c < l.core → value_at Never l.tables.items c n ≡ all_left l.why l.spared l.line (value_at Never l.fn.tables.items) c n;
  left : (c n : ℕ) → l.core ≤ c → value_at Never l.tables.items c n ≡ value_at Never l.fn.tables.items c n;
  count : length l.tables.items ≡ length l.fn.tables.items;
}
