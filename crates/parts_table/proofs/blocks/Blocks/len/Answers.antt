-- There are no more accesses than there is room for.
use Rattle.std.proofs.Common.{arith}
use Rattle.parts_table.proofs.blocks.Blocks.len.Goals as goal

pub overflow_add-result : goal.overflow_add-result
overflow_add-result c = omega (arith, c.self.invariant.0.fits, c.self.invariant.0.short)
