-- The next event ends soon at zero load.
use Rattle.std.proofs.Common.{arith}
use Rattle.weave_chains.proofs.ahead.look_ahead.Goals as goal

pub overflow_add-begin : goal.overflow_add-begin
overflow_add-begin g c =
    omega (arith, (c.requires.soon c.access-entry.result c.piece-piece.result c.access-entry.ensures c.piece-piece.ensures).0)

pub overflow_add-chain : goal.overflow_add-chain
overflow_add-chain g c =
    omega (arith, (c.requires.soon c.access-entry.result c.piece-piece.result c.access-entry.ensures c.piece-piece.ensures).0)
