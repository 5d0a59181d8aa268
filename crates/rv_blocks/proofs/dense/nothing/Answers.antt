use Rattle.rv_blocks.specs.Slots.{does}
use Rattle.rv_blocks.proofs.dense.nothing.Goals as goal

pub returns-clause-does : goal.returns-clause-does
unfolding does
returns-clause-does c core registers = c.requires.nothing core registers
