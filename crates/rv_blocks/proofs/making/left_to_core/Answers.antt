use Rattle.rv_blocks.proofs.Standing.{left_meant}
use Rattle.rv_blocks.proofs.making.left_to_core.Goals as goal

pub returns : goal.returns
returns c = left_meant c.args._image.now (record { first = c.args._first; count = c.args._count }) c.args._place
