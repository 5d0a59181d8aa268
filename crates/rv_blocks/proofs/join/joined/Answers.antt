use Rattle.std.proofs.Common.{◌+◌}
use Rattle.rv_blocks.proofs.Standing.{left_meant, meant_whatever}
use Rattle.rv_blocks.proofs.join.joined.Goals as goal

pub returns-then-not-is_plain-clause-meant : goal.returns-then-not-is_plain-clause-meant
returns-then-not-is_plain-clause-meant c image stretch place meant = meant_whatever 1 image stretch place c.args.slot.now meant

pub returns-then-left-lt-MOST_IN_BLOCK-clause-meant : goal.returns-then-left-lt-MOST_IN_BLOCK-clause-meant
returns-then-left-lt-MOST_IN_BLOCK-clause-meant c image stretch place meant = meant_whatever (c.args.left + 1) image stretch place c.args.slot.now meant

pub returns-else-left-lt-MOST_IN_BLOCK-clause-meant : goal.returns-else-left-lt-MOST_IN_BLOCK-clause-meant
returns-else-left-lt-MOST_IN_BLOCK-clause-meant c image stretch place meant = left_meant image stretch place
