use Rattle.std.proofs.Common.{arith}
use Rattle.mesi_dir.proofs.CoreSets.{either_has}
use Rattle.mesi_dir.proofs.core_set.CoreSet.with_all.Goals as goal

pub returns : goal.returns
returns c = record { each = either_has c.args.self.now.words c.args.others.words (omega arith) (omega arith) }
