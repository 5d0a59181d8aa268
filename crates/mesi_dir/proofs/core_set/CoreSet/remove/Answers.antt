use Rattle.std.proofs.Common.{arith, length-set}
use Rattle.mesi_dir.proofs.CoreSets.{core_removed, cores_without}
use Rattle.mesi_dir.proofs.core_set.CoreSet.remove.Goals as goal

pub returns : goal.returns
returns c =
    let others = rw c.from-word.ensures at c.without_bit.ensures.others in
    let each = core_removed c.args.self.now.words c.args.core c.without_bit.result (omega arith) c.without_bit.ensures.clear others in
    rw c.from-word.ensures (record { each = each; cores = cores_without c.args.self.now.words _ c.args.core (length-set c.args.self.now.words _ _) each })
