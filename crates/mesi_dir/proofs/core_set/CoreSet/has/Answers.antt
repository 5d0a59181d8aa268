use Rattle.std.proofs.Common.{◌/◌, ◌%◌, get_or}
use Rattle.std.specs.Int.{bit_at}
use Rattle.std.proofs.lemmas.Bool.Decides.{Decides-eqb, same_from_decides}
use Rattle.lanes.specs.Masks.{has_bit}
use Rattle.mesi_dir.proofs.core_set.CoreSet.has.Goals as goal

pub returns : goal.returns
unfolding has_bit
returns c =
    let bit = bit_at (get_or c.args.self.now.words (c.args.core / 64) 0) (c.args.core % 64) in
    same_from_decides _ _ (rw c.from.ensures at c.has_bit.ensures) (Decides-eqb bit 1)
