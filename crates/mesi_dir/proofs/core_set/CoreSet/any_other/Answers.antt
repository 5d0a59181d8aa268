use Rattle.std.proofs.Common.{arith, ◌∙◌, sym}
use Rattle.mesi_dir.proofs.CoreSets.{mask_from_other, other_from_mask}
use Rattle.mesi_dir.proofs.core_set.CoreSet.any_other.Goals as goal

pub returns : goal.returns
returns c = (
  λ some. other_from_mask c.args.self.now.words c.remove.new.self.words c.mask_and.result c.args.core c.remove.ensures.each c.mask_and.ensures (sym c.mask_any.ensures ∙ some),
  λ other. c.mask_any.ensures ∙ mask_from_other c.args.self.now.words c.remove.new.self.words c.mask_and.result c.args.core c.remove.ensures.each c.mask_and.ensures (omega arith) other,
)
