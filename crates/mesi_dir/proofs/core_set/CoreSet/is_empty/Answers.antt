use Rattle.std.proofs.Common.{◌≡◌, true, not, ap, arith, ◌∙◌, sym}
use Rattle.std.proofs.lemmas.Bool.{not-true}
use Rattle.mesi_dir.specs.CoreSets.{HasNone}
use Rattle.mesi_dir.proofs.CoreSets.{cores_in-none, mask_from_none, none_from_cores, none_from_mask}
use Rattle.mesi_dir.proofs.core_set.CoreSet.is_empty.Goals as goal

pub returns : goal.returns
returns c =
    let none : not c.mask_any.result ≡ true → HasNone c.args.self.now.words
    = λ empty. none_from_mask c.args.self.now.words (omega arith) (sym c.mask_any.ensures ∙ not-true c.mask_any.result empty) in
    let empty : HasNone c.args.self.now.words → not c.mask_any.result ≡ true
    = λ h. ap not (c.mask_any.ensures ∙ mask_from_none c.args.self.now.words h) in
    record {
      none = (none, empty);
      cores = (λ t. cores_in-none c.args.self.now.words (none t), λ h. empty (none_from_cores c.args.self.now.words h));
    }
