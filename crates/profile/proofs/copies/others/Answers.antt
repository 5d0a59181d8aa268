use Rattle.std.proofs.Common.{Bool, [], ap, ◌∙◌, arith, sym, if◌then◌else◌, ◌+◌}
use Rattle.profile.specs.Copies.{has_other}
use Rattle.profile.specs.CopyTables.{copies_in}
use Rattle.profile.proofs.Lists.{counted}
use Rattle.profile.proofs.copies.others.Goals as goal
use Rattle.profile.proofs.copies.others.Goals.{then-is_other, else-is_other}

pub loop-other-preserved : goal.loop-other-preserved
loop-other-preserved c =
    let p = has_other (copies_in c.args.of_data.now.items []) c.args.core c.args.line in
    let more = counted p c.loop-other.other c.loop-other.count c.if-is_other.count c.is_other.result c.loop-other.invariant.counted c.is_other.ensures in
    elim c.if-is_other.branch [
      | then-is_other w ↦ record {
        counted = more (w.count-is ∙ sym (ap (λ (b : Bool). c.loop-other.count + (if b then 1 else 0)) w.if-is_other.true));
        few = omega (arith, w.count-is, c.loop-other.invariant.few);
      }
      | else-is_other w ↦ record {
        counted = more (w.count-is ∙ sym (ap (λ (b : Bool). c.loop-other.count + (if b then 1 else 0)) w.if-is_other.false ∙ omega arith));
        few = omega (arith, w.count-is, c.loop-other.invariant.few);
      }
    ]
