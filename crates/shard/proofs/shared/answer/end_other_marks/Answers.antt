use Rattle.std.proofs.Common.{length, ap, ◌∙◌}
use Rattle.home.specs.HomeState.{HomeState}
use Rattle.shard.proofs.Kept.{length-after_write}
use Rattle.shard.proofs.shared.answer.end_other_marks.Goals as goal

pub returns-clause-cores : goal.returns-clause-cores
returns-clause-cores c = ap (λ (h : HomeState). length h.marks) c.end_other_marks.ensures ∙ length-after_write c.args.core c.args.addr c.args.home.now.marks
