use Rattle.std.proofs.Common.{ℕ, List, length, ap, ◌∙◌}
use Rattle.shard.proofs.BankSteps.{long_at}
use Rattle.shard.proofs.shared.own.fill_at.Goals as goal

pub fill-requires-clause-bytes : goal.fill-requires-clause-bytes
fill-requires-clause-bytes c = ap (λ (b : List ℕ). length b) c.line_bytes.ensures ∙ long_at c.args.home.now c.args.line c.requires.kept
