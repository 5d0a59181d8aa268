use Rattle.std.proofs.Common.{ℕ, List, sym, ap}
use Rattle.shard.specs.BankSteps.{bank_with}
use Rattle.shard.specs.SharedStep.{given_up_by}
use Rattle.shard.proofs.shared.others.give_up.Goals as goal

pub returns-then-is_empty-clause-after : goal.returns-then-is_empty-clause-after
returns-then-is_empty-clause-after c =
    sym (ap (λ (z : List ℕ). given_up_by c.args.line z (bank_with c.args.home.now c.args.l1s.now)) (c.is_empty.ensures.cores.0 c.if-is_empty.true))
