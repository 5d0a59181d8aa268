use Rattle.std.proofs.Common.{ℕ, sym, ap, ◌∙◌}
use Rattle.std.proofs.lemmas.Bool.{not-true}
use Rattle.std.specs.Prelude.{nat_eq}
use Rattle.std.specs.Set.{is_member}
use Rattle.home.specs.HomeState.{row_of}
use Rattle.shard.specs.BankSteps.{bank_with}
use Rattle.shard.proofs.BankAway.{away_letter}
use Rattle.shard.proofs.shared.is_away.Goals as goal

pub returns-clause-letter : goal.returns-clause-letter
returns-clause-letter c away =
    let q = bank_with c.args.home.now c.args.l1s.now in
    away_letter q c.args.core c.args.request.now c.requires.touched
    (ap (λ (l : ℕ). is_member nat_eq (row_of q.home l).sharers c.args.core) (sym c.line-2.ensures) ∙ sym c.shares.ensures.value ∙ not-true c.shares.result away)
