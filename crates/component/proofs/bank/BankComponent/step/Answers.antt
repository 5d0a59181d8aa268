use Rattle.component.proofs.SameState.{bank_with_free}
use Rattle.component.proofs.bank.BankComponent.step.Goals as goal

pub returns : goal.returns
returns c =
    rw (c.max-served.ensures, c.floor-latency.ensures) (bank_with_free c.args.self.now c.args.kind c.args.start _ _ _)
