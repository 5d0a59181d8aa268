-- The workers below this one have exchanged.
use Rattle.weave_run.specs.Shares.{AreExchanged}
use Rattle.weave_run.proofs.at_work.exchange.Given as goal

abbrev pub invariant-loop-worker : goal.invariant-loop-worker
invariant-loop-worker g l = AreExchanged l.fn.crews l.crews l.fn.shares.items l.shares.items l.worker
