-- The machine has as many banks.
use Rattle.std.proofs.Common.{ℕ, subst}
use Rattle.table_tests.specs.Tested.{AreOf}
use Rattle.table_tests.proofs.tested.tested_shards.Goals as goal

pub returns-clause-each : goal.returns-clause-each
returns-clause-each c = subst (λ (b : ℕ). AreOf b c.in_ok-shards.shards.items) c.in_ok-machine.ensures.banks c.in_ok-shards.ensures.each
