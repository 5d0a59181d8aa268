-- What is kept of every stub.
use Rattle.std.proofs.Common.{ap, subst}
use Rattle.weave_core.specs.Stubs.{AreSmallStubs, Stubs}
use Rattle.weave_core.proofs.incoming.Incoming.stubs.Goals as goal

pub returns-clause-small : goal.returns-clause-small
returns-clause-small c = subst AreSmallStubs (ap (λ (v : Stubs). v.stubs) c.self.view_is) c.self.invariant.small
