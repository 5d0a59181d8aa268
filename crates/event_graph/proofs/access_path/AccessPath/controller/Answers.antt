use Rattle.std.proofs.Common.{refl}
use Rattle.event_graph.proofs.access_path.AccessPath.controller.Goals as goal

pub returns : goal.returns
returns c = rw (c.remainder-number.ensures, c.from.ensures, c.from-count.ensures, c.bank.ensures) refl
