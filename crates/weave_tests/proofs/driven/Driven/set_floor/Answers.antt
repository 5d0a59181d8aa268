-- The floor is no great cycle.
use Rattle.std.proofs.Common.{arith}
use Rattle.weave_tests.proofs.Keeping.{keeps_floor}
use Rattle.weave_tests.proofs.driven.Driven.set_floor.Goals as goal

pub invariant_of-self : goal.invariant_of-self
invariant_of-self c = record {
  keeps = keeps_floor c.args.self.now.graph.now c.args.self.now.parts.now c.args.self.now.number c.args.self.now.domain c.args.self.now.known.items c.args.self.now.told.items c.args.self.now.floor c.args.self.now.busy
      c.args.self.now.keeps c.set_floor.new.self c.args.floor c.set_floor.ensures (omega (arith, c.if-floor-gt-LATEST.false));
}
