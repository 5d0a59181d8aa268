-- No more events than the graph has.
use Rattle.std.proofs.Common.{arith}
use Rattle.weave_chains.proofs.alone.fire_alone.Goals as goal

pub overflow_add-events : goal.overflow_add-events
overflow_add-events g c =
    let z = c.requires.come in
    let after = c.fire_access-count.ensures.fired z.0 c.loop-access.events (c.loop-access.invariant.fired z.0 z.1) in
    omega (arith, after.weaving.within, c.requires.few, c.from-events.ensures)
