use Rattle.std.proofs.Common.{◌∙◌, sym}
use Rattle.rv_blocks.proofs.Serving.{serves_store}
use Rattle.rv_blocks.proofs.access.store_hit.Goals as goal

pub returns-then-store_hit-clause-served : goal.returns-then-store_hit-clause-served
returns-then-store_hit-clause-served g c holds =
    let hit = c.store_hit.ensures.hit c.if-store_hit.true in
    serves_store c.args.memory.now g.Q.Port.gives g.Q.Port.core g.Q.Port.logged c.args.slot.now c.args.start c.args.x.now c.args.port.now c.width_of-width.result hit.0
    c.store_hit.new.self c.requires.is_store c.width_of-width.ensures.value (sym c.is_single.ensures ∙ c.if-not-is_single.false) (rw c.low_bytes-value.ensures at hit.1)
