use Rattle.std.proofs.Common.{List, map, ap, ◌∙◌, arith}
use Rattle.shard.specs.Seen.{PartsState}
use Rattle.shard.specs.Served.{ShardState, resumed}
use Rattle.shard.proofs.HomesAndL1s.PartsServe.{restarted_is, restarted_parts}
use Rattle.shard.proofs.parts.Parts.restart.Goals as goal

pub invariant_of-self : goal.invariant_of-self
invariant_of-self c =
    let w : PartsState = record { homes = c.self.inside.homes.items; l1s = c.self.inside.l1s.items; lasts = c.self.inside.lasts.items } in
    restarted_parts w c.self.inside.lasts.len c.fill.new.self.items (c.fill.ensures.items (λ y e. e)) c.self.invariant (omega arith)

pub returns : goal.returns
returns c =
    let w : PartsState = record { homes = c.self.inside.homes.items; l1s = c.self.inside.l1s.items; lasts = c.self.inside.lasts.items } in
    restarted_is w c.self.inside.lasts.len c.fill.new.self.items (c.fill.ensures.items (λ y e. e)) ∙ ap (λ (shards : List ShardState). map (λ shard. resumed shard 0) shards) c.self.view_is
