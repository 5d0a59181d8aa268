use Rattle.std.proofs.Common.{ℕ, length, get_or, ap, ◌∙◌, arith}
use Rattle.l1_cache.specs.L1State.{L1State}
use Rattle.shard.specs.Seen.{PartsState}
use Rattle.shard.proofs.HomesAndL1s.LeavingSeen.{core_here, leaving_there}
use Rattle.shard.proofs.HomesAndL1s.PartsServe.{by_remainder}
use Rattle.shard.proofs.parts.Parts.leaving.Goals as goal

pub index-requires-2 : goal.index-requires-2
index-requires-2 c =
    let w : PartsState = record { homes = c.self.inside.homes.items; l1s = c.self.inside.l1s.items; lasts = c.self.inside.lasts.items } in
    omega (arith, c.from.ensures, core_here w c.self.invariant c.args.self.now c.self.view_is c.args.core c.args.request c.requires)

pub returns : goal.returns
returns c =
    let w : PartsState = record { homes = c.self.inside.homes.items; l1s = c.self.inside.l1s.items; lasts = c.self.inside.lasts.items } in
    let bank = by_remainder c.len.result (length c.self.inside.homes.items) c.line.result c.remainder-bank.result c.args.request c.remainder-bank.ensures c.line.ensures (omega arith) in
    let l1 : L1State = c.index-2.result.now in
    c.leaving_here.ensures
    ∙ leaving_there w c.self.invariant c.args.self.now c.self.view_is c.args.core c.args.request c.requires c.remainder-bank.result bank c.index.result.now c.index.ensures l1
    (c.index-2.ensures ∙ ap (λ (k : ℕ). get_or c.self.inside.l1s.items k l1) c.from.ensures)
