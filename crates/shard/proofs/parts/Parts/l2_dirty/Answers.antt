use Rattle.std.proofs.Common.{length, Some, None, arith}
use Rattle.home.specs.Rows.{line_in}
use Rattle.shard.specs.Seen.{PartsState}
use Rattle.shard.proofs.HomesAndL1s.PartsRead.{bank_by, dirty_here}
use Rattle.shard.proofs.parts.Parts.l2_dirty.Goals as goal

pub returns-in-Some : goal.returns-in-Some
returns-in-Some c =
    let w : PartsState = record { homes = c.self.inside.homes.items; l1s = c.self.inside.l1s.items; lasts = c.self.inside.lasts.items } in
    let bank = bank_by c.len.result (length c.self.inside.homes.items) c.args.line c.remainder-bank.result c.remainder-bank.ensures (omega arith) in
    rw (← c.self.view_is) (dirty_here w c.self.invariant c.args.line c.remainder-bank.result bank c.index.result.now c.index.ensures (Some (line_in c.in-Some.row)) c.in-Some.ensures)

pub returns-in-None : goal.returns-in-None
returns-in-None c =
    let w : PartsState = record { homes = c.self.inside.homes.items; l1s = c.self.inside.l1s.items; lasts = c.self.inside.lasts.items } in
    let bank = bank_by c.len.result (length c.self.inside.homes.items) c.args.line c.remainder-bank.result c.remainder-bank.ensures (omega arith) in
    rw (← c.self.view_is) (dirty_here w c.self.invariant c.args.line c.remainder-bank.result bank c.index.result.now c.index.ensures None c.in-None.ensures)
