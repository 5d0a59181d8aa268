use Rattle.std.proofs.Common.{◌<◌, ◌≤◌, length, sym, ◌∙◌}
use borrow.Author.Tests.{ltb-true, ltb-false}
use Rattle.shard.specs.Seen.{PartsState}
use Rattle.shard.proofs.HomesAndL1s.PartsRead.{fetch_here, fetch_past}
use Rattle.shard.proofs.parts.Parts.fetch_holds.Goals as goal

pub returns-in-Some : goal.returns-in-Some
returns-in-Some c =
    let w : PartsState = record { homes = c.self.inside.homes.items; l1s = c.self.inside.l1s.items; lasts = c.self.inside.lasts.items } in
    let found = rw (c.from.ensures, c.deref.ensures.value) at c.in-Some.ensures.lookup in
    let within : c.args.core < length c.self.inside.l1s.items = ltb-true _ _ (sym found.0) in
    rw (← c.self.view_is) (c.has_instructions.ensures ∙ fetch_here w c.self.invariant c.args.line c.args.core c.in-Some.l1.now within found.1)

pub returns-in-None : goal.returns-in-None
returns-in-None c =
    let w : PartsState = record { homes = c.self.inside.homes.items; l1s = c.self.inside.l1s.items; lasts = c.self.inside.lasts.items } in
    let found = rw (c.from.ensures, c.deref.ensures.value) at c.in-None.ensures.lookup in
    let past : length c.self.inside.l1s.items ≤ c.args.core = ltb-false _ _ (sym found.0) in
    rw (← c.self.view_is) (fetch_past w c.self.invariant c.args.line c.args.core past)
