use Rattle.std.proofs.Common.{◌<◌, refl, arith}
use Rattle.cache_set.proofs.Rows.{value_at}
use Rattle.l1_cache.proofs.Instructions.{next_within, no_set_victim, no_victim, the_victim}
use Rattle.l1_cache.proofs.l1.L1.instruction_victim.Goals as goal

pub returns-then-self-eq0 : goal.returns-then-self-eq0
returns-then-self-eq0 c = rw (← c.self.view_is, no_set_victim c.self.invariant c.args.line c.if-self-eq0.true) refl

pub returns-in-None : goal.returns-in-None
returns-in-None c =
    let l1i = c.self.inside.instructions.tags in
    let some : 0 < l1i.sets = omega (arith, c.if-self-eq0.false) in
    let room = c.in-None.ensures.room in
    rw (← c.self.view_is, no_victim c.self.invariant c.args.line some room.place room.next room.free) refl

pub returns-in-Some : goal.returns-in-Some
returns-in-Some c =
    let was = c.self.invariant in
    let l1i = c.self.inside.instructions.tags in
    let p = c.in-Some.place in
    let some : 0 < l1i.sets = omega (arith, c.if-self-eq0.false) in
    let full = c.in-Some.ensures.full in
    let below = next_within was c.args.line some l1i.ages.items p full.next in
    let tag = value_at l1i.tags.items p c.index.result.now (omega (arith, below, was.instructions.tags.aged.tags_are)) c.index.ensures in
    rw (← c.self.view_is, the_victim was c.args.line some p full.next full.live, tag) refl
