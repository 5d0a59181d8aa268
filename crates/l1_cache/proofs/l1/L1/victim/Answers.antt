use Rattle.std.proofs.Common.{refl, arith}
use Rattle.cache_set.proofs.Rows.{value_at}
use Rattle.l1_cache.proofs.Copies.{kept_read}
use Rattle.l1_cache.proofs.Views.{next_within, no_victim, the_victim}
use Rattle.l1_cache.proofs.l1.L1.victim.Goals as goal

pub returns-in-None : goal.returns-in-None
returns-in-None c =
    let room = c.in-None.ensures.room in
    rw (← c.self.view_is, no_victim c.self.invariant c.args.line room.place room.next room.free) refl

pub returns-in-Some : goal.returns-in-Some
returns-in-Some c =
    let was = c.self.invariant in
    let p = c.in-Some.place in
    let w = c.self.inside.ways in
    let full = c.in-Some.ensures.full in
    let below = next_within was c.args.line w.tags.ages.items p full.next in
    let tag = value_at w.tags.tags.items p c.index.result.now (omega (arith, below, was.ways.tags.aged.tags_are)) c.index.ensures in
    let kept = kept_read w.kept.items p c.index-in-Some.result.now (omega (arith, below, was.ways.kept_are)) c.index-in-Some.ensures in
    rw (← c.self.view_is, the_victim was c.args.line p full.next full.live, tag, kept) refl
