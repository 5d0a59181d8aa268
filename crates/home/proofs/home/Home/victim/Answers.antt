use Rattle.std.proofs.Common.{ℕ, Some, sym, ap, ◌∙◌, arith}
use Rattle.cache_set.proofs.Rows.{value_at}
use Rattle.home.specs.Rows.{line_in}
use Rattle.home.proofs.Homes.{next_within, no_victim, the_victim}
use Rattle.home.proofs.home.Home.victim.Goals as goal

pub returns-in-None : goal.returns-in-None
returns-in-None c =
    let room = c.in-None.ensures.room in
    rw (← c.self.view_is) (sym (no_victim c.self.invariant c.args.line room.place room.next room.free))

pub returns-in-Some : goal.returns-in-Some
returns-in-Some c =
    let was = c.self.invariant in
    let p = c.in-Some.place in
    let full = c.in-Some.ensures.full in
    let tags = c.self.inside.ways.tags.items in
    let below = next_within was c.args.line p full.next in
    let tag = value_at tags p c.index.result.now (omega (arith, below, was.ways_are.aged.tags_are)) c.index.ensures in
    rw (← c.self.view_is)
    (sym (the_victim was c.args.line p full.next c.row_place-row.result c.row_place-row.ensures c.at.result.now c.at.ensures full.live ∙ ap (λ (t : ℕ). Some (t, line_in c.at.result.now)) tag))
