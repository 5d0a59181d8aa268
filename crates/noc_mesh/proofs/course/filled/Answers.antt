use Rattle.std.proofs.Common.{◌≡◌, ◌∙◌, ◌+◌, ℕ, suc, max, Bool, true, false, length, ap, ap₂, arith}
use Rattle.noc_mesh.specs.declared.standing.Standing.{Standing}
use Rattle.noc_mesh.specs.NetLaws as near
use Rattle.noc_mesh.specs.NetTiming as timing
use Rattle.noc_mesh.specs.Standings as standings
use Rattle.noc_mesh.proofs.Ways.{near_is, soon_is, goes_is, met_is}
use Rattle.noc_mesh.proofs.course.filled.Goals as goal

pub behind-requires-clause-soon : goal.behind-requires-clause-soon
behind-requires-clause-soon c =
    let back = soon_is (timing.brought c.args.path.now c.args.entry.now c.args.dirty) c.brought-brought.result 45 272896 c.brought-brought.ensures.come (near.brought_near c.args.path.now c.requires c.args.entry.now c.args.dirty) in
    let there = soon_is (timing.missed c.args.path.now c.args.entry.now) c.missed.result 29 203776 c.missed.ensures.come (near.missed_near c.args.path.now c.requires c.args.entry.now) in
    let end : c.not_before.result.end ≡ max c.brought-brought.result.end (c.missed.result.end + c.from.result) = ap (λ (z : Standing). z.end) c.not_before.ensures in
    omega (arith, back, there, end, c.from.ensures, c.requires.controllers.write.1)

pub returns-then-dirty-clause-few : goal.returns-then-dirty-clause-few
returns-then-dirty-clause-few c = (near_is (timing.filled c.args.path.now c.args.entry.now true) c.behind.result 46 338432 (met_is (timing.brought c.args.path.now c.args.entry.now true) (timing.fills c.args.path.now c.args.entry.now) (suc (length (timing.missed c.args.path.now c.args.entry.now).pieces)) ((timing.missed c.args.path.now c.args.entry.now).end + c.args.path.now.controllers.write) c.brought-brought.result c.not_before.result c.behind.result c.from-fill.result (c.brought-brought.ensures.come ∙ ap (λ (d : Bool). standings.standing_of (timing.brought c.args.path.now c.args.entry.now d)) c.if-dirty.true) (c.not_before.ensures ∙ ap (standings.not_before c.brought-brought.result) (ap₂ (λ (a b : ℕ). a + b) (ap (λ (z : Standing). z.end) c.missed.ensures.come) c.from.ensures)) c.from-fill.ensures c.behind.ensures) (near.filled_near c.args.path.now c.requires c.args.entry.now true) (omega arith) (omega arith)).0

pub returns-then-dirty-clause-soon : goal.returns-then-dirty-clause-soon
returns-then-dirty-clause-soon c = (near_is (timing.filled c.args.path.now c.args.entry.now true) c.behind.result 46 338432 (met_is (timing.brought c.args.path.now c.args.entry.now true) (timing.fills c.args.path.now c.args.entry.now) (suc (length (timing.missed c.args.path.now c.args.entry.now).pieces)) ((timing.missed c.args.path.now c.args.entry.now).end + c.args.path.now.controllers.write) c.brought-brought.result c.not_before.result c.behind.result c.from-fill.result (c.brought-brought.ensures.come ∙ ap (λ (d : Bool). standings.standing_of (timing.brought c.args.path.now c.args.entry.now d)) c.if-dirty.true) (c.not_before.ensures ∙ ap (standings.not_before c.brought-brought.result) (ap₂ (λ (a b : ℕ). a + b) (ap (λ (z : Standing). z.end) c.missed.ensures.come) c.from.ensures)) c.from-fill.ensures c.behind.ensures) (near.filled_near c.args.path.now c.requires c.args.entry.now true) (omega arith) (omega arith)).1

pub returns-else-dirty-clause-few : goal.returns-else-dirty-clause-few
returns-else-dirty-clause-few c = (near_is (timing.filled c.args.path.now c.args.entry.now false) c.behind-else-dirty.result 46 338432 (goes_is (timing.brought c.args.path.now c.args.entry.now false) (timing.fills c.args.path.now c.args.entry.now) c.brought-brought.result c.behind-else-dirty.result c.from-fill.result (c.brought-brought.ensures.come ∙ ap (λ (d : Bool). standings.standing_of (timing.brought c.args.path.now c.args.entry.now d)) c.if-dirty.false) c.from-fill.ensures c.behind-else-dirty.ensures) (near.filled_near c.args.path.now c.requires c.args.entry.now false) (omega arith) (omega arith)).0

pub returns-else-dirty-clause-soon : goal.returns-else-dirty-clause-soon
returns-else-dirty-clause-soon c = (near_is (timing.filled c.args.path.now c.args.entry.now false) c.behind-else-dirty.result 46 338432 (goes_is (timing.brought c.args.path.now c.args.entry.now false) (timing.fills c.args.path.now c.args.entry.now) c.brought-brought.result c.behind-else-dirty.result c.from-fill.result (c.brought-brought.ensures.come ∙ ap (λ (d : Bool). standings.standing_of (timing.brought c.args.path.now c.args.entry.now d)) c.if-dirty.false) c.from-fill.ensures c.behind-else-dirty.ensures) (near.filled_near c.args.path.now c.requires c.args.entry.now false) (omega arith) (omega arith)).1
