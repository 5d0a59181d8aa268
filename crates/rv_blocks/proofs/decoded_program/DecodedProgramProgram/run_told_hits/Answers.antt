use Rattle.std.proofs.Common.{◌≡◌, ◌+◌, ◌*◌, ◌∙◌, refl, sym}
use Rattle.rv_core.proofs.Nowhere.{told_nowhere}
use Rattle.rv_blocks.specs.Slots.{Stretch}
use Rattle.rv_blocks.proofs.Standing.{stands_at}
use Rattle.rv_blocks.proofs.decoded_program.DecodedProgramProgram.run_told_hits.Goals as goal

pub returns-in-None-Some-clause-gone : goal.returns-in-None-Some-clause-gone
returns-in-None-Some-clause-gone g c =
    let inside = c.self.inside in
    let place = c.in-None-Some.place in
    let stretch : Stretch = record { first = inside.first; count = c.len.result } in
    let here : c.args.pc ≡ inside.first + 4 * place = stands_at stretch c.args.pc place (sym c.place_of.ensures.value ∙ c.in-None-Some.is-1) in
    let came = c.came_by.ensures in
    rw (here, c.in-None-Some.is-0, sym c.self.view_is, came.accesses, came.pc, came.line, c.by_told_hits-gone.ensures.line, came.clock, came.count) c.by_told_hits-gone.ensures.gone

pub returns-in-Some-Some-clause-gone : goal.returns-in-Some-Some-clause-gone
returns-in-Some-Some-clause-gone g c =
    let inside = c.self.inside in
    let place = c.in-Some-Some.place in
    let stretch : Stretch = record { first = inside.first; count = c.len.result } in
    let here : c.args.pc ≡ inside.first + 4 * place = stands_at stretch c.args.pc place (sym c.place_of.ensures.value ∙ c.in-Some-Some.is-1) in
    let came = c.came_by-in-Some-Some.ensures in
    rw (here, c.in-Some-Some.is-0, sym c.self.view_is, came.accesses, came.pc, came.line, came.clock, came.count) c.by_told_lines-gone.ensures.gone

pub returns-in_default-clause-gone : goal.returns-in_default-clause-gone
returns-in_default-clause-gone g c =
    let at = c.nowhere.ensures in
    told_nowhere c.args.self.now c.args.memory.now c.args.stint.now g.Q.Port.gives g.Q.Port.core g.Q.Port.logged g.Q.Port.room
    c.args.way.now.items c.nowhere.result.accesses _ _ at.accesses refl at.pc at.line at.clock at.count refl c.requires.begins
