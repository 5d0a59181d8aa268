use Rattle.std.proofs.Common.{◌≡◌, ◌+◌, ◌-◌, ◌*◌, ◌∙◌, None, arith, refl, sym}
use Rattle.rv_blocks.specs.Slots.{Stretch}
use Rattle.rv_blocks.proofs.Standing.{stands_at}
use Rattle.rv_blocks.proofs.Steps.{led_as, led_together}
use Rattle.rv_blocks.proofs.decoded_program.DecodedProgramProgram.run_blocks.Goals as goal

pub returns-clause-ran : goal.returns-clause-ran
returns-clause-ran c =
    let inside = c.self.inside in
    let image = inside.image.now in
    let stretch : Stretch = record { first = inside.first; count = c.len.result } in
    let blocks = c.by_blocks in
    let last = c.run_last in
    let from = inside.first + 4 * c.in-Some.place in
    let here : c.args.pc ≡ from = stands_at stretch c.args.pc c.in-Some.place (sym c.place_of.ensures.value ∙ c.in-Some.is) in
    let m = c.args.most - blocks.result.rest.left in
    let n = last.result.count - m in
    let all : last.result.count ≡ n + m = omega (arith, last.ensures.more) in
    led_as None image c.args.self.now (n + m) last.result.count c.args.registers.now last.new.x from c.args.pc last.result.pc last.result.pc c.self.view_is all here refl
    (led_together None image c.args.registers.now blocks.new.x last.new.x from (inside.first + 4 * blocks.result.rest.place) last.result.pc m n blocks.ensures.ran last.ensures.ran)
