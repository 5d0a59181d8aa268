use Rattle.std.proofs.Common.{◌∙◌, arith}
use Rattle.rv_blocks.specs.Slots.{Stretch, does}
use Rattle.rv_blocks.proofs.Standing.{nothing_written, sets_stand}
use Rattle.rv_blocks.proofs.dense.constant.Goals as goal

pub nothing-requires-clause-nothing : goal.nothing-requires-clause-nothing
nothing-requires-clause-nothing c core registers =
    let stretch : Stretch = record { first = c.args.first; count = c.args.count } in
    c.requires.gives core registers
    ∙ nothing_written stretch c.args.place core registers c.args.inst.now.rd c.args.value (omega (arith, c.if-inst-eq0.true)) (omega (arith, c.requires.place, c.requires.memory))

pub returns-clause-does : goal.returns-clause-does
unfolding does
returns-clause-does c core registers =
    let stretch : Stretch = record { first = c.args.first; count = c.args.count } in
    c.requires.gives core registers ∙ sets_stand stretch c.args.place core registers c.args.inst.now.rd c.args.value (omega (arith, c.requires.place, c.requires.memory))
