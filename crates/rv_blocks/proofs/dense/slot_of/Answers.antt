use Rattle.std.proofs.Common.{arith, subst, sym}
use Rattle.rv_blocks.specs.Slots.{Stretch, GivesNumber}
use Rattle.rv_blocks.proofs.Standing.{auipc_gives, fence_changes_nothing, lui_gives}
use Rattle.rv_blocks.proofs.dense.slot_of.Goals as goal

pub constant-requires-clause-gives : goal.constant-requires-clause-gives
constant-requires-clause-gives c =
    let stretch : Stretch = record { first = c.args.first; count = c.args.count } in
    subst (λ value. GivesNumber c.args.inst.now value stretch c.args.place) (sym c.immediate.ensures) (lui_gives c.args.inst.now stretch c.args.place c.in-Lui.is)

pub constant-requires-in-Auipc-clause-gives : goal.constant-requires-in-Auipc-clause-gives
constant-requires-in-Auipc-clause-gives c =
    let stretch : Stretch = record { first = c.args.first; count = c.args.count } in
    subst (λ value. GivesNumber c.args.inst.now value stretch c.args.place) (sym c.relative.ensures) (auipc_gives c.args.inst.now stretch c.args.place c.in-Auipc.is)

pub nothing-requires-clause-nothing : goal.nothing-requires-clause-nothing
nothing-requires-clause-nothing c =
    let stretch : Stretch = record { first = c.args.first; count = c.args.count } in
    fence_changes_nothing c.args.inst.now stretch c.args.place c.in-Fence.is (omega (arith, c.requires.place, c.requires.memory))
