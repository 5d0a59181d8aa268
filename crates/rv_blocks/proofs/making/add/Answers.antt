use Rattle.std.proofs.Common.{subst, sym}
use Rattle.rv_blocks.specs.Slots.{Stretch, AreMeantSoFar, IsMeant}
use Rattle.rv_blocks.proofs.Lists.{each_after_push}
use Rattle.rv_blocks.proofs.making.add.Goals as goal

pub returns-clause-meant : goal.returns-clause-meant
returns-clause-meant c =
    let stretch : Stretch = record { first = c.args._first; count = c.args._count } in
    subst (AreMeantSoFar c.args._image.now stretch) (sym c.push_reserved.ensures.items)
    (each_after_push (IsMeant c.args._image.now stretch) c.args.slots.now.items c.args.slot c.requires.slot c.requires.meant)
