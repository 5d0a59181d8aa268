-- A new shard is the one of its number.
use Rattle.std.proofs.Common.{sym, subst}
use Rattle.table_tests.specs.Tested.{IsOf}
use Rattle.table_tests.proofs.Asking.{new_is}
use Rattle.table_tests.proofs.tested.shard_of.Goals as goal

pub returns : goal.returns
returns c =
    let machine = c.args.machine.now in
    subst (IsOf machine.l2.banks c.args.number) (sym c.in_ok-shard.ensures)
    (new_is machine c.args.image.now c.args.number c.requires.cores c.requires.base.1 c.requires.size.1)
