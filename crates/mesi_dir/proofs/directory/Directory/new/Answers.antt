use Rattle.std.proofs.Common.{arith}
use Rattle.mesi_dir.proofs.Rows.{rows_empty}
use Rattle.mesi_dir.proofs.directory.Directory.new.Goals as goal

pub invariant_of-result : goal.invariant_of-result
invariant_of-result c =
    rw (c.in_ok-with_capacity.ensures.items, c.in_ok-with_capacity-2.ensures.items)
    (rows_empty c.args.lines c.args.cores _ _ (omega arith) (omega (arith, c.in_ok-with_capacity.ensures.exact)) (omega (arith, c.in_ok-with_capacity-2.ensures.exact)))
