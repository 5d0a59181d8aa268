use Rattle.std.proofs.Common.{rules}
use Rattle.machine_desc.proofs.Passed.{passed_then}
use Rattle.machine_desc.proofs.unknown.check_names.Goals as goal

pub returns : goal.returns
returns c = rw (passed_then _ _ _ c.in_ok-check_table.ensures) (search rules)
