use Rattle.std.proofs.Common.{◌≡◌, map, drop}
use Rattle.machine_desc.specs.Description.{is_known}
use Rattle.machine_desc.specs.Rows.{check_of}
use Rattle.machine_desc.proofs.unknown.is_known.Given as goal

abbrev pub invariant-loop-check : goal.invariant-loop-check
invariant-loop-check l =
    is_known (map check_of l.checks) l.table l.name ≡ is_known (map check_of (drop l.check-index l.checks)) l.table l.name
