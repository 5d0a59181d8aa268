use Rattle.std.proofs.Common.{◌≡◌, map, drop}
use Rattle.toml.specs.View.{table_view}
use Rattle.machine_desc.specs.Description.{checks_refusal}
use Rattle.machine_desc.specs.Rows.{check_of}
use Rattle.machine_desc.proofs.checks.check_keys.Given as goal

abbrev pub invariant-loop-check : goal.invariant-loop-check
invariant-loop-check l =
    checks_refusal (table_view l.document) (map check_of l.checks) ≡ checks_refusal (table_view l.document) (map check_of (drop l.check-index l.checks))
