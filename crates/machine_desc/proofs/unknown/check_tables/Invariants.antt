use Rattle.std.proofs.Common.{◌≡◌, map, drop}
use Rattle.toml.specs.View.{table_view}
use Rattle.machine_desc.specs.Description.{tables_refusal}
use Rattle.machine_desc.specs.Rows.{check_of}
use Rattle.machine_desc.proofs.unknown.check_tables.Given as goal

abbrev pub invariant-loop-check : goal.invariant-loop-check
invariant-loop-check l =
    tables_refusal (table_view l.document) (map check_of l.checks) (map check_of l.checks)
    ≡ tables_refusal (table_view l.document) (map check_of l.checks) (map check_of (drop l.check-index l.checks))
