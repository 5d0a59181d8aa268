use Rattle.std.proofs.Common.{◌≡◌, map}
use Rattle.toml.specs.View.{members_view, table_view}
use Rattle.machine_desc.specs.Description.{members_refusal}
use Rattle.machine_desc.proofs.Least.{first_unknown}
use Rattle.machine_desc.specs.Rows.{check_of}
use Rattle.machine_desc.proofs.unknown.check_members.Given as goal

abbrev pub invariant-loop-name : goal.invariant-loop-name
invariant-loop-name l =
    members_refusal (map check_of l.checks) l.table (table_view l.fn.members) ≡ first_unknown (map check_of l.checks) l.table (members_view l.name-iterator)
