use Rattle.std.proofs.Common.{◌≡◌, map, rules}
use Rattle.machine_desc.specs.Rows.{check_of}
use Rattle.machine_desc.proofs.Least.{members_refusal-first}
use Rattle.machine_desc.proofs.unknown.check_members.Goals as goal

pub loop-name-init : goal.loop-name-init
loop-name-init c =
    let first = members_refusal-first (map check_of c.args.checks.now) c.args.table.now c.args.members.now.entries c.iter-name-items.ensures.ordered in
    let whole : c.into_iter-name-iterator.result ≡ c.args.members.now.entries = search rules in
    rw whole first
