use Rattle.std.proofs.Common.{◌++◌, List, map}
use Rattle.std.specs.List.{filter, range_with_len}
use Rattle.zs_num.specs.Request.{line_of}
use Rattle.profile.specs.declared.contribution.Contribution.{Contribution}
use Rattle.profile.specs.Contributions.{suffers}
use Rattle.profile.specs.Copies.{has_other}
use Rattle.profile.specs.CopyTables.{copies_in}
use Rattle.profile.specs.Rows.{AreRows}
use Rattle.profile.proofs.suffered.add_suffered.Given as goal

abbrev pub invariant-loop-other : goal.invariant-loop-other
invariant-loop-other l =
    (cs : List Contribution) → AreRows cs l.initial.rows.addresses.items l.initial.rows.lines.items
    → AreRows (cs ++ map (suffers l.entry) (filter (has_other (copies_in l.copies.of_data.items l.copies.of_instructions.items) l.entry.core (line_of l.entry.request)) (range_with_len 0 l.other))) l.rows.addresses.items l.rows.lines.items
