use Rattle.std.proofs.Common.{◌≡◌, ◌≤◌, [], count_by}
use Rattle.std.specs.List.{range_with_len}
use Rattle.profile.specs.Copies.{has_other}
use Rattle.profile.specs.CopyTables.{copies_in}
use Rattle.profile.proofs.copies.others.Given as goal

abbrev pub invariant-loop-other : goal.invariant-loop-other
invariant-loop-other l = record {
  counted : l.count ≡ count_by (has_other (copies_in l.of_data.items []) l.core l.line) (range_with_len 0 l.other);
  few : l.count ≤ l.other;
}
