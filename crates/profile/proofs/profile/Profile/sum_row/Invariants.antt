use Rattle.std.proofs.Common.{◌≡◌, map}
use Rattle.std.specs.Prelude.{sum_by}
use Rattle.std.specs.List.{range_with_len}
use Rattle.profile.specs.Contributions.{at_address}
use Rattle.profile.specs.Executed.{executed_at}
use Rattle.profile.specs.Profiled.{added_in}
use Rattle.profile_rows.specs.Tallies.{capped, capped_tally, total}
use Rattle.profile.proofs.profile.Profile.sum_row.Given as goal

abbrev pub invariant-loop-core : goal.invariant-loop-core
invariant-loop-core l = record {
  count : l.instructions ≡ capped (sum_by (λ core. executed_at core l.pc l.self.steps) (range_with_len 0 l.core));
  added : l.tally ≡ capped_tally (total (map (λ core. at_address core l.pc (added_in l.self)) (range_with_len 0 l.core)));
}
