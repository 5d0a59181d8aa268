-- so many places from this one on name the same core
use Rattle.std.proofs.Common.{◌≡◌, ◌+◌, ◌-◌, ◌<◌, ◌≤◌, ◌++◌, get_or, length, take}
use Rattle.std.specs.Prelude.{replicate}
use Rattle.trace.proofs.turns.stretch.Given as goal

abbrev pub invariant-loop-count : goal.invariant-loop-count
invariant-loop-count l = record {
  some : 0 < l.count;
  within : l.place + l.count ≤ length l.turns;
  same : take (l.place + l.count) l.turns ≡ take l.place l.turns ++ replicate l.count (get_or l.turns l.place 0);
}

abbrev pub decreases-loop-count : goal.decreases-loop-count
decreases-loop-count l = length l.turns - (l.place + l.count)
