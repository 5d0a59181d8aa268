use Rattle.std.proofs.Common.{◌≡◌, ◌<◌, ◌≤◌, ◌-◌, ◌^◌, ℕ, false}
use Rattle.profile.specs.Profiled.{has_address}
use Rattle.profile.proofs.profile.Profile.next_address.Given as goal

abbrev pub invariant-loop-pc : goal.invariant-loop-pc
invariant-loop-pc l = record {
  behind : l.from ≤ l.at;
  passed : (n : ℕ) → l.from ≤ n → n < l.at → has_address l.self l.core n ≡ false;
}

abbrev pub decreases-loop-pc : goal.decreases-loop-pc
decreases-loop-pc l = 2 ^ 64 - l.at
