use Rattle.std.proofs.Common.{◌≡◌, ◌<◌, ◌≤◌, ◌-◌, ◌^◌, ℕ, List, false}
use Rattle.profile.specs.declared.contribution.Contribution.{Contribution}
use Rattle.profile.specs.Rows.{AreRows, has_line}
use Rattle.profile.proofs.rows.Rows.next_line.Given as goal

abbrev pub invariant-loop-line : goal.invariant-loop-line
invariant-loop-line l = record {
  behind : l.from ≤ l.at;
  passed : (cs : List Contribution) → AreRows cs l.self.addresses.items l.self.lines.items → (n : ℕ) → l.from ≤ n → n < l.at → has_line cs l.core n ≡ false;
}

abbrev pub decreases-loop-line : goal.decreases-loop-line
decreases-loop-line l = 2 ^ 64 - l.at
