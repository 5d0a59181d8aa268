-- no leg from here on made an access
use Rattle.std.proofs.Common.{◌≡◌, ◌≤◌, ℕ, false, length, Some}
use Rattle.std.specs.Prelude.{slice_get}
use Rattle.rv_core.specs.declared.leg.Leg.{Leg}
use Rattle.trace.proofs.telling.legs_made.Given as goal

abbrev pub invariant-loop-count : goal.invariant-loop-count
invariant-loop-count l = record {
  within : l.count ≤ length l.way;
  behind : (i : ℕ) (leg : Leg) → l.count ≤ i → slice_get l.way i ≡ Some leg → leg.made ≡ false;
}

abbrev pub decreases-loop-count : goal.decreases-loop-count
decreases-loop-count l = l.count
