-- The place is between the two.
use Rattle.std.proofs.Common.{ℕ, ◌≡◌, ◌<◌, ◌≤◌, ◌-◌, length, slice_get, Some}
use Rattle.weave_core.specs.declared.incoming.Stub.{Stub}
use Rattle.weave_core.proofs.incoming.place_of.Given as goal

abbrev pub invariant-loop-high : goal.invariant-loop-high
invariant-loop-high l = record {
  between : (place : ℕ) (s : Stub) → slice_get l.stubs place ≡ Some s → s.number ≡ l.crossing → (l.low ≤ place) × (place < l.high);
  some : l.low < l.high;
  within : l.high ≤ length l.stubs;
}

abbrev pub decreases-loop-high : goal.decreases-loop-high
decreases-loop-high l = l.high - l.low
