-- The crossings out of each event, as chains.
use Rattle.std.specs.Prelude.{◌≡◌, ◌≤◌, ◌<◌, ◌+◌, ℕ, List, length, Some, slice_get, slice_index}
use Rattle.domain_map.specs.declared.crossing.Crossing.{Crossing}
use Rattle.weave_run.specs.declared.outgoing.Outgoing.{Outgoing}

-- the last crossing out of an event below a number, and 1; or 0 where there is none
pub record IsLastBelow (crossings : List Crossing) (most parent link : ℕ) : Type 0 where
  pub below : link ≤ most
  pub there : (number : ℕ) → link ≡ number + 1 → (x : Crossing) × (slice_get crossings number ≡ Some x) × (x.parent ≡ parent)
  pub none_behind : (number : ℕ) (x : Crossing) → link ≤ number → number < most → slice_get crossings number ≡ Some x → x.parent ≡ parent → ⊥

-- each event has its last crossing, and each crossing the one before it
pub record AreCrossingsLinked (crossings : List Crossing) (last before : List ℕ) : Type 0 where
  pub lasts : (parent : ℕ) → parent < length last → IsLastBelow crossings (length crossings) parent (slice_index last parent)
  pub befores : (number : ℕ) (x : Crossing) → slice_get crossings number ≡ Some x → IsLastBelow crossings number x.parent (slice_index before number)

pub record AreOutgoing (crossings : List Crossing) (events : ℕ) (o : Outgoing) : Type 0 where
  pub linked : AreCrossingsLinked crossings o.last.items o.before.items
  pub events_are : length o.last.items ≡ events
  pub crossings_are : length o.before.items ≡ length crossings
