-- What holds of the events of an access, by their places.
use Rattle.std.specs.Prelude.{◌≡◌, ◌+◌, ◌-◌, ◌<◌, ◌≤◌, ℕ, List, length, Option, None, Some, IsSome, ◌⊎◌, slice_get}
use Rattle.component.specs.declared.kind.Kind.{Kind}
use Rattle.event_graph.specs.declared.piece.Piece.{Piece}

-- parents have smaller places
pub record ParentsComeBefore (pieces : List Piece) : Type 0 where
  pub first : (k : ℕ) (p : Piece) (i : ℕ) → slice_get pieces k ≡ Some p → p.first ≡ Some i → i < k
  pub second : (k : ℕ) (p : Piece) (i : ℕ) → slice_get pieces k ≡ Some p → p.second ≡ Some i → i < k

-- place 0 has no parent, and each later place has one at least
pub record OnlyFirstStartsAlone (pieces : List Piece) : Type 0 where
  pub alone : (p : Piece) → slice_get pieces 0 ≡ Some p → (p.first ≡ None) × (p.second ≡ None)
  pub waits : (k : ℕ) (p : Piece) → 0 < k → slice_get pieces k ≡ Some p → IsSome p.first ⊎ IsSome p.second

-- an event starts when its parents have finished, or later
pub record ParentsFinishBefore (pieces : List Piece) : Type 0 where
  pub first : (k : ℕ) (p : Piece) (i : ℕ) (q : Piece) → slice_get pieces k ≡ Some p → p.first ≡ Some i → slice_get pieces i ≡ Some q → q.offset + q.time ≤ p.offset
  pub second : (k : ℕ) (p : Piece) (i : ℕ) (q : Piece) → slice_get pieces k ≡ Some p → p.second ≡ Some i → slice_get pieces i ≡ Some q → q.offset + q.time ≤ p.offset

-- the last event ends at this time, and no other ends later
pub record EndsAt (pieces : List Piece) (time : ℕ) : Type 0 where
  pub last : (p : Piece) → slice_get pieces (length pieces - 1) ≡ Some p → p.offset + p.time ≡ time
  pub each : (k : ℕ) (p : Piece) → slice_get pieces k ≡ Some p → p.offset + p.time ≤ time

-- each event's component serves its kind, with the event's time as floor
abbrev pub HaveFloors : (floors : ℕ → Kind → Option ℕ) → List Piece → Type 0
HaveFloors floors pieces = (k : ℕ) (p : Piece) → slice_get pieces k ≡ Some p → floors p.component p.kind ≡ Some p.time
