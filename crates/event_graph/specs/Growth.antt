-- How far the cycles of a weave can reach.
use Rattle.std.specs.Prelude.{◌≡◌, ◌≤◌, ◌+◌, ℕ, max, Bool, IsTrue, List, slice_get, Some}
use Rattle.component.specs.declared.kind.Kind.{Kind}

-- A step of a paced component computes at most `most` above the later of the start and the cycle until which the
-- component is busy, and leaves it paced and busy until then at most.
pub record IsPaced {C : Type 0} (serves : C → Kind → Bool) (stepped : C → Kind → ℕ → C × ℕ) (greatest : C → Kind → ℕ → ℕ) (paced : C → Bool) (busy : C → ℕ) (most : ℕ) : Type 0 where
  pub sum : (c : C) (kind : Kind) (start : ℕ) → IsTrue (paced c) → IsTrue (serves c kind) → greatest c kind start ≤ max start (busy c) + most
  pub stays : (c : C) (kind : Kind) (start : ℕ) → IsTrue (paced c) → IsTrue (serves c kind) → IsTrue (paced (stepped c kind start).0)
  pub next : (c : C) (kind : Kind) (start : ℕ) → IsTrue (paced c) → IsTrue (serves c kind) → busy (stepped c kind start).0 ≤ max start (busy c) + most

-- at the start each component is paced, and busy until `base` at most
abbrev pub BeginBy : {C : Type 0} → (C → Bool) → (C → ℕ) → ℕ → List C → Type 0
BeginBy {C} paced busy base comps = (i : ℕ) (c : C) → slice_get comps i ≡ Some c → IsTrue (paced c) × (busy c ≤ base)
