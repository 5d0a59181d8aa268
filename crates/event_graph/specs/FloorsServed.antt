-- Components that serve with the floors of an expansion.
use Rattle.std.specs.Prelude.{◌≡◌, ℕ, Bool, IsTrue, List, Option, Some, slice_get}
use Rattle.component.specs.declared.kind.Kind.{Kind}

-- the component of this number is there, and serves the kind with this floor
pub record ServesWith {C : Type 0} (serves : C → Kind → Bool) (floor : C → Kind → ℕ) (comps : List C) (number : ℕ) (kind : Kind) (time : ℕ) : Type 0 where
  pub component : C
  pub there : slice_get comps number ≡ Some component
  pub served : IsTrue (serves component kind)
  pub floor_is : floor component kind ≡ time

-- these components have such floors
abbrev pub AreFloorsOf : {C : Type 0} → (floors : ℕ → Kind → Option ℕ) → (C → Kind → Bool) → (C → Kind → ℕ) → List C → Type 0
AreFloorsOf floors serves floor comps = (number : ℕ) (kind : Kind) (time : ℕ) → floors number kind ≡ Some time → ServesWith serves floor comps number kind time
