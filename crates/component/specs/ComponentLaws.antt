-- The laws of a component: what a step keeps, and when events finish.
use Rattle.std.specs.Prelude.{◌≡◌, ◌+◌, ◌≤◌, ℕ, Bool, IsTrue}
use Rattle.component.specs.declared.kind.Kind.{Kind}

-- whether a component serves a kind; the least time from an event's start to its finish; the component after an event
-- of a kind that starts then, and the event's finish; and the greatest sum of that step
abbrev pub Serves : Type 0 → Type 0
Serves C = C → Kind → Bool

abbrev pub Floor : Type 0 → Type 0
Floor C = C → Kind → ℕ

abbrev pub Stepped : Type 0 → Type 0
Stepped C = C → Kind → (start : ℕ) → C × ℕ

abbrev pub Greatest : Type 0 → Type 0
Greatest C = C → Kind → (start : ℕ) → ℕ

-- a floor is a cycle at least
abbrev pub FloorAtLeastOne : {C : Type 0} → Serves C → Floor C → Type 0
FloorAtLeastOne {C} serves floor = (c : C) (kind : Kind) → IsTrue (serves c kind) → 1 ≤ floor c kind

-- no event finishes before its start and the floor
abbrev pub FloorHolds : {C : Type 0} → Serves C → Floor C → Stepped C → Type 0
FloorHolds {C} serves floor stepped =
    (c : C) (kind : Kind) (start : ℕ) → IsTrue (serves c kind) → start + floor c kind ≤ (stepped c kind start).1

-- a step changes neither what is served nor the floors
abbrev pub ServesStays : {C : Type 0} → Serves C → Stepped C → Type 0
ServesStays {C} serves stepped =
    (c : C) (kind : Kind) (start : ℕ) (other : Kind) → IsTrue (serves c kind)
    → serves (stepped c kind start).0 other ≡ serves c other

abbrev pub FloorStays : {C : Type 0} → Serves C → Floor C → Stepped C → Type 0
FloorStays {C} serves floor stepped =
    (c : C) (kind : Kind) (start : ℕ) (other : Kind) → IsTrue (serves c kind)
    → floor (stepped c kind start).0 other ≡ floor c other

-- the finish is no more than the greatest sum
abbrev pub FinishWithinGreatest : {C : Type 0} → Serves C → Stepped C → Greatest C → Type 0
FinishWithinGreatest {C} serves stepped greatest =
    (c : C) (kind : Kind) (start : ℕ) → IsTrue (serves c kind) → (stepped c kind start).1 ≤ greatest c kind start
