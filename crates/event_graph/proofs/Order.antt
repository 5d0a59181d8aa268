-- The order by (start, number).
use Rattle.std.proofs.Common.{◌≡◌, ◌<◌, ◌≤◌, ℕ, true, false, ◌⊎◌, arith}
use Rattle.std.proofs.lemmas.Bool.Decides.{nat_tests}
use Rattle.event_graph.specs.declared.event.Event.{Event}
use Rattle.event_graph.specs.OneListWeave.{is_event_before}

pub before_by_start : (a : Event) (s : ℕ) (b : Event) (t : ℕ) → s < t → is_event_before a s b t ≡ true
before_by_start a s b t h = grind (arith, nat_tests)

pub before_cases : (a : Event) (s : ℕ) (b : Event) (t : ℕ) → is_event_before a s b t ≡ true → (s < t) ⊎ ((s ≡ t) × (a.number < b.number))
before_cases a s b t h = grind (arith, nat_tests)

pub not_before_cases : (a : Event) (s : ℕ) (b : Event) (t : ℕ) → is_event_before a s b t ≡ false → (t < s) ⊎ ((s ≡ t) × (b.number ≤ a.number))
not_before_cases a s b t h = grind (arith, nat_tests)

pub before_trans : (a : Event) (s : ℕ) (b : Event) (t : ℕ) (c : Event) (u : ℕ) → is_event_before a s b t ≡ true → is_event_before b t c u ≡ true → is_event_before a s c u ≡ true
before_trans a s b t c u h k = grind (arith, nat_tests)

pub before_not_after : (a : Event) (s : ℕ) (b : Event) (t : ℕ) → is_event_before a s b t ≡ true → is_event_before b t a s ≡ true → ⊥
before_not_after a s b t h k = grind (arith, nat_tests)

pub not_before_trans : (a : Event) (s : ℕ) (b : Event) (t : ℕ) (c : Event) (u : ℕ) → is_event_before a s b t ≡ false → is_event_before b t c u ≡ false → is_event_before a s c u ≡ false
not_before_trans a s b t c u h k = grind (arith, nat_tests)

pub not_before_itself : (a : Event) (s : ℕ) → is_event_before a s a s ≡ false
not_before_itself a s = grind (arith, nat_tests)

pub not_before_from : (a : Event) (s : ℕ) (b : Event) (t : ℕ) → is_event_before a s b t ≡ true → is_event_before b t a s ≡ false
not_before_from a s b t h = grind (arith, nat_tests)

pub before_from_not : (a : Event) (s : ℕ) (b : Event) (t : ℕ) → is_event_before b t a s ≡ false → (a.number ≡ b.number → ⊥) → is_event_before a s b t ≡ true
before_from_not a s b t h k = grind (arith, nat_tests)

pub start_from_before : (a : Event) (s : ℕ) (b : Event) (t : ℕ) → is_event_before a s b t ≡ true → s ≤ t
start_from_before a s b t h = grind (arith, nat_tests)

pub before_by_number : (a : Event) (s : ℕ) (b : Event) (t : ℕ) → s ≡ t → a.number < b.number → is_event_before a s b t ≡ true
before_by_number a s b t h k = grind (arith, nat_tests)
