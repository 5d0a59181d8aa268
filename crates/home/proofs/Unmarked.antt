-- Where no core has a mark, a write ends none.
use Rattle.std.proofs.Common.{◌≡◌, ℕ, ◌+◌, ◌==◌, ◌&&◌, ◌||◌, true, false, not, List, [], ◌∷◌, Option, Some, None, is_some, cond, map, refl, ap, arith}
use Rattle.std.specs.List.{count_by, enumerate_from, list_any}
use Rattle.std.proofs.lemmas.List.Sums.{sum_by-cons}
use Rattle.flat_memory.specs.declared.reservation.Reservation.{Reservation}
use Rattle.flat_memory.specs.FlatMemory.{after_write, unless_written}
use Rattle.home.specs.HomeState.{is_marked_by_others, is_on_line}

counted : (mark : Option Reservation) (marks : List (Option Reservation)) → count_by is_some (mark ∷ marks) ≡ cond (is_some mark) 1 0 + count_by is_some marks
counted mark marks = sum_by-cons (λ (m : Option Reservation). cond (is_some m) 1 0) mark marks

unmarked_from : (core addr n : ℕ) (marks : List (Option Reservation)) → count_by is_some marks ≡ 0
    → map (λ (at : ℕ × Option Reservation). unless_written (at.0 == core) addr at.1) (enumerate_from n marks) ≡ marks
unmarked_from core addr n [] h = refl
unmarked_from core addr n (None ∷ marks) h =
    let rest : count_by is_some (None ∷ marks) ≡ 0 + count_by is_some marks = counted None marks in
    ap (λ (others : List (Option Reservation)). None ∷ others) (unmarked_from core addr (n + 1) marks (omega arith))
unmarked_from core addr n (Some r ∷ marks) h =
    let one : count_by is_some (Some r ∷ marks) ≡ 1 + count_by is_some marks = counted (Some r) marks in absurd (omega arith)

pub unmarked_stay : (core addr : ℕ) (marks : List (Option Reservation)) → count_by is_some marks ≡ 0 → after_write core addr marks ≡ marks
unfolding after_write
unmarked_stay core addr marks h = unmarked_from core addr 0 marks h

-- nor does one stand on a line
unmarked_on_from : (core line n : ℕ) (marks : List (Option Reservation)) → count_by is_some marks ≡ 0
    → list_any (λ (at : ℕ × Option Reservation). not (at.0 == core) && is_on_line line at.1) (enumerate_from n marks) ≡ false
unmarked_on_from core line n [] h = refl
unmarked_on_from core line n (None ∷ marks) h =
    let one : count_by is_some (None ∷ marks) ≡ 0 + count_by is_some marks = counted None marks in
    let rest = unmarked_on_from core line (n + 1) marks (omega arith) in
    elim (not (n == core)) as (λ b. ((b && false) || list_any (λ (at : ℕ × Option Reservation). not (at.0 == core) && is_on_line line at.1) (enumerate_from (n + 1) marks)) ≡ false) [
      | true ↦ rest
      | false ↦ rest
    ]
unmarked_on_from core line n (Some r ∷ marks) h =
    let one : count_by is_some (Some r ∷ marks) ≡ 1 + count_by is_some marks = counted (Some r) marks in absurd (omega arith)

pub unmarked_on : (core line : ℕ) (marks : List (Option Reservation)) → count_by is_some marks ≡ 0 → is_marked_by_others marks core line ≡ false
unfolding is_marked_by_others
unmarked_on core line marks h = unmarked_on_from core line 0 marks h
