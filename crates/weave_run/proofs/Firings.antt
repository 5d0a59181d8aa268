-- Which events are among those that fired.
use Rattle.std.proofs.Common.{◌≡◌, ◌<◌, ℕ, zero, suc, length, slice_get, ◌∙◌, Bool, true, false, cond, eqb, List, [], ◌∷◌, ◌++◌, Some, None, is_some, ap, refl, arith}
use Rattle.std.proofs.lemmas.Bool.{false≢true, ne_eqb}
use Rattle.std.proofs.lemmas.Option.{same_Some, none-some}
use Rattle.std.proofs.lemmas.Bool.Decides.{nat_tests}
use Rattle.event_graph.specs.OneListWeave.{FiredEvent, find_fired, is_fired}

pub fired_by_more : (xs ys : List FiredEvent) (n : ℕ) → is_fired xs n ≡ true → is_fired (xs ++ ys) n ≡ true
fired_by_more [] ys n h = absurd (false≢true h)
fired_by_more (x ∷ xs) ys n h = by_test (eqb x.event.number n) (fired_by_more xs ys n) h
  where
    by_test : (t : Bool) → (is_fired xs n ≡ true → is_fired (xs ++ ys) n ≡ true) → is_some (cond t (Some x) (find_fired xs n)) ≡ true → is_some (cond t (Some x) (find_fired (xs ++ ys) n)) ≡ true
    by_test true rest h = refl
    by_test false rest h = rest h

pub fired_last : (xs : List FiredEvent) (x : FiredEvent) (n : ℕ) → x.event.number ≡ n → is_fired (xs ++ x ∷ []) n ≡ true
fired_last [] x n e = ap (λ (t : Bool). is_some (cond t (Some x) None)) (let t : eqb x.event.number n ≡ true = grind (arith, nat_tests) in t)
fired_last (y ∷ xs) x n e = by_test (eqb y.event.number n) (fired_last xs x n e)
  where
    by_test : (t : Bool) → is_fired (xs ++ x ∷ []) n ≡ true → is_some (cond t (Some y) (find_fired (xs ++ x ∷ []) n)) ≡ true
    by_test true h = refl
    by_test false h = h

pub fired_no_other : (xs : List FiredEvent) (x : FiredEvent) (n : ℕ) → (x.event.number ≡ n → ⊥) → is_fired (xs ++ x ∷ []) n ≡ is_fired xs n
fired_no_other [] x n other = ap (λ (t : Bool). is_some (cond t (Some x) None)) (ne_eqb x.event.number n other)
fired_no_other (y ∷ xs) x n other = by_test (eqb y.event.number n) (fired_no_other xs x n other)
  where
    by_test : (t : Bool) → is_fired (xs ++ x ∷ []) n ≡ is_fired xs n → is_some (cond t (Some y) (find_fired (xs ++ x ∷ []) n)) ≡ is_some (cond t (Some y) (find_fired xs n))
    by_test true h = refl
    by_test false h = h

-- an event that stands somewhere is among them, and one that is among them stands somewhere
pub is_fired_at : (xs : List FiredEvent) (i : ℕ) (y : FiredEvent) (n : ℕ) → slice_get xs i ≡ Some y → y.event.number ≡ n → is_fired xs n ≡ true
is_fired_at [] i y n h e = absurd (none-some y h)
is_fired_at (x ∷ xs) zero y n h e =
    let number : x.event.number ≡ n = ap (λ (z : FiredEvent). z.event.number) (same_Some x y h) ∙ e in
    let t : eqb x.event.number n ≡ true = grind (arith, nat_tests) in
    ap (λ (b : Bool). is_some (cond b (Some x) (find_fired xs n))) t
is_fired_at (x ∷ xs) (suc i) y n h e = by_test (eqb x.event.number n) (is_fired_at xs i y n h e)
  where
    by_test : (t : Bool) → is_fired xs n ≡ true → is_some (cond t (Some x) (find_fired xs n)) ≡ true
    by_test true rest = refl
    by_test false rest = rest

pub record StandsIn (xs : List FiredEvent) (n : ℕ) : Type 0 where
  pub place : ℕ
  pub firing : FiredEvent
  pub there : slice_get xs place ≡ Some firing
  pub number : firing.event.number ≡ n

pub fired_there : (xs : List FiredEvent) (n : ℕ) → is_fired xs n ≡ true → StandsIn xs n
fired_there [] n h = absurd (false≢true h)
fired_there (x ∷ xs) n h = by_test (eqb x.event.number n) refl (fired_there xs n) h
  where
    by_test : (t : Bool) → eqb x.event.number n ≡ t → (is_fired xs n ≡ true → StandsIn xs n) → is_some (cond t (Some x) (find_fired xs n)) ≡ true → StandsIn (x ∷ xs) n
    by_test true e rest h = let is : x.event.number ≡ n = grind (arith, nat_tests) in record { place = 0; firing = x; there = refl; number = is }
    by_test false e rest h = let r : StandsIn xs n = rest h in record { place = suc r.place; firing = r.firing; there = r.there; number = r.number }

-- the first of some stand where they stood
pub front_get : (xs ys : List FiredEvent) (i : ℕ) → i < length xs → slice_get (xs ++ ys) i ≡ slice_get xs i
front_get [] ys i l = absurd (omega (arith, l))
front_get (x ∷ xs) ys zero l = refl
front_get (x ∷ xs) ys (suc i) l = front_get xs ys i (omega (arith, l))
