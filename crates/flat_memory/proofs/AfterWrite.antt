-- The reservations after a write, one by one.
use Rattle.std.proofs.Common.{◌≡◌, ◌<◌, ◌+◌, ◌==◌, ℕ, zero, suc, List, [], ◌∷◌, length, map, get_or, Option, None, refl, sym, ap, ◌∙◌, arith}
use Rattle.std.specs.List.{enumerate_from}
use Rattle.std.proofs.lemmas.List.{ext_get_or}
use Rattle.flat_memory.specs.FlatMemory.{after_write, unless_written}
use Rattle.flat_memory.specs.declared.reservation.Reservation.{Reservation}

-- an item of a list that a function made of each item and its number
get_or-numbered : {X : Type 0} (f : ℕ × X → X) (n : ℕ) (xs : List X) (i : ℕ) (d : X) → i < length xs → get_or (map f (enumerate_from n xs)) i d ≡ f (n + i, get_or xs i d)
get_or-numbered f n [] i d h = absurd (omega arith)
get_or-numbered f n (x ∷ xs) zero d h = ap (λ (k : ℕ). f (k, x)) (omega arith)
get_or-numbered f n (x ∷ xs) (suc i) d h =
    get_or-numbered f (n + 1) xs i d (omega arith) ∙ ap (λ (k : ℕ). f (k, get_or xs i d)) (omega arith)

length-numbered : {X : Type 0} (f : ℕ × X → X) (n : ℕ) (xs : List X) → length (map f (enumerate_from n xs)) ≡ length xs
length-numbered f n [] = refl
length-numbered f n (x ∷ xs) = ap suc (length-numbered f (n + 1) xs)

-- reservations that are all as a write leaves them
pub after_write_is : (core addr : ℕ) (old new : List (Option Reservation)) → length new ≡ length old
    → ((i : ℕ) → i < length old → get_or new i None ≡ unless_written (i == core) addr (get_or old i None)) → new ≡ after_write core addr old
unfolding after_write
after_write_is core addr old new len each =
    let f : ℕ × Option Reservation → Option Reservation = λ at. unless_written (at.0 == core) addr at.1 in
    ext_get_or None new (map f (enumerate_from 0 old)) (len ∙ sym (length-numbered f 0 old))
    (λ i h. each i (omega (arith, len, h)) ∙ sym (get_or-numbered f 0 old i None (omega (arith, len, h)) ∙ ap (λ (k : ℕ). f (k, get_or old i None)) (omega arith)))

still_at : (core addr n : ℕ) (old : List (Option Reservation)) (i : ℕ)
    → get_or (map (λ (at : ℕ × Option Reservation). unless_written (at.0 == core) addr at.1) (enumerate_from n old)) i None ≡ unless_written (n + i == core) addr (get_or old i None)
still_at core addr n [] i = refl
still_at core addr n (x ∷ xs) zero = ap (λ (k : ℕ). unless_written (k == core) addr x) (omega arith)
still_at core addr n (x ∷ xs) (suc i) =
    still_at core addr (n + 1) xs i ∙ ap (λ (k : ℕ). unless_written (k == core) addr (get_or xs i None)) (omega arith)

-- what a core has still reserved after a write, also where there is no such core
pub after_write-at : (core addr : ℕ) (old : List (Option Reservation)) (i : ℕ) → get_or (after_write core addr old) i None ≡ unless_written (i == core) addr (get_or old i None)
unfolding after_write
after_write-at core addr old i = still_at core addr 0 old i ∙ ap (λ (k : ℕ). unless_written (k == core) addr (get_or old i None)) (omega arith)
