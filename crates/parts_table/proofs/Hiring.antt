-- Seats are made, one after the other.
use Rattle.std.proofs.Common.{◌≡◌, ℕ, zero, suc, ◌+◌, ◌<◌, List, [], ◌∷◌, ◌++◌, length, refl, sym, ap, ◌∙◌, subst, arith}
use Rattle.std.specs.Prelude.{slice_get, slice_index_or, slice_set, Some, None}
use Rattle.std.proofs.lemmas.List.{length-append}
use Rattle.std.proofs.lemmas.Option.{same_Some}
use Rattle.parts_table.specs.Access.{AreNewSeats, IsSeatOf, SeatState, TableState}
use Rattle.parts_table.specs.Views.{next_seat, with_one_seat_more}

-- the seats of the cores below this one, of which the first counts them
pub record AreSeatsUpTo (t : TableState) (core : ℕ) (seats : List SeatState) : Type 0 where
  pub count : length seats ≡ core
  pub some : 0 < core
  pub new : (number : ℕ) (seat : SeatState) → slice_get seats number ≡ Some seat → IsSeatOf t seat × (seat.core ≡ number) × (seat.made ≡ [])
  pub counts : (seat : SeatState) → slice_get seats 0 ≡ Some seat → seat.knows.made ≡ core

pub first_seat : (t : TableState) (x : SeatState) → IsSeatOf t x → x.core ≡ 0 → x.made ≡ [] → x.knows.made ≡ 1 → AreSeatsUpTo t 1 (x ∷ [])
first_seat t x of_it core made_none made = record {
  count = refl;
  some = omega arith;
  new = only;
  counts = λ seat at. ap (λ (s : SeatState). s.knows.made) (sym (same_Some x seat at)) ∙ made;
} where
  only : (number : ℕ) (seat : SeatState) → slice_get (x ∷ []) number ≡ Some seat → IsSeatOf t seat × (seat.core ≡ number) × (seat.made ≡ [])
  only zero seat at = subst (λ (s : SeatState). IsSeatOf t s × (s.core ≡ 0) × (s.made ≡ [])) (same_Some x seat at) (of_it, core, made_none)
  only (suc number) seat at = absurd (let none : None ≡ Some seat = at in cc)

-- the first after it counted one more, and the next
module _ (t : TableState) (core : ℕ) (first y : SeatState) (seats : List SeatState) (so_far : AreSeatsUpTo t core (first ∷ seats)) where
  abbrev first' : SeatState
  first' = record first { knows = with_one_seat_more first.knows }

  all_new : (xs : List SeatState) (base number : ℕ) (seat : SeatState) → IsSeatOf t y × (y.core ≡ base + length xs) × (y.made ≡ [])
      → ((k : ℕ) (s : SeatState) → slice_get xs k ≡ Some s → IsSeatOf t s × (s.core ≡ base + k) × (s.made ≡ []))
      → slice_get (xs ++ y ∷ []) number ≡ Some seat → IsSeatOf t seat × (seat.core ≡ base + number) × (seat.made ≡ [])
  all_new [] base zero seat next each at = subst (λ (s : SeatState). IsSeatOf t s × (s.core ≡ base + 0) × (s.made ≡ [])) (same_Some y seat at) next
  all_new [] base (suc number) seat next each at = absurd (let none : None ≡ Some seat = at in cc)
  all_new (x ∷ xs) base zero seat next each at = each 0 seat at
  all_new (x ∷ xs) base (suc number) seat next each at =
      let shift : (k : ℕ) → (base + 1) + k ≡ base + suc k = λ k. omega arith in
      let later = all_new xs (base + 1) number seat (next.0, next.1 ∙ sym (shift (length xs)), next.2) (λ k s there. let e = each (suc k) s there in (e.0, e.1 ∙ sym (shift k), e.2)) at in
      (later.0, later.1 ∙ shift number, later.2)

  pub one_seat_more : IsSeatOf t y → y.core ≡ core → y.made ≡ [] → AreSeatsUpTo t (core + 1) (first' ∷ (seats ++ y ∷ []))
  one_seat_more of_it core_is made_none = record {
    count = (let n = so_far.count in let m = length-append seats (y ∷ []) in omega (arith, n, m));
    some = omega arith;
    new = each;
    counts = λ seat at. ap (λ (s : SeatState). s.knows.made) (sym (same_Some first' seat at)) ∙ (let n = so_far.counts first refl in omega (arith, n));
  } where
    each : (number : ℕ) (seat : SeatState) → slice_get (first' ∷ (seats ++ y ∷ [])) number ≡ Some seat → IsSeatOf t seat × (seat.core ≡ number) × (seat.made ≡ [])
    each zero seat at =
        let old = so_far.new 0 first refl in
        subst (λ (s : SeatState). IsSeatOf t s × (s.core ≡ 0) × (s.made ≡ [])) (same_Some first' seat at)
        (record { table = old.0.table; opening = old.0.opening; cores = old.0.cores; banks = old.0.banks; room = old.0.room }, old.1, old.2)
    each (suc number) seat at =
        let n = so_far.count in
        let later = all_new seats 1 number seat (of_it, (let k : 1 + length seats ≡ core = omega (arith, n) in core_is ∙ sym k), made_none)
        (λ k s there. let e = so_far.new (suc k) s there in let one : suc k ≡ 1 + k = omega arith in (e.0, e.1 ∙ one, e.2)) at in
        let more : 1 + number ≡ suc number = omega arith in
        (later.0, later.1 ∙ more, later.2)

pub all_seats : (t : TableState) (cores : ℕ) (seats : List SeatState) → AreSeatsUpTo t cores seats → cores ≡ t.cores → AreNewSeats t seats
all_seats t cores seats so_far is = (so_far.count ∙ is, so_far.new)

pub next_hired : (t : TableState) (core : ℕ) (seats : List SeatState) (old new y : SeatState) → AreSeatsUpTo t core seats → old ≡ slice_index_or seats 0 old
    → new ≡ record old { knows = with_one_seat_more old.knows } → y ≡ record { table = old.table; core = core; made = []; knows = next_seat old.knows }
    → AreSeatsUpTo t (core + 1) (slice_set seats 0 new ++ y ∷ [])
next_hired t core [] old new y so_far here new_is y_is = absurd (let n = so_far.count in let some = so_far.some in omega (arith, n, some))
next_hired t core (first ∷ seats) old new y so_far here new_is y_is =
    let it = (so_far.new 0 first refl).0 in
    let of_it : IsSeatOf t (record { table = old.table; core = core; made = []; knows = next_seat old.knows }) =
    subst (λ (s : SeatState). IsSeatOf t (record { table = s.table; core = core; made = []; knows = next_seat s.knows })) (sym here)
    (record { table = it.table; opening = it.opening; cores = it.cores; banks = it.banks; room = it.room }) in
    let new_first : record first { knows = with_one_seat_more first.knows } ≡ new = ap (λ (s : SeatState). record s { knows = with_one_seat_more s.knows }) (sym here) ∙ sym new_is in
    subst (λ (s : SeatState). AreSeatsUpTo t (core + 1) (s ∷ (seats ++ y ∷ []))) new_first
    (one_seat_more t core first y seats so_far (subst (IsSeatOf t) (sym y_is) of_it) (ap (λ (s : SeatState). s.core) y_is) (ap (λ (s : SeatState). s.made) y_is))
