-- Seats are put together, one after the other.
use Rattle.std.proofs.Common.{◌≡◌, ℕ, ◌<◌, List, [], ◌∷◌, ◌++◌, map, length, drop, sym, ap, ◌∙◌, arith}
use Rattle.std.specs.Prelude.{slice_index_or}
use Rattle.std.proofs.lemmas.List.{append-nil, append_assoc, length-append, map-append}
use Rattle.parts_table.specs.declared.view.CoreAccesses.{CoreAccesses}
use Rattle.parts_table.specs.Access.{SeatState}
use Rattle.parts_table.specs.TurnOrder.{key_of}

-- the accesses of a seat's core
abbrev pub log_of : SeatState → CoreAccesses
log_of seat = record { core = seat.core; list = seat.made }

abbrev pub keys_of_seat : SeatState → List ℕ
keys_of_seat seat = map key_of seat.made

-- so far these accesses and keys are those of the first of all seats, and the rest is left
pub record Joined (all rest : List SeatState) (logs : List CoreAccesses) (keys : List (List ℕ)) : Type 0 where
  pub done : List SeatState
  pub whole : done ++ rest ≡ all
  pub logs_are : logs ≡ map log_of done
  pub keys_are : keys ≡ map keys_of_seat done
  pub some_done : 0 < length done

pub first_joined : (all : List SeatState) (x : SeatState) (logs : List CoreAccesses) (keys : List (List ℕ)) → 0 < length all → x ≡ slice_index_or all 0 x
    → logs ≡ log_of x ∷ [] → keys ≡ keys_of_seat x ∷ [] → Joined all (drop 1 all) logs keys
first_joined [] x logs keys more is logs_are keys_are = absurd (omega (arith, more))
first_joined (y ∷ ys) x logs keys more is logs_are keys_are = record {
  done = x ∷ [];
  whole = ap (λ z. z ∷ ys) is;
  logs_are = logs_are;
  keys_are = keys_are;
  some_done = omega arith;
}

pub one_joined : (all rest : List SeatState) (x : SeatState) (logs : List CoreAccesses) (keys : List (List ℕ)) → Joined all rest logs keys → 0 < length rest → x ≡ slice_index_or rest 0 x
    → Joined all (drop 1 rest) (logs ++ log_of x ∷ []) (keys ++ keys_of_seat x ∷ [])
one_joined all [] x logs keys j more is = absurd (omega (arith, more))
one_joined all (y ∷ ys) x logs keys j more is = record {
  done = j.done ++ x ∷ [];
  whole = append_assoc j.done (x ∷ []) ys ∙ (ap (λ z. j.done ++ z ∷ ys) is ∙ j.whole);
  logs_are = ap (λ ls. ls ++ log_of x ∷ []) j.logs_are ∙ sym (map-append log_of j.done (x ∷ []));
  keys_are = ap (λ ks. ks ++ keys_of_seat x ∷ []) j.keys_are ∙ sym (map-append keys_of_seat j.done (x ∷ []));
  some_done = let n = length-append j.done (x ∷ []) in let one = j.some_done in omega (arith, n, one);
}

pub all_joined : (all : List SeatState) (logs : List CoreAccesses) (keys : List (List ℕ)) → Joined all [] logs keys → (logs ≡ map log_of all) × (keys ≡ map keys_of_seat all)
all_joined all logs keys j =
    let whole : j.done ≡ all = sym (append-nil j.done) ∙ j.whole in
    (j.logs_are ∙ ap (map log_of) whole, j.keys_are ∙ ap (map keys_of_seat) whole)
