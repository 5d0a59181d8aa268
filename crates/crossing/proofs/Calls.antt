-- What the calls ask of the steps, and what the steps leave.
use Rattle.std.proofs.Common.{zero, suc, ◌∷◌, ◌++◌, Some, slice_get, inl, inr, length-append, ◌≡◌, ◌≢◌, ◌+◌, ◌*◌, ◌%◌, ◌/◌, ◌<◌, ◌≤◌, ℕ, true, List, [], length, get_or, sym, ◌∙◌, ap, subst, refl, arith}
use mathlib.Core.Option.{none}
use Rattle.std.proofs.lemmas.Bool.{cases_lt}
use Rattle.zs_num.specs.declared.time.Word.{Word}
use Rattle.zs_num.specs.declared.time.Word.TheVariants.{Bound, Exact}
use Rattle.atomic_table.specs.Seated.{TableId}
use Rattle.atomic_table.specs.Table.{Me, Allows, Splits, step}
use Rattle.crossing.specs.declared.view.View.{View}
use Rattle.crossing.specs.Inside.{IsTableSeat, seat_value}
use Rattle.crossing.specs.Rule.{Finds, Found, Holds, IsTrueNumber, TellsFirstSeat, Wrote, fresh, seat_of_next_domain, untold, with_noted, with_one_more}
use Rattle.crossing.specs.Seats.{AreSeats, IsTrueOfFinish, Looked, MayWrite, SeatValue, kept_number, new_seat, with_written}
use Rattle.crossing.proofs.Steps.{finding, saying, splitting, writing}

module _ (table : TableId) (me : Me (Unit {0}) View) (is : IsTableSeat table me) where
  whole : (me.0, []) ≡ me
  whole = λ i. (me.0, sym is.bare i)

  pub inside : (x : ℕ) → x < length me.0.sources → 16 * x + 16 < table.words
  inside x l = let w = is.words_are in omega arith

  pub can_find : (k slots id x : ℕ) → x < length me.0.sources → Allows (Holds k) slots id me (16 * x + 16) (λ n. n) (Found (step slots (16 * x + 16) 0 0 none) me)
  can_find k slots id x l =
      subst (λ (m : Me (Unit {0}) View). Allows (Holds k) slots id m (16 * x + 16) (λ n. n) (Found (step slots (16 * x + 16) 0 0 none) m)) whole
      (finding k slots id me.0 x is.told_is is.makes_is l)

  pub can_write : (k slots id x n : ℕ) → MayWrite (seat_value table me.0) x → (get_or me.0.wrote x 0 ≤ 2 * get_or me.0.finishes x 0 + 1 → get_or me.0.wrote x 0 ≤ n) → IsTrueNumber (get_or me.0.finishes x 0) n
      → Allows (Holds k) slots id me (16 * x + 16) (λ _. n) (λ _. Wrote (step slots (16 * x + 16) n 0 none) me n)
  can_write k slots id x n may rises is_true =
      subst (λ (m : Me (Unit {0}) View). Allows (Holds k) slots id m (16 * x + 16) (λ _. n) (λ _. Wrote (step slots (16 * x + 16) n 0 none) m n)) whole
      (writing k slots id me.0 x n is.told_is is.makes_is may.there may.owner may.unpublished rises is_true)

  pub place_found : (slots x n : ℕ) (after : Me (Unit {0}) View) → Found (step slots (16 * x + 16) 0 0 none) me n after → IsTableSeat table after
  place_found slots x n after found =
      subst (IsTableSeat table) (sym (found x refl).0) (record { bare = is.bare; told_is = is.told_is; makes_is = is.makes_is; words_are = is.words_are })

  pub place_wrote : (slots x n : ℕ) (after : Me (Unit {0}) View) → Wrote (step slots (16 * x + 16) n 0 none) me n after → IsTableSeat table after
  place_wrote slots x n after wrote =
      subst (IsTableSeat table) (sym (wrote x refl)) (record { bare = is.bare; told_is = is.told_is; makes_is = is.makes_is; words_are = is.words_are })

pub written : (table : TableId) (me after : Me (Unit {0}) View) (slots x n : ℕ) → Wrote (step slots (16 * x + 16) n 0 none) me n after
    → seat_value table after.0 ≡ with_written (seat_value table me.0) x n
written table me after slots x n wrote = ap (λ (m : Me (Unit {0}) View). seat_value table m.0) (wrote x refl)

true_word : (finish : ℕ) (w : Word) → IsTrueNumber finish (kept_number w) → IsTrueOfFinish finish w
true_word finish (Bound b) h = let u = h.upto in omega (arith, u)
true_word finish (Exact f) h = let e = h.exact (omega arith) in omega (arith, e)

pub found_word : (table : TableId) (me after : Me (Unit {0}) View) (slots x n : ℕ) (w : Word) → kept_number w ≡ n → Found (step slots (16 * x + 16) 0 0 none) me n after
    → Looked (seat_value table me.0) (seat_value table after.0) x w
found_word table me after slots x n w is found =
    let all = subst (λ k. (after ≡ (with_noted me.0 x k, me.1)) × Finds me.0 x k) (sym is) (found x refl) in
    record {
      new_is = ap (λ (m : Me (Unit {0}) View). seat_value table m.0) all.0;
      is_true = true_word (get_or me.0.finishes x 0) w all.1.is_true;
      no_fall = all.1.no_fall;
      exact_stays = all.1.exact_stays;
      own = all.1.own;
    }

pub bound_is_true : (finish bound : ℕ) → bound ≤ finish → IsTrueNumber finish (2 * bound)
bound_is_true finish bound l = record { upto = omega arith; exact = λ odd. absurd (omega (arith, odd)) }

pub finish_is_true : (finish f : ℕ) → f ≡ finish → IsTrueNumber finish (2 * f + 1)
finish_is_true finish f e = record { upto = omega arith; exact = λ odd. omega arith }

pub even_is : (n : ℕ) → n % 2 ≡ 0 → 2 * (n / 2) ≡ n
even_is n e = omega arith

pub odd_is : (n : ℕ) → n % 2 ≢ 0 → 2 * (n / 2) + 1 ≡ n
odd_is n e = omega arith

pub can_say : (k slots id : ℕ) (me : Me (Unit {0}) View) (finishes sources : List ℕ) → me ≡ (untold, []) → k ≡ length sources
    → Allows (Holds k) slots id me 0 (λ n. n) (TellsFirstSeat finishes sources (step slots 0 0 0 none) me)
can_say k slots id me finishes sources is count =
    subst (λ (m : Me (Unit {0}) View). Allows (Holds k) slots id m 0 (λ n. n) (TellsFirstSeat finishes sources (step slots 0 0 0 none) m)) (sym is) (saying k slots id finishes sources count)

pub can_split : (k id : ℕ) (v : View) (finishes sources : List ℕ) (domain : ℕ) → v ≡ fresh finishes sources true domain → Splits (Holds k) id v (with_one_more v) (seat_of_next_domain v)
can_split k id v finishes sources domain is = splitting k id v (ap (λ (z : View). z.told) is) (ap (λ (z : View). z.makes) is)

-- the seats with one more

get_left : {X : Type 0} (xs : List X) (d : ℕ) (a v : X) → slice_get xs d ≡ Some v → slice_get (xs ++ a ∷ []) d ≡ Some v
get_left [] d a v e = absurd (cc)
get_left (x ∷ xs) zero a v e = e
get_left (x ∷ xs) (suc d) a v e = get_left xs d a v e

get_last : {X : Type 0} (xs : List X) (a : X) → slice_get (xs ++ a ∷ []) (length xs) ≡ Some a
get_last [] a = refl
get_last (x ∷ xs) a = get_last xs a

pub one_more : (table : TableId) (finishes sources : List ℕ) (domain : ℕ) (seats : List SeatValue) (seat : SeatValue)
    → AreSeats table finishes sources domain seats → seat ≡ new_seat table finishes sources domain → AreSeats table finishes sources (domain + 1) (seats ++ seat ∷ [])
one_more table finishes sources domain seats seat all is = record {
  count = length-append seats (seat ∷ []) ∙ ap (λ n. n + 1) all.count;
  each = λ d l.
      elim (cases_lt d domain) [
        | inl before ↦ get_left seats d seat _ (all.each d before)
        | inr past ↦
            let same : domain ≡ d = omega arith in
            subst (λ n. slice_get (seats ++ seat ∷ []) n ≡ Some (new_seat table finishes sources n)) same
            (subst (λ n. slice_get (seats ++ seat ∷ []) n ≡ Some (new_seat table finishes sources domain)) all.count (get_last seats seat ∙ ap (λ v. Some v) is))
      ];
}

pub seat_made : (table : TableId) (place : Me (Unit {0}) View) (finishes sources : List ℕ) (domain : ℕ) (first : Me (Unit {0}) View)
    → first ≡ (fresh finishes sources true domain, []) → place ≡ (seat_of_next_domain first.0, []) → seat_value table place.0 ≡ new_seat table finishes sources domain
seat_made table place finishes sources domain first is made =
    ap (λ (m : Me (Unit {0}) View). seat_value table m.0) made ∙ ap (λ (m : Me (Unit {0}) View). seat_value table (seat_of_next_domain m.0)) is
