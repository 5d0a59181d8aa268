-- That a new controller with open rows serves the requests of a list as the list says.
use Rattle.std.proofs.Common.{◌≡◌, ◌∙◌, ◌+◌, ◌-◌, ◌*◌, ◌<◌, ◌≤◌, ◌++◌, ◌==◌, ℕ, zero, suc, max, List, [], ◌∷◌, length, map, take, get_or, set, Option, Some, None, cond, inl, inr, refl, sym, ap, ap₂, subst, arith, length-set}
use Rattle.std.specs.Prelude.{All, slice_get}
use Rattle.std.specs.List.{fold, range_with_len}
use Rattle.std.specs.Option.{option_map_or}
use Rattle.std.proofs.Math.Nat.{suc-mul}
use Rattle.std.proofs.lemmas.Bool.{cases_Bool, eqb-true, eqb-false}
use Rattle.std.proofs.lemmas.List.{take_more, get_or-replicate, length-replicate, get_or-set_same, get_or-set_other}
use Rattle.std.proofs.lemmas.List.Elements.{All-take}
use Rattle.std.proofs.lemmas.List.FromFn.{map-range_with_len_more}
use Rattle.std.proofs.lemmas.List.Sums.{fold_push}
use Rattle.std.proofs.lemmas.Option.{slice_get-get_or, slice_get_within, get_or_from_slice_get}
use Rattle.dram_rows.specs.declared.numbers.RowNumbers.{RowNumbers}
use Rattle.dram_rows.specs.declared.rows.Rows.{Rows}
use Rattle.dram_rows.specs.Conditions.{IsNew}
use Rattle.dram_rows.specs.OpenRows.{open_at, read_time}
use Rattle.dram_rows.specs.Served.{RowRequest, Read, Write, start_of, step_by, after, read_by, last_row, time_behind, greatest, start_at, served_of, IsOfBank}

-- what a request does to the controller's numbers, and to the cycle from which on it is free
numbers_stay : (s : Rows) (x : RowRequest) → (step_by s x).0.numbers ≡ s.numbers
numbers_stay s (Read bank row start) = refl
numbers_stay s (Write start) = refl

numbers_after : (s : Rows) (xs : List RowRequest) → (after s xs).numbers ≡ s.numbers
numbers_after s [] = refl
numbers_after s (x ∷ xs) = numbers_after (step_by s x).0 xs ∙ numbers_stay s x

free_by : (s : Rows) (x : RowRequest) → (step_by s x).0.free ≡ max (start_of x) s.free + s.numbers.occupancy
free_by s (Read bank row start) = refl
free_by s (Write start) = refl

-- the greatest of a list, with one more behind it, and with all as much greater
greatest_push : (ns : List ℕ) (n : ℕ) → greatest (ns ++ n ∷ []) ≡ max n (greatest ns)
greatest_push [] n = refl
greatest_push (m ∷ ns) n = omega (arith, greatest_push ns n)

grown : (f g : ℕ → ℕ) (more a n limit : ℕ) → ((j : ℕ) → j ≤ limit → g j ≡ f j + more) → a + n ≤ limit
    → greatest (map g (range_with_len a (suc n))) ≡ greatest (map f (range_with_len a (suc n))) + more
grown f g more a zero limit each within = omega (arith, each a (omega arith))
grown f g more a (suc n) limit each within = omega (arith, each a (omega arith), grown f g more (a + 1) n limit each (omega arith))

-- what an earlier request keeps the next one waiting for is an occupancy more than it kept the one before it
later : (start place j occupancy : ℕ) → j ≤ place → start + (suc place - j) * occupancy ≡ start + (place - j) * occupancy + occupancy
later start place j occupancy early =
    let one : suc place - j ≡ suc (place - j) = omega arith in
    ap (λ n. start + n * occupancy) one ∙ omega (arith, suc-mul (place - j) occupancy)

served_next : (occupancy : ℕ) (xs : List RowRequest) (place : ℕ) → max (start_at xs (suc place)) (served_of occupancy xs place + occupancy) ≡ served_of occupancy xs (suc place)
served_next occupancy xs place =
    let f = λ (j : ℕ). start_at xs j + (place - j) * occupancy in
    let g = λ (j : ℕ). start_at xs j + (suc place - j) * occupancy in
    let more = grown f g occupancy 0 place place (λ j early. later (start_at xs j) place j occupancy early) (omega arith) in
    let none : suc place - suc place ≡ 0 = omega arith in
    let last : g (suc place) ≡ start_at xs (suc place) = ap (λ n. start_at xs (suc place) + n * occupancy) none ∙ omega arith in
    let one_more : suc (suc place) ≡ suc place + 1 = omega arith in
    let split : map g (range_with_len 0 (suc (suc place))) ≡ map g (range_with_len 0 (suc place)) ++ g (suc place) ∷ [] =
    ap (λ n. map g (range_with_len 0 n)) one_more ∙ map-range_with_len_more g 0 (suc place) (suc place) (omega arith)
    in
    sym (ap greatest split ∙ greatest_push (map g (range_with_len 0 (suc place))) (g (suc place)) ∙ ap₂ max last more)

-- when a request is served behind those before it
served_is : (r : Rows) (xs : List RowRequest) (place : ℕ) → IsNew r → place < length xs
    → max (start_at xs place) (after r (take place xs)).free ≡ served_of r.numbers.occupancy xs place
served_is r xs zero new within = omega (arith, new.free)
served_is r xs (suc place) new within =
    let before = after r (take place xs) in
    let one = get_or xs place (Write 0) in
    let there : slice_get xs place ≡ Some one = slice_get-get_or xs place (Write 0) (omega arith) in
    let start : start_at xs place ≡ start_of one = ap (λ (o : Option RowRequest). option_map_or start_of o 0) there in
    let one_more : suc place ≡ place + 1 = omega arith in
    let step : after r (take (suc place) xs) ≡ (step_by before one).0 =
    ap (λ n. after r (take n xs)) one_more
    ∙ ap (after r) (take_more xs place (Write 0) (omega arith)) ∙ fold_push (λ (s : Rows) (x : RowRequest). (step_by s x).0) r (take place xs) one
    in
    let free : (after r (take (suc place) xs)).free ≡ max (start_at xs place) before.free + r.numbers.occupancy =
    ap (λ (s : Rows). s.free) step
    ∙ free_by before one
    ∙ ap₂ (λ (n : ℕ) (numbers : RowNumbers). max n before.free + numbers.occupancy) (sym start) (numbers_after r (take place xs))
    in
    ap (max (start_at xs (suc place))) (free ∙ ap (λ n. n + r.numbers.occupancy) (served_is r xs place new (omega arith)))
    ∙ served_next r.numbers.occupancy xs place

-- the open row of a bank, once a row is open in a bank
one_open : (rows : List (Option ℕ)) (bank of row : ℕ) → of < length rows
    → get_or (set rows of (Some row)) bank None ≡ cond (of == bank) (Some row) (get_or rows bank None)
one_open rows bank of row there =
    elim (cases_Bool (of == bank)) [
      | inl same ↦ rw same (subst (λ n. get_or (set rows of (Some row)) n None ≡ Some row) (eqb-true of bank same) (get_or-set_same rows of (Some row) None there))
      | inr apart ↦ rw apart (get_or-set_other rows of bank (Some row) None (λ same. eqb-false of bank apart (sym same)))
    ]

open_after : (s : Rows) (xs : List RowRequest) (bank : ℕ) → length s.open_rows ≡ 16 → All (IsOfBank s.numbers) xs
    → open_at (after s xs) bank ≡ fold (read_by bank) (open_at s bank) xs
open_after s [] bank long banks = refl
open_after s (Read of row start ∷ xs) bank long banks =
    let first = banks 0 (Write 0) (omega arith) in
    let there : of < length s.open_rows = omega (arith, s.numbers.few_banks) in
    open_after (step_by s (Read of row start)).0 xs bank (length-set s.open_rows of (Some row) ∙ long) (λ k d below. banks (suc k) d (omega arith))
    ∙ ap (λ (o : Option ℕ). fold (read_by bank) o xs) (one_open s.open_rows bank of row there)
open_after s (Write start ∷ xs) bank long banks = open_after (step_by s (Write start)).0 xs bank long (λ k d below. banks (suc k) d (omega arith))

none_open : (r : Rows) (bank : ℕ) → IsNew r → bank < 16 → open_at r bank ≡ None
none_open r bank new there = ap (λ (rows : List (Option ℕ)). get_or rows bank None) new.closed ∙ get_or-replicate 16 bank None None there

pub rows_serve_in_turn : (r : Rows) (requests : List RowRequest) (place : ℕ) (request : RowRequest) → IsNew r → All (IsOfBank r.numbers) requests
    → slice_get requests place ≡ Some request
    → (step_by (after r (take place requests)) request).1 ≡ served_of r.numbers.occupancy requests place + time_behind r.numbers (take place requests) request
rows_serve_in_turn r requests place (Read bank row start) new banks is =
    let before = after r (take place requests) in
    let within = slice_get_within requests place (Read bank row start) is in
    let one : get_or requests place (Write 0) ≡ Read bank row start = get_or_from_slice_get requests place (Read bank row start) (Write 0) is in
    let there : bank < r.numbers.banks = subst (IsOfBank r.numbers) one (banks place (Write 0) within) in
    let start_is : start_at requests place ≡ start = ap (λ (o : Option RowRequest). option_map_or start_of o 0) is in
    let served = ap (λ n. max n before.free) (sym start_is) ∙ served_is r requests place new within in
    let long : length r.open_rows ≡ 16 = ap (length {A = Option ℕ}) new.closed ∙ length-replicate {A = Option ℕ} 16 None in
    let row_is : open_at before bank ≡ last_row bank (take place requests) =
    open_after r (take place requests) bank long (All-take (IsOfBank r.numbers) place requests banks)
    ∙ ap (λ (o : Option ℕ). fold (read_by bank) o (take place requests)) (none_open r bank new (omega (arith, r.numbers.few_banks)))
    in
    ap₂ (λ (m n : ℕ). m + n) served (ap₂ (λ (numbers : RowNumbers) (o : Option ℕ). read_time numbers o row) (numbers_after r (take place requests)) row_is)
rows_serve_in_turn r requests place (Write start) new banks is =
    let before = after r (take place requests) in
    let within = slice_get_within requests place (Write start) is in
    let start_is : start_at requests place ≡ start = ap (λ (o : Option RowRequest). option_map_or start_of o 0) is in
    let served = ap (λ n. max n before.free) (sym start_is) ∙ served_is r requests place new within in
    ap₂ (λ (m n : ℕ). m + n) served (ap (λ (numbers : RowNumbers). numbers.write) (numbers_after r (take place requests)))
