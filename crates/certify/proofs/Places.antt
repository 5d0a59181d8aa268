-- The events of records stand at their numbers.
use Rattle.std.proofs.Common.{◌≡◌, ◌<◌, ◌+◌, ◌^◌, ℕ, zero, suc, max, Bool, true, false, List, [], ◌∷◌, length, Some, refl, ap, sym, ◌∙◌, subst, arith, nat_lt}
use Rattle.std.specs.Prelude.{slice_get}
use Rattle.std.proofs.lemmas.Bool.{eq-eqb, ltb-true, ne_eqb}
use Rattle.std.proofs.lemmas.Option.{slice_get_within}
use Rattle.component.specs.declared.comp.Comp.{Comp}
use Rattle.event_graph.specs.OneListWeave.{FiredEvent, after_parent, find_fired, finish_in, finish_or_zero, start_of}
use Rattle.certify.specs.declared.numbers.Numbers.{Numbers}
use Rattle.certify.specs.EventsFile.{has_first, has_second, is_cycle, is_parent, parent_if}
use Rattle.certify.specs.Records.{AreRecords, IsParentAmong, parent_lets, parents_let, record_at}
use Rattle.certify.proofs.Records.{StandFor, both, stand_for}

-- what is known of the event at a place
pub stands_at : (comps : List Comp) (timed : List FiredEvent) (records : List ℕ) (place : ℕ) (x : FiredEvent) → AreRecords comps timed records → slice_get timed place ≡ Some x
    → StandFor comps place (record_at records place) x
stands_at comps timed records place x are is = stand_for comps place (record_at records place) x (are.each place x is)

pub number_at : (comps : List Comp) (timed : List FiredEvent) (records : List ℕ) (place : ℕ) (x : FiredEvent) → AreRecords comps timed records → slice_get timed place ≡ Some x → x.event.number ≡ place
number_at comps timed records place x are is = ap (λ (y : FiredEvent). y.event.number) (sym (stands_at comps timed records place x are is).is)

-- ---- an event is found by its number

find_at : (xs : List FiredEvent) (base k : ℕ) (x : FiredEvent) → ((i : ℕ) (y : FiredEvent) → slice_get xs i ≡ Some y → y.event.number ≡ base + i) → slice_get xs k ≡ Some x
    → find_fired xs (base + k) ≡ Some x
find_at [] base k x numbered is = cc
find_at (y ∷ ys) base zero x numbered is = rw (eq-eqb y.event.number (base + 0) (numbered 0 y refl)) is
find_at (y ∷ ys) base (suc k) x numbered is =
    let here = numbered 0 y refl in
    let other : (y.event.number ≡ base + suc k → ⊥) = λ same. absurd (omega (arith, here, same)) in
    let next : base + 1 + k ≡ base + suc k = omega arith in
    let rest = find_at ys (base + 1) k x (λ i z at. numbered (suc i) z at ∙ omega arith) is in
    rw (ne_eqb y.event.number (base + suc k) other) (subst (λ n. find_fired ys n ≡ Some x) next rest)

pub finish_at : (comps : List Comp) (timed : List FiredEvent) (records : List ℕ) (place : ℕ) (x : FiredEvent) → AreRecords comps timed records → slice_get timed place ≡ Some x
    → finish_in timed place ≡ x.finish
finish_at comps timed records place x are is =
    let found : find_fired timed (0 + place) ≡ Some x = find_at timed 0 place x (λ i y at. number_at comps timed records i y are at ∙ omega arith) is in
    let same : 0 + place ≡ place = omega arith in
    ap finish_or_zero (subst (λ n. find_fired timed n ≡ Some x) same found)

-- ---- when its parents let an event start

-- there is an event at each place
pub event_there : (timed : List FiredEvent) (place : ℕ) → place < length timed → (x : FiredEvent) × (slice_get timed place ≡ Some x)
event_there [] place within = absurd (omega (arith, within))
event_there (x ∷ xs) zero within = (x, refl)
event_there (x ∷ xs) (suc k) within = event_there xs k (omega (arith, within))

-- the finish in a record is the noted one
pub noted_finish : (comps : List Comp) (timed : List FiredEvent) (records : List ℕ) (place : ℕ) (x : FiredEvent) → AreRecords comps timed records → slice_get timed place ≡ Some x
    → (record_at records place).finish ≡ x.finish
noted_finish comps timed records place x are is = ap (λ (y : FiredEvent). y.finish) (stands_at comps timed records place x are is).is

parent_among : (comps : List Comp) (timed : List FiredEvent) (records : List ℕ) (place : ℕ) (there : Bool) (number delay : ℕ) → AreRecords comps timed records → place < length timed
    → is_parent there place number delay ≡ true → IsParentAmong records there number delay
parent_among comps timed records place false number delay are within is = λ t. cc
parent_among comps timed records place true number delay are within is = λ t.
    let tests = both (nat_lt number place) (is_cycle delay) is in
    let before : number < place = ltb-true number place tests.0 in
    let low : delay < 2 ^ 60 = ltb-true delay (2 ^ 60) tests.1 in
    let y = event_there timed number (omega (arith, before, within)) in
    (omega (arith, before, within, are.long), low, (stands_at comps timed records number y.0 are y.1).meaning.finish)

parent_lets_at : (comps : List Comp) (timed : List FiredEvent) (records : List ℕ) (place : ℕ) (there : Bool) (number delay : ℕ) → AreRecords comps timed records → place < length timed
    → is_parent there place number delay ≡ true → parent_lets records there number delay ≡ after_parent (finish_in timed) (parent_if there number delay)
parent_lets_at comps timed records place false number delay are within is = refl
parent_lets_at comps timed records place true number delay are within is =
    let tests = both (nat_lt number place) (is_cycle delay) is in
    let before : number < place = ltb-true number place tests.0 in
    let y = event_there timed number (omega (arith, before, within)) in
    ap (λ n. n + delay) (noted_finish comps timed records number y.0 are y.1 ∙ sym (finish_at comps timed records number y.0 are y.1))

-- what is asked of the parents of the event at a place, and when they let it start
pub record LetStart (timed : List FiredEvent) (records : List ℕ) (n : Numbers) (x : FiredEvent) : Type 0 where
  pub first : IsParentAmong records (has_first n) n.first n.first_delay
  pub second : IsParentAmong records (has_second n) n.second n.second_delay
  pub is : parents_let records n ≡ start_of (finish_in timed) x.event

pub let_start : (comps : List Comp) (timed : List FiredEvent) (records : List ℕ) (place : ℕ) (x : FiredEvent) → AreRecords comps timed records → slice_get timed place ≡ Some x
    → LetStart timed records (record_at records place) x
let_start comps timed records place x are is =
    let n = record_at records place in
    let stands = stands_at comps timed records place x are is in
    let within = slice_get_within timed place x is in
    let finish = finish_in timed in
    record {
      first = parent_among comps timed records place (has_first n) n.first n.first_delay are within stands.meaning.first;
      second = parent_among comps timed records place (has_second n) n.second n.second_delay are within stands.meaning.second;
      is = ap (λ a. max n.min_start (max a (parent_lets records (has_second n) n.second n.second_delay)))
          (parent_lets_at comps timed records place (has_first n) n.first n.first_delay are within stands.meaning.first)
          ∙ (ap (λ b. max n.min_start (max (after_parent finish (parent_if (has_first n) n.first n.first_delay)) b))
          (parent_lets_at comps timed records place (has_second n) n.second n.second_delay are within stands.meaning.second)
          ∙ ap (λ (y : FiredEvent). start_of finish y.event) stands.is);
    }
