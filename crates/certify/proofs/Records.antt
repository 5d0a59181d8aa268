-- The 64 bytes of an event: the event that they stand for is written so, and what is written stands for the event.
use Rattle.std.proofs.Common.{◌≡◌, ℕ, zero, suc, ◌+◌, ◌%◌, ◌^◌, ◌<◌, ◌≤◌, ◌==◌, ◌&&◌, Bool, true, false, if◌then◌else◌, List, [], ◌∷◌, ◌++◌, All, length, drop, get_or, nat_le, nat_lt, Option, Some, None, ◌⊎◌, inl, inr, refl, ap, sym, subst, ◌∙◌, append-nil, arith}
use Rattle.std.specs.Prelude.{is_some, slice_get}
use Rattle.std.specs.Option.{option_and_then}
use Rattle.std.proofs.lemmas.Bool.{eqb-true, ltb-true}
use Rattle.std.proofs.lemmas.List.{drop_all, drop_more}
use Rattle.byteorder.specs.Endian.{little_bytes, little_number}
use Rattle.component.specs.declared.kind.Kind.{Kind}
use Rattle.component.specs.declared.kind.Kind.TheVariants.{Lookup, Remote, Fill, Read, Write, Hop, RowRead}
use Rattle.component.specs.declared.comp.Comp.{Comp}
use Rattle.component.specs.Serving.{comp_latency, comp_serves}
use Rattle.event_graph.specs.OneListWeave.{FiredEvent}
use Rattle.certify.specs.declared.numbers.Numbers.{Numbers}
use Rattle.certify.specs.EventsFile.{bank_of, event_in, event_of, flag_if, flags_of, has_first, has_meaning, has_second, is_critical_in, is_cycle, is_parent, kind_code, kind_in, kind_of_code, numbers_of, parent_delay, parent_if, parent_number, record_bytes, row_of, served_in}
use Rattle.certify.proofs.Bytes.{written_at}

-- ---- tests that passed

pub both : (a b : Bool) → (a && b) ≡ true → (a ≡ true) × (b ≡ true)
both true b is = (refl, is)
both false b is = cc

some_passed : {A : Type 0} (b : Bool) (o : Option A) (y : A) → (if b then o else None) ≡ Some y → (b ≡ true) × (o ≡ Some y)
some_passed true o y is = (refl, is)
some_passed false o y is = cc

some_then : {A B : Type 0} (f : A → Option B) (o : Option A) (y : B) → option_and_then f o ≡ Some y → (x : A) × (o ≡ Some x) × (f x ≡ Some y)
some_then f (Some x) y is = (x, refl, is)
some_then f None y is = cc

-- the numbers of an event have a meaning
pub record HaveMeaning (place : ℕ) (n : Numbers) : Type 0 where
  pub flags : n.flags < 8
  pub first : is_parent (has_first n) place n.first n.first_delay ≡ true
  pub second : is_parent (has_second n) place n.second n.second_delay ≡ true
  pub min_start : n.min_start < 2 ^ 60
  pub start : n.start < 2 ^ 60
  pub finish : n.finish < 2 ^ 60

have_meaning : (place : ℕ) (n : Numbers) → has_meaning place n ≡ true → HaveMeaning place n
unfolding has_meaning
have_meaning place n is =
    let flags = both (nat_lt n.flags 8) _ is in
    let first = both (is_parent (has_first n) place n.first n.first_delay) _ flags.1 in
    let second = both (is_parent (has_second n) place n.second n.second_delay) _ first.1 in
    let begun = both (is_cycle n.min_start) _ second.1 in
    let ended = both (is_cycle n.start) (is_cycle n.finish) begun.1 in
    record {
      flags = ltb-true n.flags 8 flags.0;
      first = first.0;
      second = second.0;
      min_start = ltb-true n.min_start (2 ^ 60) begun.0;
      start = ltb-true n.start (2 ^ 60) ended.0;
      finish = ltb-true n.finish (2 ^ 60) ended.1;
    }

-- The numbers at a place stand for this event, which its component serves.
pub record StandFor (comps : List Comp) (place : ℕ) (n : Numbers) (x : FiredEvent) : Type 0 where
  pub meaning : HaveMeaning place n
  pub kind : kind_in n ≡ Some x.event.kind
  pub component : Comp
  pub there : slice_get comps n.component ≡ Some component
  pub served : comp_serves component x.event.kind ≡ true
  pub is : event_in place n x.event.kind (comp_latency component x.event.kind) ≡ x

pub stand_for : (comps : List Comp) (place : ℕ) (n : Numbers) (x : FiredEvent) → event_of comps place n ≡ Some x → StandFor comps place n x
unfolding event_of
stand_for comps place n x is =
    let meant = some_passed (has_meaning place n) (option_and_then (served_in comps place n) (kind_in n)) x is in
    let known = some_then (served_in comps place n) (kind_in n) x meant.1 in
    let there = some_then (λ c. if comp_serves c known.0 then Some (event_in place n known.0 (comp_latency c known.0)) else None) (slice_get comps n.component) x known.2 in
    let served = some_passed (comp_serves there.0 known.0) (Some (event_in place n known.0 (comp_latency there.0 known.0))) x there.2 in
    let whole : event_in place n known.0 (comp_latency there.0 known.0) ≡ x = cc (served.1) in
    let same : known.0 ≡ x.event.kind = ap (λ (y : FiredEvent). y.event.kind) whole in
    record {
      meaning = have_meaning place n meant.0;
      kind = known.1 ∙ ap Some same;
      component = there.0;
      there = there.1;
      served = subst (λ (k : Kind). comp_serves there.0 k ≡ true) same served.0;
      is = subst (λ (k : Kind). event_in place n k (comp_latency there.0 k) ≡ x) same whole;
    }

-- ---- flags

abbrev pub flag_number : (critical first second : Bool) → ℕ
flag_number critical first second = flag_if critical 1 + (flag_if first 2 + flag_if second 4)

-- the flags of a number below 8 make it
flags_written : (n : ℕ) → n < 8 → flag_number (n % 2 == 1) (nat_le 2 (n % 4)) (nat_le 4 n) ≡ n
flags_written zero low = refl
flags_written (suc zero) low = refl
flags_written (suc (suc zero)) low = refl
flags_written (suc (suc (suc zero))) low = refl
flags_written (suc (suc (suc (suc zero)))) low = refl
flags_written (suc (suc (suc (suc (suc zero))))) low = refl
flags_written (suc (suc (suc (suc (suc (suc zero)))))) low = refl
flags_written (suc (suc (suc (suc (suc (suc (suc zero))))))) low = refl
flags_written (suc (suc (suc (suc (suc (suc (suc (suc n)))))))) low = absurd (omega (arith, low))

-- and are read again
pub record FlagsAre (n : ℕ) (critical first second : Bool) : Type 0 where
  pub low : nat_lt n 8 ≡ true
  pub critical_is : (n % 2 == 1) ≡ critical
  pub first_is : nat_le 2 (n % 4) ≡ first
  pub second_is : nat_le 4 n ≡ second

pub flags_back : (critical first second : Bool) → FlagsAre (flag_number critical first second) critical first second
flags_back true true true = record { low = refl; critical_is = refl; first_is = refl; second_is = refl }
flags_back true true false = record { low = refl; critical_is = refl; first_is = refl; second_is = refl }
flags_back true false true = record { low = refl; critical_is = refl; first_is = refl; second_is = refl }
flags_back true false false = record { low = refl; critical_is = refl; first_is = refl; second_is = refl }
flags_back false true true = record { low = refl; critical_is = refl; first_is = refl; second_is = refl }
flags_back false true false = record { low = refl; critical_is = refl; first_is = refl; second_is = refl }
flags_back false false true = record { low = refl; critical_is = refl; first_is = refl; second_is = refl }
flags_back false false false = record { low = refl; critical_is = refl; first_is = refl; second_is = refl }

-- ---- parents and kinds

there_is : (there : Bool) (number delay : ℕ) → is_some (parent_if there number delay) ≡ there
there_is true number delay = refl
there_is false number delay = refl

parent_written : (there : Bool) (place number delay : ℕ) → is_parent there place number delay ≡ true
    → (parent_number (parent_if there number delay) ≡ number) × (parent_delay (parent_if there number delay) ≡ delay)
parent_written true place number delay is = (refl, refl)
parent_written false place number delay is =
    let none = both (number == 0) (delay == 0) is in
    (sym (eqb-true number 0 none.0), sym (eqb-true delay 0 none.1))

-- a value behind a test, or what follows
either : {A : Type 0} (b : Bool) (x : A) (o : Option A) (y : A) → (if b then Some x else o) ≡ Some y → ((b ≡ true) × (x ≡ y)) ⊎ (o ≡ Some y)
either true x o y is = inl (refl, cc)
either false x o y is = inr is

kind_written : (code : ℕ) (kind : Kind) → kind_of_code code ≡ Some kind → kind_code kind ≡ code
kind_written code kind is =
    elim (either (code == 0) Lookup (if code == 1 then Some Remote else if code == 2 then Some Fill else if code == 3 then Some Read else if code == 4 then Some Write else if code == 5 then Some Hop else None) kind is) [
      | inl h ↦ this 0 Lookup h.0 h.1 refl
      | inr above ↦ elim (either (code == 1) Remote (if code == 2 then Some Fill else if code == 3 then Some Read else if code == 4 then Some Write else if code == 5 then Some Hop else None) kind above) [
        | inl h ↦ this 1 Remote h.0 h.1 refl
        | inr above ↦ elim (either (code == 2) Fill (if code == 3 then Some Read else if code == 4 then Some Write else if code == 5 then Some Hop else None) kind above) [
          | inl h ↦ this 2 Fill h.0 h.1 refl
          | inr above ↦ elim (either (code == 3) Read (if code == 4 then Some Write else if code == 5 then Some Hop else None) kind above) [
            | inl h ↦ this 3 Read h.0 h.1 refl
            | inr above ↦ elim (either (code == 4) Write (if code == 5 then Some Hop else None) kind above) [
              | inl h ↦ this 4 Write h.0 h.1 refl
              | inr above ↦ (let h = some_passed (code == 5) (Some Hop) kind above in this 5 Hop h.0 (cc (h.1)) refl)
            ]
          ]
        ]
      ]
    ]
  where
    this : (n : ℕ) (k : Kind) → (code == n) ≡ true → k ≡ kind → kind_code k ≡ n → kind_code kind ≡ code
    this n k test same is = ap kind_code (sym same) ∙ (is ∙ sym (eqb-true code n test))

-- a kind that is known by its code alone names no bank and no row
names_none : (code : ℕ) (kind : Kind) → kind_of_code code ≡ Some kind → (bank_of kind ≡ 0) × (row_of kind ≡ 0)
names_none code Lookup is = (refl, refl)
names_none code Remote is = (refl, refl)
names_none code Fill is = (refl, refl)
names_none code Read is = (refl, refl)
names_none code Write is = (refl, refl)
names_none code Hop is = (refl, refl)
names_none code (RowRead bank row) is =
    let six : 6 ≡ code = kind_written code (RowRead bank row) is in
    let none : kind_of_code 6 ≡ Some (RowRead bank row) = subst (λ c. kind_of_code c ≡ Some (RowRead bank row)) (sym six) is in
    absurd (cc none)

-- the code, the bank and the row of a kind are those of the numbers that it is read of
kind_is : (n : Numbers) (kind : Kind) → kind_in n ≡ Some kind → (kind_code kind ≡ n.kind) × (bank_of kind ≡ n.bank) × (row_of kind ≡ n.row)
kind_is n kind is =
    elim (either (n.kind == 6) (RowRead n.bank n.row) (if n.bank == 0 && n.row == 0 then kind_of_code n.kind else None) kind is) [
      | inl named ↦ (ap kind_code (sym named.1) ∙ sym (eqb-true n.kind 6 named.0), ap bank_of (sym named.1), ap row_of (sym named.1))
      | inr above ↦ (let passed = some_passed (n.bank == 0 && n.row == 0) (kind_of_code n.kind) kind above in
          let zeros = both (n.bank == 0) (n.row == 0) passed.0 in
          let code : kind_code kind ≡ n.kind = kind_written n.kind kind passed.1 in
          let none = names_none n.kind kind passed.1 in
          (code, none.0 ∙ sym (eqb-true n.bank 0 zeros.0), none.1 ∙ sym (eqb-true n.row 0 zeros.1)))
    ]

-- ---- read, then written

byte_at_place : (field : List ℕ) (k : ℕ) (rest : List ℕ) → k < length field → rest ≡ drop (k + 1) field → get_or field k 0 ∷ rest ≡ drop k field
byte_at_place field k rest within behind = ap (λ end. get_or field k 0 ∷ end) behind ∙ sym (drop_more field k 0 within)

-- the numbers of 64 bytes, written one after the other
abbrev numbers_bytes : Numbers → List ℕ
numbers_bytes n =
    little_bytes 2 n.component ++ (little_bytes 2 n.core ++ (n.kind ∷ n.flags ∷ (little_bytes 2 n.bank ++ (little_bytes 8 n.row
    ++ (little_bytes 8 n.min_start ++ (little_bytes 4 n.first ++ (little_bytes 4 n.second
    ++ (little_bytes 8 n.first_delay ++ (little_bytes 8 n.second_delay
    ++ (little_bytes 8 n.start ++ little_bytes 8 n.finish))))))))))

numbers_written : (field : List ℕ) → All (λ byte. byte < 256) field → length field ≡ 64 → numbers_bytes (numbers_of field) ≡ field
unfolding numbers_of
numbers_written field low long =
    let written = λ (width : ℕ) (place : ℕ) (rest : List ℕ) (within : place + width ≤ length field) (behind : rest ≡ drop (place + width) field).
    written_at width place field (little_number width (drop place field)) rest low within refl behind in
    let last : little_bytes 8 (little_number 8 (drop 56 field)) ≡ drop 56 field =
    sym (append-nil (little_bytes 8 (little_number 8 (drop 56 field)))) ∙ written 8 56 [] (omega (arith, long)) (sym (drop_all 64 field (omega (arith, long)))) in
    written 2 0 _ (omega (arith, long)) (written 2 2 _ (omega (arith, long)) (byte_at_place field 4 _ (omega (arith, long)) (byte_at_place field 5 _ (omega (arith, long))
    (written 2 6 _ (omega (arith, long)) (written 8 8 _ (omega (arith, long)) (written 8 16 _ (omega (arith, long)) (written 4 24 _ (omega (arith, long)) (written 4 28 _ (omega (arith, long))
    (written 8 32 _ (omega (arith, long)) (written 8 40 _ (omega (arith, long)) (written 8 48 _ (omega (arith, long)) last)))))))))))

-- what its numbers stand for is written as the record
pub record_written : (comps : List Comp) (place : ℕ) (field : List ℕ) (x : FiredEvent) → All (λ byte. byte < 256) field → length field ≡ 64
    → event_of comps place (numbers_of field) ≡ Some x → record_bytes x ≡ field
unfolding record_bytes
record_written comps place field x low long is =
    let n = numbers_of field in
    let stands = stand_for comps place n x is in
    let kind = kind_is n x.event.kind stands.kind in
    let first = parent_written (has_first n) place n.first n.first_delay stands.meaning.first in
    let second = parent_written (has_second n) place n.second n.second_delay stands.meaning.second in
    let flags : flags_of (event_in place n x.event.kind (comp_latency stands.component x.event.kind)).event ≡ n.flags =
    ap (λ there. flag_number (is_critical_in n) there (is_some (parent_if (has_second n) n.second n.second_delay))) (there_is (has_first n) n.first n.first_delay)
    ∙ (ap (λ there. flag_number (is_critical_in n) (has_first n) there) (there_is (has_second n) n.second n.second_delay) ∙ flags_written n.flags stands.meaning.flags) in
    let written : record_bytes (event_in place n x.event.kind (comp_latency stands.component x.event.kind)) ≡ numbers_bytes n =
    rw (kind.0, flags, first.0, first.1, second.0, second.1, kind.1, kind.2) refl in
    ap record_bytes (sym stands.is) ∙ (written ∙ numbers_written field low long)
