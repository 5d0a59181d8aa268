-- The record of an event, read: its numbers stand for the event.
use Rattle.std.proofs.Common.{◌≡◌, ℕ, ◌+◌, ◌^◌, ◌<◌, ◌==◌, ◌&&◌, if◌then◌else◌, Bool, true, List, [], length, drop, Option, Some, None, refl, ap, sym, ◌∙◌, append-nil, arith}
use Rattle.std.specs.Prelude.{is_some}
use Rattle.std.proofs.lemmas.Bool.{lt-ltb}
use Rattle.std.proofs.lemmas.Option.{slice_get_within}
use Rattle.byteorder.specs.Endian.{little_bytes, little_number}
use Rattle.byteorder.specs.Numbers.{little_number-reads_back}
use Rattle.component.specs.declared.kind.Kind.{Kind}
use Rattle.component.specs.declared.kind.Kind.TheVariants.{Lookup, Remote, Fill, Read, Write, Hop, RowRead}
use Rattle.component.specs.declared.comp.Comp.{Comp}
use Rattle.component.specs.Serving.{comp_latency, comp_serves}
use Rattle.event_graph.specs.declared.event.Event.{Event}
use Rattle.event_graph.specs.declared.event.Parent.{Parent}
use Rattle.event_graph.specs.Fits.{EventFits}
use Rattle.event_graph.specs.OneListWeave.{FiredEvent}
use Rattle.certify.specs.CanBeFiled.{CanBeWritten}
use Rattle.certify.specs.declared.numbers.Numbers.{Numbers}
use Rattle.certify.specs.EventsFile.{bank_of, event_in, event_of, flags_of, has_meaning, is_parent, kind_code, kind_of_code, numbers_of, parent_delay, parent_if, parent_number, record_bytes, row_of}
use Rattle.certify.proofs.Records.{flags_back}

-- the numbers of an event
abbrev numbers_written : FiredEvent → Numbers
numbers_written x = record {
  component = x.event.component;
  core = x.event.core;
  kind = kind_code x.event.kind;
  flags = flags_of x.event;
  bank = bank_of x.event.kind;
  row = row_of x.event.kind;
  min_start = x.event.min_start;
  first = parent_number x.event.first;
  second = parent_number x.event.second;
  first_delay = parent_delay x.event.first;
  second_delay = parent_delay x.event.second;
  start = x.start;
  finish = x.finish;
}

-- numbers that are the same make the same record
same_fields : (a0 a1 a2 a3 a4 a5 a6 a7 a8 a9 a10 a11 a12 : ℕ) (b0 b1 b2 b3 b4 b5 b6 b7 b8 b9 b10 b11 b12 : ℕ) → a0 ≡ b0 → a1 ≡ b1 → a2 ≡ b2 → a3 ≡ b3 → a4 ≡ b4 → a5 ≡ b5 → a6 ≡ b6 → a7 ≡ b7 → a8 ≡ b8 → a9 ≡ b9 → a10 ≡ b10 → a11 ≡ b11 → a12 ≡ b12
    → (let a : Numbers = record { component = a0; core = a1; kind = a2; flags = a3; bank = a4; row = a5; min_start = a6; first = a7; second = a8; first_delay = a9; second_delay = a10; start = a11; finish = a12 } in a)
    ≡ record { component = b0; core = b1; kind = b2; flags = b3; bank = b4; row = b5; min_start = b6; first = b7; second = b8; first_delay = b9; second_delay = b10; start = b11; finish = b12 }
same_fields a0 a1 a2 a3 a4 a5 a6 a7 a8 a9 a10 a11 a12 b0 b1 b2 b3 b4 b5 b6 b7 b8 b9 b10 b11 b12 e0 e1 e2 e3 e4 e5 e6 e7 e8 e9 e10 e11 e12 = cc

same_numbers : (a b : Numbers) → a.component ≡ b.component → a.core ≡ b.core → a.kind ≡ b.kind → a.flags ≡ b.flags → a.bank ≡ b.bank → a.row ≡ b.row → a.min_start ≡ b.min_start → a.first ≡ b.first → a.second ≡ b.second → a.first_delay ≡ b.first_delay → a.second_delay ≡ b.second_delay → a.start ≡ b.start → a.finish ≡ b.finish → a ≡ b
same_numbers a b e0 e1 e2 e3 e4 e5 e6 e7 e8 e9 e10 e11 e12 =
    same_fields a.component a.core a.kind a.flags a.bank a.row a.min_start a.first a.second a.first_delay a.second_delay a.start a.finish
    b.component b.core b.kind b.flags b.bank b.row b.min_start b.first b.second b.first_delay b.second_delay b.start b.finish
    e0 e1 e2 e3 e4 e5 e6 e7 e8 e9 e10 e11 e12

-- a parent that comes before a place, by a delay that fits
pub record IsBefore (place : ℕ) (parent : Option Parent) : Type 0 where
  pub number : parent_number parent < 2 ^ 32
  pub delay : parent_delay parent < 2 ^ 60
  pub is : is_parent (is_some parent) place (parent_number parent) (parent_delay parent) ≡ true

pub is_before : (place : ℕ) (parent : Option Parent) → place < 2 ^ 32 → ((p : Parent) → parent ≡ Some p → p.number < place) → ((p : Parent) → parent ≡ Some p → p.delay < 2 ^ 60)
    → IsBefore place parent
is_before place None few before short = record { number = omega arith; delay = omega arith; is = refl }
is_before place (Some p) few before short =
    let first : p.number < place = before p refl in
    let low : p.delay < 2 ^ 60 = short p refl in
    record { number = omega (arith, first, few); delay = low; is = rw (lt-ltb p.number place first) (lt-ltb p.delay (2 ^ 60) low) }

parent_back : (parent : Option Parent) → parent_if (is_some parent) (parent_number parent) (parent_delay parent) ≡ parent
parent_back None = refl
parent_back (Some p) = refl

-- the kind is read again of its code, its bank and its row
kind_back : (kind : Kind) → (if kind_code kind == 6 then Some (RowRead (bank_of kind) (row_of kind)) else if bank_of kind == 0 && row_of kind == 0 then kind_of_code (kind_code kind) else None) ≡ Some kind
kind_back Lookup = refl
kind_back Remote = refl
kind_back Fill = refl
kind_back Read = refl
kind_back Write = refl
kind_back Hop = refl
kind_back (RowRead bank row) = refl

numbers_back : (x : FiredEvent) (place : ℕ) → CanBeWritten x → x.event.component < 2 ^ 16 → IsBefore place x.event.first → IsBefore place x.event.second
    → numbers_of (record_bytes x) ≡ numbers_written x
unfolding numbers_of record_bytes
numbers_back x place can component first second =
    let bytes = record_bytes x in
    same_numbers (numbers_of bytes) (numbers_written x)
    (little_number-reads_back 2 x.event.component (drop 2 bytes) component)
    (little_number-reads_back 2 x.event.core (drop 4 bytes) can.core)
    refl refl
    (little_number-reads_back 2 (bank_of x.event.kind) (drop 8 bytes) can.bank)
    (little_number-reads_back 8 (row_of x.event.kind) (drop 16 bytes) can.row)
    (little_number-reads_back 8 x.event.min_start (drop 24 bytes) (omega (arith, can.min_start)))
    (little_number-reads_back 4 (parent_number x.event.first) (drop 28 bytes) (omega (arith, first.number)))
    (little_number-reads_back 4 (parent_number x.event.second) (drop 32 bytes) (omega (arith, second.number)))
    (little_number-reads_back 8 (parent_delay x.event.first) (drop 40 bytes) (omega (arith, first.delay)))
    (little_number-reads_back 8 (parent_delay x.event.second) (drop 48 bytes) (omega (arith, second.delay)))
    (little_number-reads_back 8 x.start (drop 56 bytes) (omega (arith, can.start)))
    (ap (little_number 8) (sym (append-nil (little_bytes 8 x.finish))) ∙ little_number-reads_back 8 x.finish [] (omega (arith, can.finish)))

have_meaning : (x : FiredEvent) (place : ℕ) → CanBeWritten x → IsBefore place x.event.first → IsBefore place x.event.second → has_meaning place (numbers_written x) ≡ true
unfolding has_meaning
have_meaning x place can first second =
    let flags = flags_back x.event.critical (is_some x.event.first) (is_some x.event.second) in
    rw (
      flags.low,
      flags.first_is,
      flags.second_is,
      first.is,
      second.is,
      lt-ltb x.event.min_start (2 ^ 60) can.min_start,
      lt-ltb x.start (2 ^ 60) can.start,
      lt-ltb x.finish (2 ^ 60) can.finish,
    ) refl

-- a parent by the flags, and the event of all
same_event_fields : (a0 b0 : ℕ) (a1 b1 : ℕ) (a2 b2 : ℕ) (a3 b3 : Kind) (a4 b4 : Bool) (a5 b5 : ℕ) (a6 b6 : ℕ) (a7 b7 : Option Parent) (a8 b8 : Option Parent) → a0 ≡ b0 → a1 ≡ b1 → a2 ≡ b2 → a3 ≡ b3 → a4 ≡ b4 → a5 ≡ b5 → a6 ≡ b6 → a7 ≡ b7 → a8 ≡ b8
    → (let a : Event = record { number = a0; core = a1; component = a2; kind = a3; critical = a4; min_start = a5; min_finish = a6; first = a7; second = a8 } in a) ≡ record { number = b0; core = b1; component = b2; kind = b3; critical = b4; min_start = b5; min_finish = b6; first = b7; second = b8 }
same_event_fields a0 b0 a1 b1 a2 b2 a3 b3 a4 b4 a5 b5 a6 b6 a7 b7 a8 b8 e0 e1 e2 e3 e4 e5 e6 e7 e8 = cc

same_event : (a b : Event) → a.number ≡ b.number → a.core ≡ b.core → a.component ≡ b.component → a.kind ≡ b.kind → a.critical ≡ b.critical → a.min_start ≡ b.min_start → a.min_finish ≡ b.min_finish → a.first ≡ b.first → a.second ≡ b.second → a ≡ b
same_event a b e0 e1 e2 e3 e4 e5 e6 e7 e8 =
    same_event_fields a.number b.number a.core b.core a.component b.component a.kind b.kind a.critical b.critical a.min_start b.min_start a.min_finish b.min_finish a.first b.first a.second b.second e0 e1 e2 e3 e4 e5 e6 e7 e8

event_back : (x : FiredEvent) (place floor : ℕ) → x.event.number ≡ place → x.event.min_start + floor ≡ x.event.min_finish → event_in place (numbers_written x) x.event.kind floor ≡ x
event_back x place floor number ends =
    let flags = flags_back x.event.critical (is_some x.event.first) (is_some x.event.second) in
    let back = (event_in place (numbers_written x) x.event.kind floor).event in
    let same : back ≡ x.event = same_event back x.event (sym number) refl refl refl flags.critical_is refl ends
    (ap (λ there. parent_if there (parent_number x.event.first) (parent_delay x.event.first)) flags.first_is ∙ parent_back x.event.first)
    (ap (λ there. parent_if there (parent_number x.event.second) (parent_delay x.event.second)) flags.second_is ∙ parent_back x.event.second) in
    let whole : event_in place (numbers_written x) x.event.kind floor ≡ x = ap (λ e. let y : FiredEvent = record { event = e; start = x.start; finish = x.finish } in y) same in
    whole

-- what is written of an event that fits stands for it
pub record_read : (comps : List Comp) (place : ℕ) (x : FiredEvent) → CanBeWritten x → length comps < 2 ^ 16 → place < 2 ^ 32 → x.event.number ≡ place
    → ((p : Parent) → x.event.first ≡ Some p → p.number < place) → ((p : Parent) → x.event.second ≡ Some p → p.number < place)
    → EventFits comp_serves comp_latency comps x.event → event_of comps place (numbers_of (record_bytes x)) ≡ Some x
unfolding event_of
record_read comps place x can narrow few number before also fits =
    let first = is_before place x.event.first few before can.first in
    let second = is_before place x.event.second few also can.second in
    let component : x.event.component < 2 ^ 16 = omega (arith, slice_get_within comps x.event.component fits.component fits.there, narrow) in
    let served : comp_serves fits.component x.event.kind ≡ true = fits.served in
    rw (numbers_back x place can component first second, have_meaning x place can first second, kind_back x.event.kind, fits.there, served)
    (ap Some (event_back x place (comp_latency fits.component x.event.kind) number fits.floor_is))
