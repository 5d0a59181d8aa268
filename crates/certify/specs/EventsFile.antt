-- The file of the events of a run: of each interval its events in order of number, each with its start and its finish. Numbers have the lowest
-- byte first.
use Rattle.std.specs.Prelude.{ℕ, zero, suc, ◌+◌, ◌*◌, ◌%◌, ◌^◌, ◌==◌, nat_le, nat_lt, Bool, true, false, ◌&&◌, if◌then◌else◌, List, [], ◌∷◌, ◌++◌, length, codes, map, take, drop, slice_get, slice_index, is_some, Option, Some, None, Result, Ok, Err}
use Rattle.std.specs.List.{flat_map, zip}
use Rattle.std.specs.Option.{option_and_then}
use Rattle.std.specs.Str.{bytes_eq}
use Rattle.byteorder.specs.Endian.{little_bytes, little_number}
use Rattle.component.specs.declared.kind.Kind.{Kind}
use Rattle.component.specs.declared.kind.Kind.TheVariants.{Lookup, Remote, Fill, Read, Write, Hop, RowRead}
use Rattle.component.specs.declared.comp.Comp.{Comp}
use Rattle.component.specs.Serving.{comp_latency, comp_serves}
use Rattle.event_graph.specs.declared.event.Event.{Event}
use Rattle.event_graph.specs.declared.event.Parent.{Parent}
use Rattle.event_graph.specs.declared.fired.Fired.{Fired}
use Rattle.event_graph.specs.OneListWeave.{FiredEvent}
use Rattle.certify.specs.declared.bad_events.BadEvents.{BadEvents}
use Rattle.certify.specs.declared.bad_events.BadEvents.TheVariants as bad
use Rattle.certify.specs.declared.numbers.Numbers.{Numbers}

abbrev pub magic : List ℕ
magic = codes "ZSEV"

abbrev pub version : ℕ
version = 1

-- how many bytes an event has
abbrev pub record_length : ℕ
record_length = 64

-- ---- written

-- an event with the start and the finish at which it fired
abbrev pub with_time : Event → Fired → FiredEvent
with_time e f = record { event = e; start = f.start; finish = f.finish }

-- the events of a graph with those at which they fired, in order of number
abbrev pub with_times : List Event → List Fired → List FiredEvent
with_times events fired = map (λ x. with_time x.0 x.1) (zip events fired)

abbrev pub kind_code : Kind → ℕ
kind_code Lookup = 0
kind_code Remote = 1
kind_code Fill = 2
kind_code Read = 3
kind_code Write = 4
kind_code Hop = 5
kind_code (RowRead bank row) = 6

-- the bank and the row that a kind names, 0 where it names none
abbrev pub bank_of : Kind → ℕ
bank_of Lookup = 0
bank_of Remote = 0
bank_of Fill = 0
bank_of Read = 0
bank_of Write = 0
bank_of Hop = 0
bank_of (RowRead bank row) = bank

abbrev pub row_of : Kind → ℕ
row_of Lookup = 0
row_of Remote = 0
row_of Fill = 0
row_of Read = 0
row_of Write = 0
row_of Hop = 0
row_of (RowRead bank row) = row

abbrev pub place_bytes : Kind → List ℕ
place_bytes kind = little_bytes 2 (bank_of kind) ++ little_bytes 8 (row_of kind)

-- a parent's number and its delay, 0 where there is none
abbrev pub parent_number : Option Parent → ℕ
parent_number None = 0
parent_number (Some p) = p.number

abbrev pub parent_delay : Option Parent → ℕ
parent_delay None = 0
parent_delay (Some p) = p.delay

-- a bit of the flags
abbrev pub flag_if : (there : Bool) → (bit : ℕ) → ℕ
flag_if there bit = if there then bit else 0

-- whether it is the last event of its access, and which of its parents there are
abbrev pub flags_of : Event → ℕ
flags_of e = flag_if e.critical 1 + (flag_if (is_some e.first) 2 + flag_if (is_some e.second) 4)

-- the 64 bytes of an event
unfoldable pub record_bytes : FiredEvent → List ℕ
record_bytes x =
    little_bytes 2 x.event.component ++ (little_bytes 2 x.event.core ++ (kind_code x.event.kind ∷ flags_of x.event ∷ (place_bytes x.event.kind
    ++ (little_bytes 8 x.event.min_start ++ (little_bytes 4 (parent_number x.event.first) ++ (little_bytes 4 (parent_number x.event.second)
    ++ (little_bytes 8 (parent_delay x.event.first) ++ (little_bytes 8 (parent_delay x.event.second)
    ++ (little_bytes 8 x.start ++ little_bytes 8 x.finish)))))))))

-- an interval: how many events, and these
abbrev pub interval_bytes : List FiredEvent → List ℕ
interval_bytes timed = little_bytes 4 (length timed) ++ flat_map record_bytes timed

-- the magic, the version, how many components there are, and how many intervals
unfoldable pub header_bytes : (components intervals : ℕ) → List ℕ
header_bytes components intervals = magic ++ (little_bytes 4 version ++ (little_bytes 4 components ++ little_bytes 4 intervals))

-- the file of these intervals, on so many components
abbrev pub events_file_of : (components : ℕ) → List (List FiredEvent) → List ℕ
events_file_of components intervals = header_bytes components (length intervals) ++ flat_map interval_bytes intervals

-- ---- read, from front to back

-- what follows, unless something was wrong
abbrev pub then_read : {A B : Type 0} → Result A BadEvents → (A → Result B BadEvents) → Result B BadEvents
then_read (Ok x) f = f x
then_read (Err wrong) f = Err wrong

-- so many bytes of a file from a place on, or that they do not lie wholly in it
abbrev pub field_at : (bytes : List ℕ) → (at count : ℕ) → Result (List ℕ) BadEvents
field_at bytes at count = if nat_le (at + count) (length bytes) then Ok (take count (drop at bytes)) else Err (bad.Short at)

abbrev pub read_number : (bytes : List ℕ) → (at : ℕ) → Result ℕ BadEvents
read_number bytes at = then_read (field_at bytes at 4) (λ field. Ok (little_number 4 field))

-- the numbers in the 64 bytes of an event
unfoldable pub numbers_of : List ℕ → Numbers
numbers_of bytes = record {
  component = little_number 2 bytes;
  core = little_number 2 (drop 2 bytes);
  kind = slice_index bytes 4;
  flags = slice_index bytes 5;
  bank = little_number 2 (drop 6 bytes);
  row = little_number 8 (drop 8 bytes);
  min_start = little_number 8 (drop 16 bytes);
  first = little_number 4 (drop 24 bytes);
  second = little_number 4 (drop 28 bytes);
  first_delay = little_number 8 (drop 32 bytes);
  second_delay = little_number 8 (drop 40 bytes);
  start = little_number 8 (drop 48 bytes);
  finish = little_number 8 (drop 56 bytes);
}

-- the kind of a code, where it names no bank and no row
abbrev pub kind_of_code : (code : ℕ) → Option Kind
kind_of_code code =
    if code == 0 then Some Lookup else if code == 1 then Some Remote else if code == 2 then Some Fill else if code == 3 then Some Read
    else if code == 4 then Some Write else if code == 5 then Some Hop else None

-- the kind of a record; a bank and a row that have no meaning are 0
abbrev pub kind_in : Numbers → Option Kind
kind_in n =
    if n.kind == 6 then Some (RowRead n.bank n.row) else if n.bank == 0 && n.row == 0 then kind_of_code n.kind else None

-- the bits of the flags; there are no others
abbrev pub is_critical_in : Numbers → Bool
is_critical_in n = n.flags % 2 == 1

abbrev pub has_first : Numbers → Bool
has_first n = nat_le 2 (n.flags % 4)

abbrev pub has_second : Numbers → Bool
has_second n = nat_le 4 n.flags

-- cycles and delays are below 2^60
abbrev pub is_cycle : ℕ → Bool
is_cycle n = nat_lt n (2 ^ 60)

-- a parent that is there comes before its child, and one that is not has no number and no delay
abbrev pub is_parent : (there : Bool) → (place number delay : ℕ) → Bool
is_parent true place number delay = nat_lt number place && is_cycle delay
is_parent false place number delay = number == 0 && delay == 0

-- the numbers of the event at a place have a meaning
unfoldable pub has_meaning : (place : ℕ) → Numbers → Bool
has_meaning place n =
    nat_lt n.flags 8 && (is_parent (has_first n) place n.first n.first_delay && (is_parent (has_second n) place n.second n.second_delay
    && (is_cycle n.min_start && (is_cycle n.start && is_cycle n.finish))))

abbrev pub parent_if : (there : Bool) → (number delay : ℕ) → Option Parent
parent_if there number delay = if there then Some (record { number = number; delay = delay }) else None

-- the event at a place, of a kind that its component serves with this floor
abbrev pub event_in : (place : ℕ) → Numbers → Kind → (floor : ℕ) → FiredEvent
event_in place n kind floor = record {
  event = record {
    number = place;
    core = n.core;
    component = n.component;
    kind = kind;
    min_start = n.min_start;
    min_finish = n.min_start + floor;
    critical = is_critical_in n;
    first = parent_if (has_first n) n.first n.first_delay;
    second = parent_if (has_second n) n.second n.second_delay;
  };
  start = n.start;
  finish = n.finish;
}

-- the same, if the component is there and serves the kind
abbrev pub served_in : List Comp → (place : ℕ) → Numbers → Kind → Option FiredEvent
served_in comps place n kind =
    option_and_then (λ c. if comp_serves c kind then Some (event_in place n kind (comp_latency c kind)) else None) (slice_get comps n.component)

-- the event that the numbers at a place stand for, if they stand for one
unfoldable pub event_of : List Comp → (place : ℕ) → Numbers → Option FiredEvent
event_of comps place n = if has_meaning place n then option_and_then (served_in comps place n) (kind_in n) else None

-- the event, or that its record is wrong
abbrev pub known_event : (interval place : ℕ) → Option FiredEvent → Result FiredEvent BadEvents
known_event interval place None = Err (bad.Field interval place)
known_event interval place (Some x) = Ok x

-- the event at a place of an interval, whose record begins at this byte
unfoldable pub read_event : List Comp → (bytes : List ℕ) → (interval place at : ℕ) → Result FiredEvent BadEvents
read_event comps bytes interval place at =
    then_read (field_at bytes at record_length) (λ field. known_event interval place (event_of comps place (numbers_of field)))

-- so many events from a place of an interval on
abbrev pub events_from : List Comp → (bytes : List ℕ) → (interval : ℕ) → (left place at : ℕ) → Result (List FiredEvent) BadEvents
events_from comps bytes interval zero place at = Ok []
events_from comps bytes interval (suc left) place at =
    then_read (read_event comps bytes interval place at) (λ x.
    then_read (events_from comps bytes interval left (place + 1) (at + record_length)) (λ xs. Ok (x ∷ xs)))

-- the events of an interval that begins at this byte
unfoldable pub interval_from : List Comp → (bytes : List ℕ) → (interval at : ℕ) → Result (List FiredEvent) BadEvents
interval_from comps bytes interval at = then_read (read_number bytes at) (λ count. events_from comps bytes interval count 0 (at + 4))

-- so many intervals from a byte on, the first of which has this number, and then the end of the file
abbrev pub intervals_from : List Comp → (bytes : List ℕ) → (left interval at : ℕ) → Result (List (List FiredEvent)) BadEvents
intervals_from comps bytes zero interval at = if at == length bytes then Ok [] else Err (bad.After at)
intervals_from comps bytes (suc left) interval at =
    then_read (interval_from comps bytes interval at) (λ timed.
    then_read (intervals_from comps bytes left (interval + 1) (at + (4 + record_length * length timed))) (λ rest. Ok (timed ∷ rest)))

-- how many intervals the header names, of a file for so many components
unfoldable pub count_of : (components : ℕ) → (bytes : List ℕ) → Result ℕ BadEvents
count_of components bytes =
    then_read (field_at bytes 0 4) (λ found_magic. if bytes_eq found_magic magic then
    then_read (read_number bytes 4) (λ found. if found == version then
    then_read (read_number bytes 8) (λ found. if found == components then read_number bytes 12 else Err (bad.Components found))
    else Err (bad.Version found))
    else Err bad.Magic)

-- what a file says of these components, or the first thing that is wrong with it
unfoldable pub events_of : List Comp → (bytes : List ℕ) → Result (List (List FiredEvent)) BadEvents
events_of comps bytes = then_read (count_of (length comps) bytes) (λ count. intervals_from comps bytes count 0 16)
