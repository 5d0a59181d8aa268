-- The intervals of a file that was read, from byte to byte: the records of each stand for its events.
use Rattle.std.proofs.Common.{◌≡◌, ◌<◌, ◌≤◌, ◌+◌, ◌-◌, ◌*◌, ◌==◌, ℕ, zero, suc, if◌then◌else◌, List, [], ◌∷◌, length, map, take, drop, Option, Some, None, Ok, refl, ap, sym, ◌∙◌, subst, arith}
use Rattle.std.specs.Prelude.{slice_get}
use Rattle.std.specs.List.{enumerate_from}
use Rattle.std.specs.Option.{option_and_then, option_map}
use Rattle.std.proofs.lemmas.List.{drop-drop, drop-take, length-drop, length-take-le, take-take}
use Rattle.std.proofs.lemmas.Option.{slice_get_within}
use Rattle.byteorder.specs.Endian.{little_number}
use Rattle.byteorder.specs.Numbers.{little_from-take}
use Rattle.component.specs.declared.comp.Comp.{Comp}
use Rattle.component.specs.declared.kind.Kind.{Kind}
use Rattle.component.specs.ComponentStep.{comp_step}
use Rattle.component.specs.Serving.{comp_latency, comp_serves}
use Rattle.event_graph.specs.OneListWeave.{FiredEvent}
use Rattle.event_graph.specs.ServedEvents.{after_serving, of_component}
use Rattle.certify.specs.declared.numbers.Numbers.{Numbers}
use Rattle.certify.specs.EventsFile.{event_in, event_of, events_from, field_at, interval_from, intervals_from, kind_in, known_event, numbers_of, read_event, read_number, served_in, then_read}
use Rattle.certify.specs.Records.{AreRecords, record_at}
use Rattle.certify.specs.Verdict.{after_all, in_order}
use Rattle.certify.proofs.Fields.{field_read, first_read, test_passed}
use Rattle.certify.proofs.Steps.{still_serves, still_takes}
use Rattle.certify.proofs.ReadAndWritten.{event_known}

-- ---- what numbers stand for stays when the components serve

after_at : (comps : List Comp) (base : ℕ) (xs : List FiredEvent) (i : ℕ)
    → slice_get (map (λ at. after_serving comp_step at.1 (of_component at.0 xs)) (enumerate_from base comps)) i
    ≡ option_map (λ c. after_serving comp_step c (of_component (base + i) xs)) (slice_get comps i)
after_at [] base xs i = refl
after_at (c ∷ cs) base xs zero = (let here : base ≡ base + 0 = omega arith in ap (λ n. Some (after_serving comp_step c (of_component n xs))) here)
after_at (c ∷ cs) base xs (suc i) =
    let next : base + 1 + i ≡ base + suc i = omega arith in
    after_at cs (base + 1) xs i ∙ ap (λ n. option_map (λ d. after_serving comp_step d (of_component n xs)) (slice_get cs i)) next

pub after_is : (comps : List Comp) (timed : List FiredEvent) (i : ℕ)
    → slice_get (after_all comps timed) i ≡ option_map (λ c. after_serving comp_step c (of_component i (in_order timed))) (slice_get comps i)
after_is comps timed i = (let same : 0 + i ≡ i = omega arith in after_at comps 0 (in_order timed) i ∙ ap (λ n. option_map (λ d. after_serving comp_step d (of_component n (in_order timed))) (slice_get comps i)) same)

served_same : (o : Option Comp) (xs : List FiredEvent) (place : ℕ) (n : Numbers) (kind : Kind)
    → option_and_then (λ c. if comp_serves c kind then Some (event_in place n kind (comp_latency c kind)) else None) (option_map (λ c. after_serving comp_step c xs) o)
    ≡ option_and_then (λ c. if comp_serves c kind then Some (event_in place n kind (comp_latency c kind)) else None) o
served_same None xs place n kind = refl
served_same (Some c) xs place n kind = rw (still_serves c xs kind, still_takes c xs kind) refl

served_in_same : (comps : List Comp) (timed : List FiredEvent) (place : ℕ) (n : Numbers) (kind : Kind) → served_in (after_all comps timed) place n kind ≡ served_in comps place n kind
served_in_same comps timed place n kind =
    ap (option_and_then (λ c. if comp_serves c kind then Some (event_in place n kind (comp_latency c kind)) else None)) (after_is comps timed n.component)
    ∙ served_same (slice_get comps n.component) (of_component n.component (in_order timed)) place n kind

known_same : (f g : Kind → Option FiredEvent) (o : Option Kind) → ((kind : Kind) → f kind ≡ g kind) → option_and_then f o ≡ option_and_then g o
known_same f g None same = refl
known_same f g (Some kind) same = same kind

pub event_stays : (comps : List Comp) (timed : List FiredEvent) (place : ℕ) (n : Numbers) → event_of (after_all comps timed) place n ≡ event_of comps place n
unfolding event_of
event_stays comps timed place n =
    rw (known_same (served_in (after_all comps timed) place n) (served_in comps place n) (kind_in n) (served_in_same comps timed place n)) refl

records_stay : (comps : List Comp) (timed others : List FiredEvent) (records : List ℕ) → AreRecords comps others records → AreRecords (after_all comps timed) others records
records_stay comps timed others records are = record {
  long = are.long;
  each = λ place x is. event_stays comps timed place (record_at records place) ∙ are.each place x is;
}

-- ---- an interval of a file

-- it begins at this byte
pub record IsIntervalAt (comps : List Comp) (file : List ℕ) (at : ℕ) (timed : List FiredEvent) : Type 0 where
  pub within : at + (4 + 64 * length timed) ≤ length file
  pub count : little_number 4 (drop at file) ≡ length timed
  pub records : AreRecords comps timed (take (64 * length timed) (drop (at + 4) file))

-- intervals, the first of which begins at this byte
abbrev pub AreIntervalsAt : List Comp → List ℕ → (at : ℕ) → List (List FiredEvent) → Type 0
AreIntervalsAt comps file at [] = Unit {0}
AreIntervalsAt comps file at (timed ∷ rest) = IsIntervalAt comps file at timed × AreIntervalsAt comps file (at + (4 + 64 * length timed)) rest

interval_stays : (comps : List Comp) (timed : List FiredEvent) (file : List ℕ) (at : ℕ) (other : List FiredEvent) → IsIntervalAt comps file at other → IsIntervalAt (after_all comps timed) file at other
interval_stays comps timed file at other is = record { within = is.within; count = is.count; records = records_stay comps timed other (take (64 * length other) (drop (at + 4) file)) is.records }

-- ---- the events of an interval that was read

record AreEvents (comps : List Comp) (file : List ℕ) (left place at : ℕ) (timed : List FiredEvent) : Type 0 where
  pub many : length timed ≡ left
  pub within : at ≤ length file → at + 64 * left ≤ length file
  pub each : (k : ℕ) (x : FiredEvent) → slice_get timed k ≡ Some x → event_of comps (place + k) (numbers_of (take 64 (drop (at + 64 * k) file))) ≡ Some x

event_read : (comps : List Comp) (file : List ℕ) (interval place at : ℕ) (x : FiredEvent) → read_event comps file interval place at ≡ Ok x
    → (at + 64 ≤ length file) × (event_of comps place (numbers_of (take 64 (drop at file))) ≡ Some x)
unfolding read_event
event_read comps file interval place at x is =
    let read = first_read (field_at file at 64) (λ field. known_event interval place (event_of comps place (numbers_of field))) x is in
    let has = field_read file at 64 read.0 read.1 in
    (has.0.within, ap (λ field. event_of comps place (numbers_of field)) (sym has.1) ∙ event_known interval place (event_of comps place (numbers_of read.0)) x read.2)

events_read : (comps : List Comp) (file : List ℕ) (interval left place at : ℕ) (timed : List FiredEvent) → events_from comps file interval left place at ≡ Ok timed → AreEvents comps file left place at timed
events_read comps file interval zero place at timed is =
    let none : [] ≡ timed = cc (is) in
    subst (AreEvents comps file zero place at) none (record { many = refl; within = λ here. omega (arith, here); each = λ k x there. cc })
events_read comps file interval (suc left) place at timed is =
    let first = first_read (read_event comps file interval place at) (λ x. then_read (events_from comps file interval left (place + 1) (at + 64)) (λ xs. Ok (x ∷ xs))) timed is in
    let others = first_read (events_from comps file interval left (place + 1) (at + 64)) (λ xs. Ok (first.0 ∷ xs)) timed first.2 in
    let head = event_read comps file interval place at first.0 first.1 in
    let tail = events_read comps file interval left (place + 1) (at + 64) others.0 others.1 in
    let all : first.0 ∷ others.0 ≡ timed = cc (others.2) in
    subst (AreEvents comps file (suc left) place at) all (record {
      many = ap suc tail.many;
      within = λ here. omega (arith, tail.within head.0);
      each = each_of comps file place at first.0 others.0 head.1 tail.each;
    })
  where
    each_of : (comps : List Comp) (file : List ℕ) (place at : ℕ) (x : FiredEvent) (xs : List FiredEvent) → event_of comps place (numbers_of (take 64 (drop at file))) ≡ Some x
        → ((k : ℕ) (y : FiredEvent) → slice_get xs k ≡ Some y → event_of comps (place + 1 + k) (numbers_of (take 64 (drop (at + 64 + 64 * k) file))) ≡ Some y)
        → (k : ℕ) (y : FiredEvent) → slice_get (x ∷ xs) k ≡ Some y → event_of comps (place + k) (numbers_of (take 64 (drop (at + 64 * k) file))) ≡ Some y
    each_of comps file place at x xs first rest zero y is =
        let here : place ≡ place + 0 = omega arith in
        let byte : at ≡ at + 64 * 0 = omega arith in
        subst (λ p. event_of comps p (numbers_of (take 64 (drop (at + 64 * 0) file))) ≡ Some y) here
        (subst (λ b. event_of comps place (numbers_of (take 64 (drop b file))) ≡ Some y) byte (first ∙ is))
    each_of comps file place at x xs first rest (suc k) y is =
        let here : place + 1 + k ≡ place + suc k = omega arith in
        let byte : at + 64 + 64 * k ≡ at + 64 * suc k = omega arith in
        subst (λ p. event_of comps p (numbers_of (take 64 (drop (at + 64 * suc k) file))) ≡ Some y) here
        (subst (λ b. event_of comps (place + 1 + k) (numbers_of (take 64 (drop b file))) ≡ Some y) byte (rest k y is))

-- a record among those of an interval
record_among : (file : List ℕ) (at count k : ℕ) → k < count → record_at (take (64 * count) (drop at file)) k ≡ numbers_of (take 64 (drop (at + 64 * k) file))
unfolding record_at
record_among file at count k within =
    let rest : ℕ = 64 * count - 64 * k in
    let whole : 64 * count ≡ 64 * k + rest = omega (arith, within) in
    ap numbers_of (ap (take 64) (ap (λ n. drop (64 * k) (take n (drop at file))) whole ∙ drop-take (64 * k) rest (drop at file))
    ∙ (take-take 64 rest (drop (64 * k) (drop at file)) (omega (arith, within)) ∙ ap (take 64) (drop-drop (64 * k) at file)))

interval_read : (comps : List Comp) (file : List ℕ) (interval at : ℕ) (timed : List FiredEvent) → interval_from comps file interval at ≡ Ok timed → IsIntervalAt comps file at timed
unfolding interval_from
interval_read comps file interval at timed is =
    let counted = first_read (read_number file at) (λ count. events_from comps file interval count 0 (at + 4)) timed is in
    let number = first_read (field_at file at 4) (λ field. Ok (little_number 4 field)) counted.0 counted.1 in
    let field = field_read file at 4 number.0 number.1 in
    let same : little_number 4 number.0 ≡ counted.0 = cc (number.2) in
    let events = events_read comps file interval counted.0 0 (at + 4) timed counted.2 in
    let ends : at + 4 + 64 * counted.0 ≤ length file = events.within field.0.within in
    record {
      within = omega (arith, ends, events.many);
      count = sym (little_from-take 0 4 4 (drop at file) (omega arith)) ∙ (ap (little_number 4) (sym field.1) ∙ (same ∙ sym events.many));
      records = record {
        long = length-take-le (64 * length timed) (drop (at + 4) file) (rw length-drop (omega (arith, ends, events.many)));
        each = λ k x there.
            let within = slice_get_within timed k x there in
            let here : 0 + k ≡ k = omega arith in
            ap (event_of comps k) (record_among file (at + 4) (length timed) k within)
            ∙ subst (λ p. event_of comps p (numbers_of (take 64 (drop (at + 4 + 64 * k) file))) ≡ Some x) here (events.each k x there);
      };
    }

-- ---- the intervals of a file

pub intervals_stay : (comps : List Comp) (timed : List FiredEvent) (file : List ℕ) (at : ℕ) (rest : List (List FiredEvent))
    → AreIntervalsAt comps file at rest → AreIntervalsAt (after_all comps timed) file at rest
intervals_stay comps timed file at [] are = tt
intervals_stay comps timed file at (other ∷ rest) are =
    (interval_stays comps timed file at other are.0, intervals_stay comps timed file (at + (4 + 64 * length other)) rest are.1)

pub intervals_read : (comps : List Comp) (file : List ℕ) (count interval at : ℕ) (intervals : List (List FiredEvent)) → intervals_from comps file count interval at ≡ Ok intervals
    → AreIntervalsAt comps file at intervals
intervals_read comps file zero interval at intervals is =
    let passed = test_passed (at == length file) (Ok []) _ intervals is in
    let none : [] ≡ intervals = cc (passed.1) in
    subst (AreIntervalsAt comps file at) none tt
intervals_read comps file (suc count) interval at intervals is =
    let first = first_read (interval_from comps file interval at) (λ timed. then_read (intervals_from comps file count (interval + 1) (at + (4 + 64 * length timed))) (λ rest. Ok (timed ∷ rest))) intervals is in
    let others = first_read (intervals_from comps file count (interval + 1) (at + (4 + 64 * length first.0))) (λ rest. Ok (first.0 ∷ rest)) intervals first.2 in
    let all : first.0 ∷ others.0 ≡ intervals = cc (others.2) in
    subst (AreIntervalsAt comps file at) all
    (interval_read comps file interval at first.0 first.1, intervals_read comps file count (interval + 1) (at + (4 + 64 * length first.0)) others.0 others.1)
