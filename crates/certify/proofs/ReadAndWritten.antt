-- What a file says, written. Each part that was read is a field of the file, and what is behind it was read next.
use Rattle.std.proofs.Common.{◌≡◌, ℕ, zero, suc, ◌+◌, ◌*◌, ◌<◌, ◌==◌, if◌then◌else◌, bytes_eq, List, [], ◌∷◌, ◌++◌, All, length, drop, Option, Some, None, Result, Ok, Err, refl, ap, sym, subst, ◌∙◌, append_assoc, arith}
use Rattle.std.proofs.lemmas.Bool.{eqb-true}
use Rattle.std.proofs.lemmas.List.{drop_all}
use Rattle.std.proofs.lemmas.Slice.Eq.{bytes_eq-Decides}
use Rattle.std.specs.List.{flat_map}
use Rattle.byteorder.specs.Endian.{little_bytes}
use Rattle.component.specs.declared.comp.Comp.{Comp}
use Rattle.event_graph.specs.OneListWeave.{FiredEvent}
use Rattle.certify.specs.declared.bad_events.BadEvents.{BadEvents}
use Rattle.certify.specs.declared.bad_events.BadEvents.TheVariants as bad
use Rattle.certify.specs.EventsFile.{count_of, event_of, events_file_of, events_from, events_of, field_at, header_bytes, interval_bytes, interval_from, intervals_from, known_event, magic, numbers_of, read_event, read_number, record_bytes, then_read, version}
use Rattle.certify.proofs.Fields.{IsField, field_low, field_read, first_read, number_read, test_passed}
use Rattle.certify.proofs.Records.{record_written}

-- ---- the events of an interval

pub event_known : (interval place : ℕ) (found : Option FiredEvent) (x : FiredEvent) → known_event interval place found ≡ Ok x → found ≡ Some x
event_known interval place None x is = cc
event_known interval place (Some y) x is = cc

event_read : (comps : List Comp) (bytes : List ℕ) (interval place at : ℕ) (x : FiredEvent) → All (λ byte. byte < 256) bytes → read_event comps bytes interval place at ≡ Ok x
    → IsField bytes at 64 (record_bytes x)
unfolding read_event
event_read comps bytes interval place at x low is =
    let read = first_read (field_at bytes at 64) (λ field. known_event interval place (event_of comps place (numbers_of field))) x is in
    let field = read.0 in
    let has = field_read bytes at 64 field read.1 in
    let written : record_bytes x ≡ field = record_written comps place field x (field_low bytes at 64 field low has.1) has.0.long (event_known interval place (event_of comps place (numbers_of field)) x read.2) in
    subst (IsField bytes at 64) (sym written) has.0

-- so many events were read
record AreRead (bytes : List ℕ) (left at : ℕ) (timed : List FiredEvent) : Type 0 where
  pub ahead : drop at bytes ≡ flat_map record_bytes timed ++ drop (at + 64 * length timed) bytes
  pub many : length timed ≡ left

events_read : (comps : List Comp) (bytes : List ℕ) (interval left place at : ℕ) (timed : List FiredEvent) → All (λ byte. byte < 256) bytes → events_from comps bytes interval left place at ≡ Ok timed
    → AreRead bytes left at timed
events_read comps bytes interval zero place at timed low is =
    let none : [] ≡ timed = cc (is) in
    let here : at ≡ at + 64 * 0 = omega arith in
    subst (AreRead bytes zero at) none (record { ahead = ap (λ n. drop n bytes) here; many = refl })
events_read comps bytes interval (suc left) place at timed low is =
    let first = first_read (read_event comps bytes interval place at) (λ x. then_read (events_from comps bytes interval left (place + 1) (at + 64)) (λ xs. Ok (x ∷ xs))) timed is in
    let x = first.0 in
    let others = first_read (events_from comps bytes interval left (place + 1) (at + 64)) (λ xs. Ok (x ∷ xs)) timed first.2 in
    let xs = others.0 in
    let head = event_read comps bytes interval place at x low first.1 in
    let tail = events_read comps bytes interval left (place + 1) (at + 64) xs low others.1 in
    let all : x ∷ xs ≡ timed = cc (others.2) in
    let past : at + 64 + 64 * length xs ≡ at + 64 * suc (length xs) = omega arith in
    let records = flat_map record_bytes xs in
    subst (AreRead bytes (suc left) at) all (record {
      ahead = head.ahead ∙ (ap (λ rest. record_bytes x ++ rest) (tail.ahead ∙ ap (λ n. records ++ drop n bytes) past)
          ∙ sym (append_assoc (record_bytes x) records (drop (at + 64 * suc (length xs)) bytes)));
      many = ap suc tail.many;
    })

-- an interval was read
record IsInterval (bytes : List ℕ) (at : ℕ) (timed : List FiredEvent) : Type 0 where
  pub ahead : drop at bytes ≡ interval_bytes timed ++ drop (at + (4 + 64 * length timed)) bytes

interval_read : (comps : List Comp) (bytes : List ℕ) (interval at : ℕ) (timed : List FiredEvent) → All (λ byte. byte < 256) bytes → interval_from comps bytes interval at ≡ Ok timed
    → IsInterval bytes at timed
unfolding interval_from
interval_read comps bytes interval at timed low is =
    let counted = first_read (read_number bytes at) (λ count. events_from comps bytes interval count 0 (at + 4)) timed is in
    let count = counted.0 in
    let number = number_read bytes at count low counted.1 in
    let events = events_read comps bytes interval count 0 (at + 4) timed low counted.2 in
    let records = flat_map record_bytes timed in
    let past : at + 4 + 64 * length timed ≡ at + (4 + 64 * length timed) = omega arith in
    record {
      ahead = number.0.ahead
          ∙ (ap (λ rest. little_bytes 4 count ++ rest) (events.ahead ∙ ap (λ n. records ++ drop n bytes) past)
          ∙ (ap (λ n. little_bytes 4 n ++ (records ++ drop (at + (4 + 64 * length timed)) bytes)) (sym events.many)
          ∙ sym (append_assoc (little_bytes 4 (length timed)) records (drop (at + (4 + 64 * length timed)) bytes))));
    }

-- all intervals were read
record AreIntervals (bytes : List ℕ) (count at : ℕ) (intervals : List (List FiredEvent)) : Type 0 where
  pub ahead : drop at bytes ≡ flat_map interval_bytes intervals
  pub many : length intervals ≡ count

intervals_read : (comps : List Comp) (bytes : List ℕ) (count interval at : ℕ) (intervals : List (List FiredEvent)) → All (λ byte. byte < 256) bytes
    → intervals_from comps bytes count interval at ≡ Ok intervals → AreIntervals bytes count at intervals
intervals_read comps bytes zero interval at intervals low is =
    let passed = test_passed (at == length bytes) (Ok []) _ intervals is in
    let end : at ≡ length bytes = eqb-true at (length bytes) passed.0 in
    let none : [] ≡ intervals = cc (passed.1) in
    subst (AreIntervals bytes zero at) none (record { ahead = drop_all at bytes (omega (arith, end)); many = refl })
intervals_read comps bytes (suc count) interval at intervals low is =
    let first = first_read (interval_from comps bytes interval at) (λ timed. then_read (intervals_from comps bytes count (interval + 1) (at + (4 + 64 * length timed))) (λ rest. Ok (timed ∷ rest))) intervals is in
    let timed = first.0 in
    let others = first_read (intervals_from comps bytes count (interval + 1) (at + (4 + 64 * length timed))) (λ rest. Ok (timed ∷ rest)) intervals first.2 in
    let rest = others.0 in
    let head = interval_read comps bytes interval at timed low first.1 in
    let tail = intervals_read comps bytes count (interval + 1) (at + (4 + 64 * length timed)) rest low others.1 in
    let all : timed ∷ rest ≡ intervals = cc (others.2) in
    subst (AreIntervals bytes (suc count) at) all (record {
      ahead = head.ahead ∙ ap (λ behind. interval_bytes timed ++ behind) tail.ahead;
      many = ap suc tail.many;
    })

-- ---- the header

-- what the header tells was read
record IsHeader (components : ℕ) (bytes : List ℕ) (count : ℕ) : Type 0 where
  pub ahead : bytes ≡ magic ++ (little_bytes 4 version ++ (little_bytes 4 components ++ (little_bytes 4 count ++ drop 16 bytes)))

-- what is read after the number of components, after the version, and after the magic
abbrev after_components : (components : ℕ) (bytes : List ℕ) (found : ℕ) → Result ℕ BadEvents
after_components components bytes found = if found == components then read_number bytes 12 else Err (bad.Components found)

abbrev after_version : (components : ℕ) (bytes : List ℕ) (found : ℕ) → Result ℕ BadEvents
after_version components bytes found = if found == version then then_read (read_number bytes 8) (after_components components bytes) else Err (bad.Version found)

abbrev after_magic : (components : ℕ) (bytes found : List ℕ) → Result ℕ BadEvents
after_magic components bytes found = if bytes_eq found magic then then_read (read_number bytes 4) (after_version components bytes) else Err bad.Magic

header_read : (components : ℕ) (bytes : List ℕ) (count : ℕ) → All (λ byte. byte < 256) bytes → count_of components bytes ≡ Ok count → IsHeader components bytes count
unfolding count_of
header_read components bytes count low is =
    let start = first_read (field_at bytes 0 4) (after_magic components bytes) count is in
    let same_magic = test_passed (bytes_eq start.0 magic) (then_read (read_number bytes 4) (after_version components bytes)) bad.Magic count start.2 in
    let versioned = first_read (read_number bytes 4) (after_version components bytes) count same_magic.1 in
    let same_version = test_passed (versioned.0 == version) (then_read (read_number bytes 8) (after_components components bytes)) (bad.Version versioned.0) count versioned.2 in
    let machine = first_read (read_number bytes 8) (after_components components bytes) count same_version.1 in
    let same_components = test_passed (machine.0 == components) (read_number bytes 12) (bad.Components machine.0) count machine.2 in
    let is_magic : start.0 ≡ magic = (bytes_eq-Decides start.0 magic).0 same_magic.0 in
    let is_version : versioned.0 ≡ version = eqb-true versioned.0 version same_version.0 in
    let is_machine : machine.0 ≡ components = eqb-true machine.0 components same_components.0 in
    let magic_field = (field_read bytes 0 4 start.0 start.1).0 in
    let version_field = (number_read bytes 4 versioned.0 low versioned.1).0 in
    let machine_field = (number_read bytes 8 machine.0 low machine.1).0 in
    let count_field = (number_read bytes 12 count low same_components.1).0 in
    record {
      ahead = magic_field.ahead ∙ (ap (λ field. field ++ drop 4 bytes) is_magic
          ∙ ap (λ rest. magic ++ rest) (version_field.ahead ∙ (ap (λ n. little_bytes 4 n ++ drop 8 bytes) is_version
          ∙ ap (λ rest. little_bytes 4 version ++ rest) (machine_field.ahead ∙ (ap (λ n. little_bytes 4 n ++ drop 12 bytes) is_machine
          ∙ ap (λ rest. little_bytes 4 components ++ rest) count_field.ahead)))));
    }

pub written_again : (comps : List Comp) (bytes : List ℕ) (intervals : List (List FiredEvent)) → All (λ byte. byte < 256) bytes
    → events_of comps bytes ≡ Ok intervals → events_file_of (length comps) intervals ≡ bytes
unfolding events_of header_bytes
written_again comps bytes intervals low is =
    let header = first_read (count_of (length comps) bytes) (λ count. intervals_from comps bytes count 0 16) intervals is in
    let count = header.0 in
    let head = header_read (length comps) bytes count low header.1 in
    let body = intervals_read comps bytes count 0 16 intervals low header.2 in
    let start = λ (n : ℕ) (rest : List ℕ). magic ++ (little_bytes 4 version ++ (little_bytes 4 (length comps) ++ (little_bytes 4 n ++ rest))) in
    ap (λ n. start n (flat_map interval_bytes intervals)) body.many
    ∙ (ap (start count) (sym body.ahead) ∙ sym head.ahead)
