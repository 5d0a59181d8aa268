-- An events file, read. What is behind a place is known, and each part of the file is read from there.
use Rattle.std.proofs.Common.{◌≡◌, ℕ, suc, ◌+◌, ◌*◌, ◌-◌, ◌^◌, ◌<◌, List, [], ◌∷◌, ◌++◌, All, length, map, get_or, Some, Ok, refl, ap, sym, subst, ◌∙◌, append_assoc, append-nil, arith}
use Rattle.std.specs.Prelude.{slice_get}
use Rattle.std.proofs.lemmas.Bool.{eq-eqb}
use Rattle.std.proofs.lemmas.List.{length-drop}
use Rattle.std.proofs.lemmas.List.Elements.{All-tail}
use Rattle.std.proofs.lemmas.Option.{get_or_from_slice_get, slice_get-map, slice_get_within}
use Rattle.std.specs.Option.{option_map}
use Rattle.std.specs.List.{flat_map}
use Rattle.byteorder.specs.Endian.{little_bytes}
use Rattle.byteorder.specs.Numbers.{length-bytes_low_first}
use Rattle.component.specs.declared.comp.Comp.{Comp}
use Rattle.component.specs.Serving.{comp_latency, comp_serves}
use Rattle.event_graph.specs.declared.event.Parent.{Parent}
use Rattle.event_graph.specs.Fits.{EventFits}
use Rattle.event_graph.specs.OneListWeave.{FiredEvent}
use Rattle.certify.specs.CanBeFiled.{CanBeFiled, CanBeWritten, IsFitting}
use Rattle.certify.specs.EventsFile.{count_of, event_of, events_file_of, events_from, events_of, header_bytes, interval_bytes, interval_from, intervals_from, known_event, magic, numbers_of, read_event, record_bytes, then_read, version}
use Rattle.certify.proofs.Fields.{IsAhead, behind_is, field_is, number_is}
use Rattle.certify.proofs.FileLengths.{interval_length, record_length_is}
use Rattle.certify.proofs.RecordsRead.{record_read}

-- ---- the events of an interval

-- an event that can be written and fits, at a place
record IsEventAt (comps : List Comp) (place : ℕ) (x : FiredEvent) : Type 0 where
  pub can : CanBeWritten x
  pub number : x.event.number ≡ place
  pub first : (p : Parent) → x.event.first ≡ Some p → p.number < place
  pub second : (p : Parent) → x.event.second ≡ Some p → p.number < place
  pub fits : EventFits comp_serves comp_latency comps x.event

-- and events from a place on
abbrev AreEventsFrom : List Comp → (place : ℕ) → List FiredEvent → Type 0
AreEventsFrom comps place timed = (k : ℕ) (x : FiredEvent) → slice_get timed k ≡ Some x → IsEventAt comps (place + k) x

-- the same place, said otherwise
at_place : (comps : List Comp) (place other : ℕ) (x : FiredEvent) → place ≡ other → IsEventAt comps place x → IsEventAt comps other x
at_place comps place other x same is = subst (λ p. IsEventAt comps p x) same is

event_is : (comps : List Comp) (bytes : List ℕ) (interval place at : ℕ) (x : FiredEvent) (rest : List ℕ) → length comps < 2 ^ 16 → place < 2 ^ 32 → IsEventAt comps place x
    → IsAhead bytes at (record_bytes x) rest → read_event comps bytes interval place at ≡ Ok x
unfolding read_event
event_is comps bytes interval place at x rest narrow few is ahead =
    ap (λ r. then_read r (λ field. known_event interval place (event_of comps place (numbers_of field)))) (field_is bytes at 64 (record_bytes x) rest ahead (record_length_is x))
    ∙ ap (known_event interval place) (record_read comps place x is.can narrow few is.number is.first is.second is.fits)

events_are : (comps : List Comp) (bytes : List ℕ) (interval place at : ℕ) (timed : List FiredEvent) (rest : List ℕ) → length comps < 2 ^ 16 → place + length timed < 2 ^ 32
    → AreEventsFrom comps place timed → IsAhead bytes at (flat_map record_bytes timed) rest → events_from comps bytes interval (length timed) place at ≡ Ok timed
events_are comps bytes interval place at [] rest narrow few are ahead = refl
events_are comps bytes interval place at (x ∷ xs) rest narrow few are ahead =
    let after = flat_map record_bytes xs in
    let here : IsAhead bytes at (record_bytes x) (after ++ rest) = record { place = ahead.place; ahead = ahead.ahead ∙ append_assoc (record_bytes x) after rest } in
    let behind = behind_is bytes at 64 (record_bytes x) after rest here (record_length_is x) in
    let first : IsEventAt comps place x = at_place comps (place + 0) place x (omega arith) (are 0 x refl) in
    let others : AreEventsFrom comps (place + 1) xs = λ k y is. at_place comps (place + suc k) (place + 1 + k) y (omega arith) (are (suc k) y is) in
    ap (λ r. then_read r (λ y. then_read (events_from comps bytes interval (length xs) (place + 1) (at + 64)) (λ ys. Ok (y ∷ ys))))
    (event_is comps bytes interval place at x (after ++ rest) narrow (omega (arith, few)) first here)
    ∙ ap (λ r. then_read r (λ ys. Ok (x ∷ ys))) (events_are comps bytes interval (place + 1) (at + 64) xs rest narrow (omega (arith, few)) others behind)

interval_is : (comps : List Comp) (bytes : List ℕ) (interval at : ℕ) (timed : List FiredEvent) (rest : List ℕ) → length comps < 2 ^ 16 → length timed < 2 ^ 32
    → AreEventsFrom comps 0 timed → IsAhead bytes at (interval_bytes timed) rest → interval_from comps bytes interval at ≡ Ok timed
unfolding interval_from
interval_is comps bytes interval at timed rest narrow short are ahead =
    let count = little_bytes 4 (length timed) in
    let records = flat_map record_bytes timed in
    let number : IsAhead bytes at count (records ++ rest) = record { place = ahead.place; ahead = ahead.ahead ∙ append_assoc count records rest } in
    let behind = behind_is bytes at 4 count records rest number (length-bytes_low_first 0 4 (length timed)) in
    ap (λ r. then_read r (λ n. events_from comps bytes interval n 0 (at + 4))) (number_is bytes at (length timed) (records ++ rest) number short)
    ∙ events_are comps bytes interval 0 (at + 4) timed rest narrow (omega (arith, short)) are behind

-- ---- the intervals

intervals_are : (comps : List Comp) (bytes : List ℕ) (interval at : ℕ) (intervals : List (List FiredEvent)) → length comps < 2 ^ 16 → All (λ timed. length timed < 2 ^ 32) intervals
    → All (AreEventsFrom comps 0) intervals → IsAhead bytes at (flat_map interval_bytes intervals) [] → intervals_from comps bytes (length intervals) interval at ≡ Ok intervals
intervals_are comps bytes interval at [] narrow short are is =
    let end : length bytes - at ≡ 0 = sym (length-drop at bytes) ∙ ap length is.ahead in
    rw (eq-eqb at (length bytes) (omega (arith, end, is.place))) refl
intervals_are comps bytes interval at (timed ∷ intervals) narrow short are is =
    let after = flat_map interval_bytes intervals in
    let whole = interval_bytes timed in
    let past = at + (4 + 64 * length timed) in
    let ahead : IsAhead bytes at whole (after ++ []) = record { place = is.place; ahead = is.ahead ∙ append_assoc whole after [] } in
    let behind : IsAhead bytes past after [] = behind_is bytes at (4 + 64 * length timed) whole after [] ahead (interval_length timed) in
    let rest = intervals_are comps bytes (interval + 1) past intervals narrow (All-tail (λ list. length list < 2 ^ 32) timed intervals short)
    (All-tail (AreEventsFrom comps 0) timed intervals are) behind in
    ap (λ r. then_read r (λ first. then_read (intervals_from comps bytes (length intervals) (interval + 1) (at + (4 + 64 * length first))) (λ others. Ok (first ∷ others))))
    (interval_is comps bytes interval at timed (after ++ []) narrow (short 0 [] (omega arith)) (are 0 [] (omega arith)) ahead)
    ∙ ap (λ r. then_read r (λ others. Ok (timed ∷ others))) rest

-- ---- the file

events_at : (comps : List Comp) (timed : List FiredEvent) → All CanBeWritten timed → IsFitting comps timed → AreEventsFrom comps 0 timed
events_at comps timed can fitting k x there =
    let event : slice_get (map (λ y. y.event) timed) k ≡ Some x.event = slice_get-map (λ y. y.event) timed k ∙ ap (option_map (λ y. y.event)) there in
    let is : get_or timed k x ≡ x = get_or_from_slice_get timed k x x there in
    at_place comps k (0 + k) x (omega arith) (record {
      can = subst CanBeWritten is (can k x (slice_get_within timed k x there));
      number = fitting.numbered.number k x.event event;
      first = λ p named. fitting.numbered.first k x.event p event named;
      second = λ p named. fitting.numbered.second k x.event p event named;
      fits = fitting.fits k x.event event;
    })

pub read_again : (comps : List Comp) (intervals : List (List FiredEvent)) → CanBeFiled (length comps) intervals → All (IsFitting comps) intervals
    → events_of comps (events_file_of (length comps) intervals) ≡ Ok intervals
unfolding events_of count_of header_bytes
read_again comps intervals can fitting =
    let file = events_file_of (length comps) intervals in
    let versions = little_bytes 4 version in
    let components = little_bytes 4 (length comps) in
    let count = little_bytes 4 (length intervals) in
    let body = flat_map interval_bytes intervals in
    let are : All (AreEventsFrom comps 0) intervals = λ i d below. events_at comps (get_or intervals i d) (can.each i d below) (fitting i d below) in
    let start : IsAhead file 0 magic (versions ++ (components ++ (count ++ body))) = record { place = omega arith; ahead = refl } in
    let versioned : IsAhead file 4 versions (components ++ (count ++ body)) = behind_is file 0 4 magic versions (components ++ (count ++ body)) start refl in
    let machine : IsAhead file 8 components (count ++ body) = behind_is file 4 4 versions components (count ++ body) versioned refl in
    let number : IsAhead file 12 count body = behind_is file 8 4 components count body machine refl in
    let named : IsAhead file 12 count (body ++ []) = record { place = number.place; ahead = number.ahead ∙ ap (λ rest. count ++ rest) (sym (append-nil body)) } in
    let rest : IsAhead file 16 body [] = behind_is file 12 4 count body [] named refl in
    rw (
      field_is file 0 4 magic _ start refl,
      number_is file 4 version _ versioned (omega arith),
      number_is file 8 (length comps) _ machine (omega (arith, can.narrow)),
      eq-eqb (length comps) (length comps) refl,
      number_is file 12 (length intervals) _ number can.few,
      intervals_are comps file 0 16 intervals can.narrow can.short are rest,
    ) refl
