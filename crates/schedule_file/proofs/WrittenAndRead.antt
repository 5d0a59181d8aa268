-- The file of a schedule, read. What is behind a place is known, and each part of the file is read from there.
use Rattle.std.proofs.Common.{◌≡◌, ℕ, ◌+◌, ◌*◌, ◌-◌, ◌^◌, ◌<◌, ◌≤◌, List, [], ◌∷◌, ◌++◌, All, length, take, drop, get_or, position, nat_le, true, false, if◌then◌else◌, Ok, None, refl, ap, sym, ◌∙◌, append_assoc, append-nil, arith, length-append}
use Rattle.std.proofs.lemmas.Bool.{eq-eqb, le-leb, le-ltb, lt-leb}
use Rattle.std.proofs.lemmas.List.{drop-drop, drop_at, length-drop, take_at}
use Rattle.std.proofs.lemmas.List.Elements.{All-tail}
use Rattle.std.proofs.lemmas.List.Sums.{position_or_len_is}
use Rattle.std.specs.List.{flat_map, position_or_len}
use Rattle.byteorder.specs.Endian.{little_bytes, little_number}
use Rattle.byteorder.specs.Numbers.{length-bytes_low_first, little_number-reads_back}
use Rattle.access_log.specs.Schedule.{AreTurns, ScheduleState}
use Rattle.schedule_file.specs.ScheduleFile.{count_of, field_at, header_bytes, is_wide, known_turns, list_bytes, lists_from, magic, numbers_of, read_number, read_numbers, schedule_file_of, schedule_of, then_read, turns_from, version_for, width_for}
use Rattle.schedule_file.proofs.Numbers.{fits, length-written, numbers_back}

-- a field, and then the rest
pub record IsAhead (bytes : List ℕ) (at : ℕ) (field rest : List ℕ) : Type 0 where
  pub place : at ≤ length bytes
  pub ahead : drop at bytes ≡ field ++ rest

-- it lies in the file
is_within : (bytes : List ℕ) (at : ℕ) (field rest : List ℕ) → IsAhead bytes at field rest → at + length field ≤ length bytes
is_within bytes at field rest is =
    let long : length bytes - at ≡ length field + length rest = sym (length-drop at bytes) ∙ (ap length is.ahead ∙ length-append field rest) in
    omega (arith, long, is.place)

-- it is what is read there
field_is : (bytes : List ℕ) (at count : ℕ) (field rest : List ℕ) → IsAhead bytes at field rest → length field ≡ count → field_at bytes at count ≡ Ok field
field_is bytes at count field rest is long =
    let within : at + count ≤ length bytes = omega (arith, is_within bytes at field rest is, long) in
    rw (le-leb (at + count) (length bytes) within) (ap Ok (ap (take count) is.ahead ∙ take_at field rest count long))

-- and behind it is the rest
behind_is : (bytes : List ℕ) (at count : ℕ) (field next rest : List ℕ) → IsAhead bytes at field (next ++ rest) → length field ≡ count → IsAhead bytes (at + count) next rest
behind_is bytes at count field next rest is long = record {
  place = omega (arith, is_within bytes at field (next ++ rest) is, long);
  ahead = sym (drop-drop count at bytes) ∙ (ap (drop count) is.ahead ∙ drop_at field (next ++ rest) count long);
}

number_is : (bytes : List ℕ) (at number : ℕ) (rest : List ℕ) → IsAhead bytes at (little_bytes 4 number) rest → number < 2 ^ 32 → read_number bytes at ≡ Ok number
number_is bytes at number rest is low =
    let four : length (little_bytes 4 number) ≡ 4 = length-bytes_low_first 0 4 number in
    let back : little_number 4 (little_bytes 4 number) ≡ number =
    ap (little_number 4) (sym (append-nil (little_bytes 4 number))) ∙ little_number-reads_back 4 number [] low in
    ap (λ r. then_read r (λ field. Ok (little_number 4 field))) (field_is bytes at 4 (little_bytes 4 number) rest is four) ∙ ap Ok back

-- ---- the lists

-- all turns are of cores
none_is : (cores : ℕ) (turns : List ℕ) → All (λ core. core < cores) turns → position (nat_le cores) turns ≡ None
none_is cores turns known =
    let all : position_or_len (nat_le cores) turns ≡ length turns =
    position_or_len_is (nat_le cores) turns (length turns) 0 (omega arith) (λ k below. lt-leb cores (get_or turns k 0) (known k 0 below)) (λ past. absurd (omega (arith, past))) in
    rw all (rw (le-ltb (length turns) (length turns) (omega arith)) refl)

-- their numbers are read
numbers_are : (width : ℕ) (bytes : List ℕ) (at : ℕ) (turns rest : List ℕ) → All (λ core. core < 256 ^ width) turns
    → IsAhead bytes at (flat_map (little_bytes width) turns) rest → read_numbers width bytes at (length turns) ≡ Ok turns
numbers_are width bytes at turns rest low is =
    let field = flat_map (little_bytes width) turns in
    ap (λ r. then_read r (λ found. Ok (numbers_of width (length turns) found))) (field_is bytes at (width * length turns) field rest is (length-written width turns))
    ∙ ap Ok (numbers_back width turns low)

turns_are : (cores : ℕ) (bytes : List ℕ) (interval at : ℕ) (turns rest : List ℕ) → cores < 2 ^ 16 → All (λ core. core < cores) turns → length turns < 2 ^ 32
    → IsAhead bytes at (list_bytes (width_for cores) turns) rest → turns_from cores bytes interval at ≡ Ok turns
unfolding turns_from
turns_are cores bytes interval at turns rest small known short is =
    let width = width_for cores in
    let count = little_bytes 4 (length turns) in
    let numbers = flat_map (little_bytes width) turns in
    let low : All (λ core. core < 256 ^ width) turns = λ k d below. fits cores (get_or turns k d) small (known k d below) in
    let ahead : IsAhead bytes at count (numbers ++ rest) = record { place = is.place; ahead = is.ahead ∙ append_assoc count numbers rest } in
    let behind : IsAhead bytes (at + 4) numbers rest = behind_is bytes at 4 count numbers rest ahead (length-bytes_low_first 0 4 (length turns)) in
    ap (λ r. then_read r (λ n. then_read (read_numbers width bytes (at + 4) n) (λ list. known_turns interval (position (nat_le cores) list) list)))
    (number_is bytes at (length turns) (numbers ++ rest) ahead short)
    ∙ (ap (λ r. then_read r (λ list. known_turns interval (position (nat_le cores) list) list)) (numbers_are width bytes (at + 4) turns rest low behind)
    ∙ ap (λ place. known_turns interval place turns) (none_is cores turns known))

lists_are : (cores : ℕ) (bytes : List ℕ) (interval at : ℕ) (lists : List (List ℕ)) → cores < 2 ^ 16 → All (λ turns. All (λ core. core < cores) turns) lists
    → All (λ turns. length turns < 2 ^ 32) lists → IsAhead bytes at (flat_map (list_bytes (width_for cores)) lists) [] → lists_from cores bytes (length lists) interval at ≡ Ok lists
lists_are cores bytes interval at [] small known short is =
    let end : length bytes - at ≡ 0 = sym (length-drop at bytes) ∙ ap length is.ahead in
    rw (eq-eqb at (length bytes) (omega (arith, end, is.place))) refl
lists_are cores bytes interval at (turns ∷ lists) small known short is =
    let width = width_for cores in
    let after = flat_map (list_bytes width) lists in
    let whole = list_bytes width turns in
    let past = at + (4 + width * length turns) in
    let ahead : IsAhead bytes at whole (after ++ []) = record { place = is.place; ahead = is.ahead ∙ append_assoc whole after [] } in
    let long : length whole ≡ 4 + width * length turns =
    length-append (little_bytes 4 (length turns)) (flat_map (little_bytes width) turns) ∙ omega (arith, length-bytes_low_first 0 4 (length turns), length-written width turns) in
    let behind : IsAhead bytes past after [] = behind_is bytes at (4 + width * length turns) whole after [] ahead long in
    let rest = lists_are cores bytes (interval + 1) past lists small (All-tail (λ list. All (λ core. core < cores) list) turns lists known)
    (All-tail (λ list. length list < 2 ^ 32) turns lists short) behind in
    ap (λ r. then_read r (λ first. then_read (lists_from cores bytes (length lists) (interval + 1) (at + (4 + width * length first))) (λ others. Ok (first ∷ others))))
    (turns_are cores bytes interval at turns (after ++ []) small (known 0 [] (omega arith)) (short 0 [] (omega arith)) ahead)
    ∙ ap (λ r. then_read r (λ others. Ok (turns ∷ others))) rest

-- ---- the header

version_fits : (cores : ℕ) → version_for cores < 2 ^ 32
unfolding version_for
version_fits cores = elim (is_wide cores) as (λ wide. (if wide then 2 else 1) < 2 ^ 32) [ true ↦ omega arith | false ↦ omega arith ]

pub read_again : (s : ScheduleState) → AreTurns s → s.cores < 2 ^ 16 → schedule_of s.cores (schedule_file_of s) ≡ Ok s
unfolding schedule_of count_of header_bytes
read_again s turns small =
    let version_bytes = little_bytes 4 (version_for s.cores) in
    let cores = little_bytes 4 s.cores in
    let count = little_bytes 4 (length s.lists) in
    let lists = flat_map (list_bytes (width_for s.cores)) s.lists in
    let start : IsAhead (schedule_file_of s) 0 magic (version_bytes ++ (cores ++ (count ++ lists))) = record { place = omega arith; ahead = refl } in
    let version : IsAhead (schedule_file_of s) 4 (version_bytes) (cores ++ (count ++ lists)) = behind_is (schedule_file_of s) 0 4 magic (version_bytes) (cores ++ (count ++ lists)) start refl in
    let machine : IsAhead (schedule_file_of s) 8 cores (count ++ lists) = behind_is (schedule_file_of s) 4 4 (version_bytes) cores (count ++ lists) version refl in
    let number : IsAhead (schedule_file_of s) 12 count lists = behind_is (schedule_file_of s) 8 4 cores count lists machine refl in
    let named : IsAhead (schedule_file_of s) 12 count (lists ++ []) = record { place = number.place; ahead = number.ahead ∙ ap (λ rest. count ++ rest) (sym (append-nil lists)) } in
    let rest : IsAhead (schedule_file_of s) 16 lists [] = behind_is (schedule_file_of s) 12 4 count lists [] named refl in
    rw (
      field_is (schedule_file_of s) 0 4 magic _ start refl,
      number_is (schedule_file_of s) 4 (version_for s.cores) _ version (version_fits s.cores),
      eq-eqb (version_for s.cores) (version_for s.cores) refl,
      number_is (schedule_file_of s) 8 s.cores _ machine (omega (arith, small)),
      eq-eqb s.cores s.cores refl,
      number_is (schedule_file_of s) 12 (length s.lists) _ number turns.few,
      lists_are s.cores (schedule_file_of s) 0 16 s.lists small turns.known turns.short rest,
    ) refl
