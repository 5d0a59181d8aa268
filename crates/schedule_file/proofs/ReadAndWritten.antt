-- What a file says, written. Each part that was read is a field of the file, and what is behind it was read next.
use Rattle.std.proofs.Common.{◌≡◌, ℕ, zero, suc, ◌+◌, ◌*◌, ◌^◌, ◌<◌, ◌≤◌, ◌==◌, Bool, true, false, cond, if◌then◌else◌, bytes_eq, List, [], ◌∷◌, ◌++◌, All, length, take, drop, get_or, position, nat_le, Option, Some, None, Result, Ok, Err, refl, ap, sym, subst, ◌∙◌, append_assoc, arith}
use Rattle.std.proofs.lemmas.Bool.{eqb-true, leb-true, leb-false, ltb-false}
use Rattle.std.proofs.lemmas.List.{drop-drop, drop_all, length-take-le, length-drop, take-append-drop}
use Rattle.std.proofs.lemmas.List.Elements.{All-cons, All-drop, All-nil, All-take}
use Rattle.std.proofs.lemmas.List.Sums.{fails_before_first}
use Rattle.std.proofs.lemmas.Slice.Eq.{bytes_eq-Decides}
use Rattle.std.specs.List.{flat_map, position_or_len}
use Rattle.byteorder.specs.Endian.{little_bytes, little_number}
use Rattle.byteorder.specs.Numbers.{little_from-lt}
use Rattle.access_log.specs.Schedule.{AreTurns, ScheduleState}
use Rattle.schedule_file.specs.declared.bad_schedule.BadSchedule.{BadSchedule}
use Rattle.schedule_file.specs.declared.bad_schedule.BadSchedule.TheVariants as bad
use Rattle.schedule_file.specs.ScheduleFile.{count_of, field_at, header_bytes, known_turns, list_bytes, lists_from, magic, numbers_of, read_number, read_numbers, schedule_file_of, schedule_of, then_read, turns_from, version_for, width_for}
use Rattle.schedule_file.proofs.Numbers.{each_below, length-numbers_of, number_written, numbers_written}

-- ---- what was read before a result

-- a test passed
test_passed : {A : Type 0} (b : Bool) (r : Result A BadSchedule) (wrong : BadSchedule) (y : A) → cond b r (Err wrong) ≡ Ok y → (b ≡ true) × (r ≡ Ok y)
test_passed true r wrong y is = (refl, is)
test_passed false r wrong y is = cc

-- the first part was read, and gave this
first_read : {A B : Type 0} (r : Result A BadSchedule) (f : A → Result B BadSchedule) (y : B) → then_read r f ≡ Ok y → (x : A) × (r ≡ Ok x) × (f x ≡ Ok y)
first_read (Ok x) f y is = (x, refl, is)
first_read (Err wrong) f y is = cc

-- these bytes are there
record IsField (bytes : List ℕ) (at count : ℕ) (field : List ℕ) : Type 0 where
  pub within : at + count ≤ length bytes
  pub long : length field ≡ count
  pub ahead : drop at bytes ≡ field ++ drop (at + count) bytes

field_read : (bytes : List ℕ) (at count : ℕ) (field : List ℕ) → field_at bytes at count ≡ Ok field → IsField bytes at count field × (field ≡ take count (drop at bytes))
field_read bytes at count field is =
    let passed = test_passed (nat_le (at + count) (length bytes)) (Ok (take count (drop at bytes))) _ field is in
    let within : at + count ≤ length bytes = leb-true (at + count) (length bytes) passed.0 in
    let same : take count (drop at bytes) ≡ field = cc (passed.1) in (
      record {
        within = within;
        long = ap length (sym same) ∙ length-take-le count (drop at bytes) (rw length-drop (omega (arith, within)));
        ahead = sym (take-append-drop count (drop at bytes)) ∙ (ap (λ front. front ++ drop count (drop at bytes)) same ∙ ap (λ rest. field ++ rest) (drop-drop count at bytes));
      },
      sym same,
    )

number_read : (bytes : List ℕ) (at number : ℕ) → All (λ byte. byte < 256) bytes → read_number bytes at ≡ Ok number → IsField bytes at 4 (little_bytes 4 number) × (number < 2 ^ 32)
number_read bytes at number low is =
    let read = first_read (field_at bytes at 4) (λ field. Ok (little_number 4 field)) number is in
    let field = read.0 in
    let has = field_read bytes at 4 field read.1 in
    let same : little_number 4 field ≡ number = cc (read.2) in
    let bytes_low : All (λ byte. byte < 256) field = rw has.1 (All-take (λ byte. byte < 256) 4 (drop at bytes) (All-drop (λ byte. byte < 256) at bytes low)) in
    let short : little_number 4 field < 256 ^ 4 = little_from-lt 0 4 field (each_below field bytes_low) in
    let written : little_bytes 4 number ≡ field = ap (little_bytes 4) (sym same) ∙ (ap (λ n. little_bytes n (little_number n field)) (sym has.0.long) ∙ number_written field bytes_low) in
    (rw written has.0, omega (arith, same, short))

numbers_read : (width : ℕ) (bytes : List ℕ) (at count : ℕ) (numbers : List ℕ) → All (λ byte. byte < 256) bytes → read_numbers width bytes at count ≡ Ok numbers
    → IsField bytes at (width * count) (flat_map (little_bytes width) numbers) × (length numbers ≡ count)
numbers_read width bytes at count numbers low is =
    let read = first_read (field_at bytes at (width * count)) (λ field. Ok (numbers_of width count field)) numbers is in
    let field = read.0 in
    let has = field_read bytes at (width * count) field read.1 in
    let same : numbers_of width count field ≡ numbers = cc (read.2) in
    let bytes_low : All (λ byte. byte < 256) field = rw has.1 (All-take (λ byte. byte < 256) (width * count) (drop at bytes) (All-drop (λ byte. byte < 256) at bytes low)) in
    let written : flat_map (little_bytes width) numbers ≡ field = ap (flat_map (little_bytes width)) (sym same) ∙ numbers_written width count field bytes_low has.0.long in
    (rw written has.0, ap length (sym same) ∙ length-numbers_of width count field)

-- ---- the lists

no_place : (b : Bool) (place : ℕ) → cond b (Some place) None ≡ None → b ≡ false
no_place true place is = cc
no_place false place is = refl

-- no place names none, so each names one
all_known : (cores : ℕ) (turns : List ℕ) → position (nat_le cores) turns ≡ None → All (λ core. core < cores) turns
all_known cores turns none k d below =
    let all : length turns ≤ position_or_len (nat_le cores) turns = ltb-false (position_or_len (nat_le cores) turns) (length turns) (no_place _ _ none) in
    leb-false cores (get_or turns k d) (fails_before_first (nat_le cores) turns k d (omega (arith, all, below)))

known_read : (interval : ℕ) (stranger : Option ℕ) (list turns : List ℕ) → known_turns interval stranger list ≡ Ok turns → (stranger ≡ None) × (list ≡ turns)
known_read interval None list turns is = (refl, cc)
known_read interval (Some place) list turns is = cc

-- a list was read
record IsList (cores : ℕ) (bytes : List ℕ) (at : ℕ) (turns : List ℕ) : Type 0 where
  pub within : at + (4 + width_for cores * length turns) ≤ length bytes
  pub ahead : drop at bytes ≡ list_bytes (width_for cores) turns ++ drop (at + (4 + width_for cores * length turns)) bytes
  pub known : All (λ core. core < cores) turns
  pub short : length turns < 2 ^ 32

turns_read : (cores : ℕ) (bytes : List ℕ) (interval at : ℕ) (turns : List ℕ) → All (λ byte. byte < 256) bytes → turns_from cores bytes interval at ≡ Ok turns → IsList cores bytes at turns
unfolding turns_from
turns_read cores bytes interval at turns low is =
    let width = width_for cores in
    let counted = first_read (read_number bytes at) (λ count. then_read (read_numbers width bytes (at + 4) count) (λ list. known_turns interval (position (nat_le cores) list) list)) turns is in
    let count = counted.0 in
    let listed = first_read (read_numbers width bytes (at + 4) count) (λ list. known_turns interval (position (nat_le cores) list) list) turns counted.2 in
    let known = known_read interval (position (nat_le cores) listed.0) listed.0 turns listed.2 in
    let same : listed.0 ≡ turns = known.1 in
    let number = number_read bytes at count low counted.1 in
    let list = numbers_read width bytes (at + 4) count listed.0 low listed.1 in
    let long : length turns ≡ count = ap length (sym same) ∙ list.1 in
    let field = subst (λ (ts : List ℕ). IsField bytes (at + 4) (width * count) (flat_map (little_bytes width) ts)) same list.0 in
    let place : at + 4 + width * count ≡ at + (4 + width * length turns) = ap (λ n. at + 4 + width * n) (sym long) ∙ omega arith in
    let numbers = flat_map (little_bytes width) turns in
    record {
      within = omega (arith, field.within, place);
      ahead = number.0.ahead
          ∙ (ap (λ rest. little_bytes 4 count ++ rest) (field.ahead ∙ ap (λ n. numbers ++ drop n bytes) place)
          ∙ (ap (λ n. little_bytes 4 n ++ (numbers ++ drop (at + (4 + width * length turns)) bytes)) (sym long)
          ∙ sym (append_assoc (little_bytes 4 (length turns)) numbers (drop (at + (4 + width * length turns)) bytes))));
      known = all_known cores turns (ap (position (nat_le cores)) (sym same) ∙ known.0);
      short = omega (arith, long, number.1);
    }

-- all lists were read
record AreLists (cores : ℕ) (bytes : List ℕ) (count at : ℕ) (lists : List (List ℕ)) : Type 0 where
  pub ahead : drop at bytes ≡ flat_map (list_bytes (width_for cores)) lists
  pub many : length lists ≡ count
  pub known : All (λ turns. All (λ core. core < cores) turns) lists
  pub short : All (λ turns. length turns < 2 ^ 32) lists

lists_read : (cores : ℕ) (bytes : List ℕ) (count interval at : ℕ) (lists : List (List ℕ)) → All (λ byte. byte < 256) bytes → lists_from cores bytes count interval at ≡ Ok lists → AreLists cores bytes count at lists
lists_read cores bytes zero interval at lists low is =
    let passed = test_passed (at == length bytes) (Ok []) _ lists is in
    let end : at ≡ length bytes = eqb-true at (length bytes) passed.0 in
    let none : [] ≡ lists = cc (passed.1) in
    subst (λ ls. AreLists cores bytes zero at ls) none (record {
      ahead = drop_all at bytes (omega (arith, end));
      many = refl;
      known = All-nil (λ turns. All (λ core. core < cores) turns);
      short = All-nil (λ turns. length turns < 2 ^ 32);
    })
lists_read cores bytes (suc count) interval at lists low is =
    let first = first_read (turns_from cores bytes interval at) (λ turns. then_read (lists_from cores bytes count (interval + 1) (at + (4 + width_for cores * length turns))) (λ rest. Ok (turns ∷ rest))) lists is in
    let turns = first.0 in
    let others = first_read (lists_from cores bytes count (interval + 1) (at + (4 + width_for cores * length turns))) (λ rest. Ok (turns ∷ rest)) lists first.2 in
    let rest = others.0 in
    let head = turns_read cores bytes interval at turns low first.1 in
    let tail = lists_read cores bytes count (interval + 1) (at + (4 + width_for cores * length turns)) rest low others.1 in
    let all : turns ∷ rest ≡ lists = cc (others.2) in
    subst (λ ls. AreLists cores bytes (suc count) at ls) all (record {
      ahead = head.ahead ∙ ap (λ behind. list_bytes (width_for cores) turns ++ behind) tail.ahead;
      many = ap suc tail.many;
      known = All-cons (λ list. All (λ core. core < cores) list) turns rest head.known tail.known;
      short = All-cons (λ list. length list < 2 ^ 32) turns rest head.short tail.short;
    })

-- ---- the header

-- what the header tells was read
record IsHeader (cores : ℕ) (bytes : List ℕ) (count : ℕ) : Type 0 where
  pub ahead : bytes ≡ magic ++ (little_bytes 4 (version_for cores) ++ (little_bytes 4 cores ++ (little_bytes 4 count ++ drop 16 bytes)))
  pub few : count < 2 ^ 32

-- what is read after the number of cores, after the version, and after the magic
abbrev after_cores : (cores : ℕ) (bytes : List ℕ) (found : ℕ) → Result ℕ BadSchedule
after_cores cores bytes found = if found == cores then read_number bytes 12 else Err (bad.Cores found)

abbrev after_version : (cores : ℕ) (bytes : List ℕ) (version : ℕ) → Result ℕ BadSchedule
after_version cores bytes version = if version == version_for cores then then_read (read_number bytes 8) (after_cores cores bytes) else Err (bad.Version version)

abbrev after_magic : (cores : ℕ) (bytes found : List ℕ) → Result ℕ BadSchedule
after_magic cores bytes found = if bytes_eq found magic then then_read (read_number bytes 4) (after_version cores bytes) else Err bad.Magic

header_read : (cores : ℕ) (bytes : List ℕ) (count : ℕ) → All (λ byte. byte < 256) bytes → count_of cores bytes ≡ Ok count → IsHeader cores bytes count
unfolding count_of
header_read cores bytes count low is =
    let start = first_read (field_at bytes 0 4) (after_magic cores bytes) count is in
    let same_magic = test_passed (bytes_eq start.0 magic) (then_read (read_number bytes 4) (after_version cores bytes)) bad.Magic count start.2 in
    let versioned = first_read (read_number bytes 4) (after_version cores bytes) count same_magic.1 in
    let same_version = test_passed (versioned.0 == version_for cores) (then_read (read_number bytes 8) (after_cores cores bytes)) (bad.Version versioned.0) count versioned.2 in
    let machine = first_read (read_number bytes 8) (after_cores cores bytes) count same_version.1 in
    let same_cores = test_passed (machine.0 == cores) (read_number bytes 12) (bad.Cores machine.0) count machine.2 in
    let is_magic : start.0 ≡ magic = (bytes_eq-Decides start.0 magic).0 same_magic.0 in
    let is_version : versioned.0 ≡ version_for cores = eqb-true versioned.0 (version_for cores) same_version.0 in
    let is_machine : machine.0 ≡ cores = eqb-true machine.0 cores same_cores.0 in
    let magic_field = (field_read bytes 0 4 start.0 start.1).0 in
    let version_field = (number_read bytes 4 versioned.0 low versioned.1).0 in
    let machine_field = (number_read bytes 8 machine.0 low machine.1).0 in
    let count_field = number_read bytes 12 count low same_cores.1 in
    record {
      ahead = magic_field.ahead ∙ (ap (λ field. field ++ drop 4 bytes) is_magic
          ∙ ap (λ rest. magic ++ rest) (version_field.ahead ∙ (ap (λ n. little_bytes 4 n ++ drop 8 bytes) is_version
          ∙ ap (λ rest. little_bytes 4 (version_for cores) ++ rest) (machine_field.ahead ∙ (ap (λ n. little_bytes 4 n ++ drop 12 bytes) is_machine
          ∙ ap (λ rest. little_bytes 4 cores ++ rest) count_field.0.ahead)))));
      few = count_field.1;
    }

pub written_again : (cores : ℕ) (bytes : List ℕ) (s : ScheduleState) → All (λ byte. byte < 256) bytes → schedule_of cores bytes ≡ Ok s
    → (schedule_file_of s ≡ bytes) × (s.cores ≡ cores) × AreTurns s
unfolding schedule_of header_bytes
written_again cores bytes s low is =
    let header = first_read (count_of cores bytes) (λ count. then_read (lists_from cores bytes count 0 16) (λ lists. Ok (record { cores = cores; lists = lists }))) s is in
    let count = header.0 in
    let body = first_read (lists_from cores bytes count 0 16) (λ lists. Ok (record { cores = cores; lists = lists })) s header.2 in
    let read : ScheduleState = record { cores = cores; lists = body.0 } in
    let all : read ≡ s = cc (body.2) in
    let head = header_read cores bytes count low header.1 in
    let rest = lists_read cores bytes count 0 16 body.0 low body.1 in
    subst (λ t. (schedule_file_of t ≡ bytes) × (t.cores ≡ cores) × AreTurns t) all (
      sym (head.ahead ∙ ap (λ n. magic ++ (little_bytes 4 (version_for cores) ++ (little_bytes 4 cores ++ (little_bytes 4 n ++ drop 16 bytes)))) (sym rest.many)
          ∙ ap (λ behind. magic ++ (little_bytes 4 (version_for cores) ++ (little_bytes 4 cores ++ (little_bytes 4 (length body.0) ++ behind)))) rest.ahead),
      refl,
      record { known = rest.known; short = rest.short; few = omega (arith, rest.many, head.few) },
    )
