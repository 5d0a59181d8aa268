-- The file of a schedule. Numbers have four bytes, the lowest first; in a list the number of a core has one or two.
use Rattle.std.specs.Prelude.{ℕ, zero, suc, ◌+◌, ◌*◌, ◌==◌, nat_le, nat_lt, Bool, if◌then◌else◌, List, [], ◌∷◌, ◌++◌, length, codes, take, drop, Option, Some, None, Result, Ok, Err}
use Rattle.std.specs.List.{flat_map, position}
use Rattle.std.specs.Str.{bytes_eq}
use Rattle.byteorder.specs.Endian.{little_bytes, little_number}
use Rattle.access_log.specs.Schedule.{ScheduleState}
use Rattle.schedule_file.specs.declared.bad_schedule.BadSchedule.{BadSchedule}
use Rattle.schedule_file.specs.declared.bad_schedule.BadSchedule.TheVariants as bad

abbrev pub magic : List ℕ
magic = codes "ZSCH"

-- ---- the two versions

-- whether a machine has more cores than a file of version 1 is for
unfoldable pub is_wide : (cores : ℕ) → Bool
is_wide cores = nat_lt 64 cores

-- the version of the file of a schedule for so many cores
unfoldable pub version_for : (cores : ℕ) → ℕ
version_for cores = if is_wide cores then 2 else 1

-- how many bytes a core's number has in its lists
unfoldable pub width_for : (cores : ℕ) → ℕ
width_for cores = if is_wide cores then 2 else 1

-- ---- written

-- how many turns an interval has, and the core of each in so many bytes
abbrev pub list_bytes : (width : ℕ) → List ℕ → List ℕ
list_bytes width turns = little_bytes 4 (length turns) ++ flat_map (little_bytes width) turns

-- the magic, the version, how many cores there are, and how many intervals
unfoldable pub header_bytes : ScheduleState → List ℕ
header_bytes s = magic ++ (little_bytes 4 (version_for s.cores) ++ (little_bytes 4 s.cores ++ little_bytes 4 (length s.lists)))

-- the header, and the list of each interval
abbrev pub schedule_file_of : ScheduleState → List ℕ
schedule_file_of s = header_bytes s ++ flat_map (list_bytes (width_for s.cores)) s.lists

-- ---- read, from front to back

-- so many bytes of a file from a place on, or that they do not lie wholly in it
abbrev pub field_at : (bytes : List ℕ) → (at count : ℕ) → Result (List ℕ) BadSchedule
field_at bytes at count = if nat_le (at + count) (length bytes) then Ok (take count (drop at bytes)) else Err (bad.Short at)

-- what follows, unless something was wrong
abbrev pub then_read : {A B : Type 0} → Result A BadSchedule → (A → Result B BadSchedule) → Result B BadSchedule
then_read (Ok x) f = f x
then_read (Err wrong) f = Err wrong

-- the number at a place
abbrev pub read_number : (bytes : List ℕ) → (at : ℕ) → Result ℕ BadSchedule
read_number bytes at = then_read (field_at bytes at 4) (λ field. Ok (little_number 4 field))

-- so many numbers of this width, which bytes begin with
abbrev pub numbers_of : (width count : ℕ) → List ℕ → List ℕ
numbers_of width zero bytes = []
numbers_of width (suc count) bytes = little_number width bytes ∷ numbers_of width count (drop width bytes)

-- so many numbers of this width at a place, which are one field
abbrev pub read_numbers : (width : ℕ) → (bytes : List ℕ) → (at count : ℕ) → Result (List ℕ) BadSchedule
read_numbers width bytes at count = then_read (field_at bytes at (width * count)) (λ field. Ok (numbers_of width count field))

-- a list of turns, or the first place that names no core
abbrev pub known_turns : (interval : ℕ) → (stranger : Option ℕ) → List ℕ → Result (List ℕ) BadSchedule
known_turns interval None turns = Ok turns
known_turns interval (Some place) turns = Err (bad.Core interval place)

-- the list of an interval, which begins at a place
unfoldable pub turns_from : (cores : ℕ) → (bytes : List ℕ) → (interval at : ℕ) → Result (List ℕ) BadSchedule
turns_from cores bytes interval at =
    then_read (read_number bytes at) (λ count.
    then_read (read_numbers (width_for cores) bytes (at + 4) count) (λ turns. known_turns interval (position (nat_le cores) turns) turns))

-- so many lists from a place on, the first of which is of this interval, and then the end of the file
abbrev pub lists_from : (cores : ℕ) → (bytes : List ℕ) → (count interval at : ℕ) → Result (List (List ℕ)) BadSchedule
lists_from cores bytes zero interval at = if at == length bytes then Ok [] else Err (bad.After at)
lists_from cores bytes (suc count) interval at =
    then_read (turns_from cores bytes interval at) (λ turns.
    then_read (lists_from cores bytes count (interval + 1) (at + (4 + width_for cores * length turns))) (λ lists. Ok (turns ∷ lists)))

-- how many intervals the header names, of a file for so many cores
unfoldable pub count_of : (cores : ℕ) → (bytes : List ℕ) → Result ℕ BadSchedule
count_of cores bytes =
    then_read (field_at bytes 0 4) (λ found_magic. if bytes_eq found_magic magic then
    then_read (read_number bytes 4) (λ version. if version == version_for cores then
    then_read (read_number bytes 8) (λ found. if found == cores then read_number bytes 12 else Err (bad.Cores found))
    else Err (bad.Version version))
    else Err bad.Magic)

-- what a file for so many cores says, or the first thing that is wrong with it
unfoldable pub schedule_of : (cores : ℕ) → (bytes : List ℕ) → Result ScheduleState BadSchedule
schedule_of cores bytes =
    then_read (count_of cores bytes) (λ count.
    then_read (lists_from cores bytes count 0 16) (λ lists. Ok (record { cores = cores; lists = lists })))
