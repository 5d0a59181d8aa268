-- How long the file of a schedule is at most.
use Rattle.std.proofs.Common.{ℕ, ◌+◌, ◌*◌, ◌≤◌, true, false, List, [], ◌∷◌, length, if◌then◌else◌, arith, length-append, ◌≡◌, refl}
use Rattle.std.proofs.Math.Nat.{mul-le-mul_right}
use Rattle.std.proofs.lemmas.List.Sums.{sum_by-cons}
use Rattle.std.specs.List.{flat_map, sum_by}
use Rattle.byteorder.specs.Endian.{little_bytes}
use Rattle.byteorder.specs.Numbers.{length-bytes_low_first}
use Rattle.access_log.specs.Schedule.{ScheduleState}
use Rattle.schedule_file.specs.ScheduleFile.{header_bytes, is_wide, list_bytes, schedule_file_of, width_for}
use Rattle.schedule_file.proofs.Numbers.{length-written}

width_small : (cores : ℕ) → width_for cores ≤ 2
unfolding width_for
width_small cores = elim (is_wide cores) as (λ wide. (if wide then 2 else 1) ≤ 2) [ true ↦ omega arith | false ↦ omega arith ]

lists_short : (width : ℕ) (lists : List (List ℕ)) → width ≤ 2 → length (flat_map (list_bytes width) lists) ≤ 4 * length lists + 2 * sum_by length lists
lists_short width [] small = omega arith
lists_short width (turns ∷ lists) small =
    let count = little_bytes 4 (length turns) in
    let numbers = flat_map (little_bytes width) turns in
    let rest = flat_map (list_bytes width) lists in
    let each : width * length turns ≤ 2 * length turns = mul-le-mul_right (length turns) small in
    omega (
      arith,
      length-append (list_bytes width turns) rest,
      length-append count numbers,
      length-bytes_low_first 0 4 (length turns),
      length-written width turns,
      each,
      lists_short width lists small,
      sum_by-cons length turns lists,
    )

header_length : (s : ScheduleState) → length (header_bytes s) ≡ 16
unfolding header_bytes
header_length s = refl

pub file_short : (s : ScheduleState) → length (schedule_file_of s) ≤ 16 + (4 * length s.lists + 2 * sum_by length s.lists)
file_short s =
    let width = width_for s.cores in
    omega (arith, length-append (header_bytes s) (flat_map (list_bytes width) s.lists), header_length s, lists_short width s.lists (width_small s.cores))
