-- How long an events file is.
use Rattle.std.proofs.Common.{◌≡◌, ℕ, ◌+◌, ◌*◌, List, [], ◌∷◌, length, refl, ◌∙◌, arith, length-append}
use Rattle.std.proofs.lemmas.List.Sums.{sum_by-cons}
use Rattle.std.specs.List.{flat_map, sum_by}
use Rattle.byteorder.specs.Endian.{little_bytes}
use Rattle.byteorder.specs.Numbers.{length-bytes_low_first}
use Rattle.event_graph.specs.OneListWeave.{FiredEvent}
use Rattle.certify.specs.EventsFile.{events_file_of, header_bytes, interval_bytes, record_bytes}

pub record_length_is : (x : FiredEvent) → length (record_bytes x) ≡ 64
unfolding record_bytes
record_length_is x = refl

pub records_length : (timed : List FiredEvent) → length (flat_map record_bytes timed) ≡ 64 * length timed
records_length [] = omega arith
records_length (x ∷ xs) = length-append (record_bytes x) (flat_map record_bytes xs) ∙ omega (arith, record_length_is x, records_length xs)

pub interval_length : (timed : List FiredEvent) → length (interval_bytes timed) ≡ 4 + 64 * length timed
interval_length timed =
    length-append (little_bytes 4 (length timed)) (flat_map record_bytes timed) ∙ omega (arith, length-bytes_low_first 0 4 (length timed), records_length timed)

intervals_length : (intervals : List (List FiredEvent)) → length (flat_map interval_bytes intervals) ≡ 4 * length intervals + 64 * sum_by length intervals
intervals_length [] = omega arith
intervals_length (timed ∷ rest) =
    length-append (interval_bytes timed) (flat_map interval_bytes rest)
    ∙ omega (arith, interval_length timed, intervals_length rest, sum_by-cons length timed rest)

pub header_length : (components intervals : ℕ) → length (header_bytes components intervals) ≡ 16
unfolding header_bytes
header_length components intervals = refl

pub file_length : (components : ℕ) (intervals : List (List FiredEvent))
    → length (events_file_of components intervals) ≡ 16 + (4 * length intervals + 64 * sum_by length intervals)
file_length components intervals =
    length-append (header_bytes components (length intervals)) (flat_map interval_bytes intervals)
    ∙ omega (arith, header_length components (length intervals), intervals_length intervals)
