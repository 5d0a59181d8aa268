-- Masks of 256 bits, as four words.
use Rattle.std.specs.Prelude.{ℕ, ◌/◌, ◌%◌, Bool, ◌==◌, List, slice_index, count_by}
use Rattle.std.specs.Int.{bit_at}
use Rattle.std.specs.List.{list_any, range_with_len}

-- whether a bit of a mask is 1: bit 64 * k + i is bit i of word k
unfoldable pub has_bit : (mask : List ℕ) → (place : ℕ) → Bool
has_bit mask place = bit_at (slice_index mask (place / 64)) (place % 64) == 1

-- whether one is
unfoldable pub has_some_bit : (mask : List ℕ) → Bool
has_some_bit mask = list_any (has_bit mask) (range_with_len 0 256)

-- how many are
unfoldable pub bit_count : (mask : List ℕ) → ℕ
bit_count mask = count_by (has_bit mask) (range_with_len 0 256)
