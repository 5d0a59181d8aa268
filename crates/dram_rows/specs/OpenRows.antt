-- How a controller with open rows serves requests: one after the other, a read by the open row of its bank.
use Rattle.std.specs.Prelude.{◌+◌, ◌==◌, ℕ, max, if◌then◌else◌, Option, Some, None, slice_index_or, slice_set}
use Rattle.dram_rows.specs.declared.numbers.RowNumbers.{RowNumbers}
use Rattle.dram_rows.specs.declared.rows.Rows.{Rows}

-- the cycle at which a request is served: not before its start, and not before the controller is free
abbrev pub served_at : Rows → (start : ℕ) → ℕ
served_at r start = max start r.free

-- the open row of a bank
abbrev pub open_at : Rows → (bank : ℕ) → Option ℕ
open_at r bank = slice_index_or r.open_rows bank None

-- how long a read of a row takes, by the open row of its bank
abbrev pub read_time : RowNumbers → (open_row : Option ℕ) → (row : ℕ) → ℕ
read_time numbers None row = numbers.closed
read_time numbers (Some other) row = if other == row then numbers.hit else numbers.conflict

-- the controller once it has served a request that starts then
abbrev pub busy_after : Rows → (start : ℕ) → Rows
busy_after r start = record r { free = served_at r start + r.numbers.occupancy }

-- The controller after a read, whose row is then the open row of its bank, and the read's finish.
abbrev pub read_step : Rows → (bank row start : ℕ) → Rows × ℕ
read_step r bank row start = (
  record (busy_after r start) { open_rows = slice_set r.open_rows bank (Some row) },
  served_at r start + read_time r.numbers (open_at r bank) row,
)

-- A write goes through a buffer, and leaves the rows as they are.
abbrev pub write_step : Rows → (start : ℕ) → Rows × ℕ
write_step r start = (busy_after r start, served_at r start + r.numbers.write)
