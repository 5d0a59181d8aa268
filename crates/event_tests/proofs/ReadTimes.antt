-- How long a read takes at most.
use Rattle.std.proofs.Common.{◌≤◌, ◌==◌, ℕ, Option, Some, None, inl, inr, arith}
use Rattle.std.proofs.lemmas.Bool.{cases_Bool}
use Rattle.dram_rows.specs.declared.numbers.RowNumbers.{RowNumbers}
use Rattle.dram_rows.specs.OpenRows.{read_time}

pub read_time_at_most : (numbers : RowNumbers) (open_row : Option ℕ) (row : ℕ) → read_time numbers open_row row ≤ numbers.conflict
read_time_at_most numbers None row = numbers.conflict_at_least_closed
read_time_at_most numbers (Some other) row =
    elim (cases_Bool (other == row)) [
      | inl same ↦ rw same (omega (arith, numbers.closed_at_least_hit, numbers.conflict_at_least_closed))
      | inr apart ↦ rw apart (omega arith)
    ]
