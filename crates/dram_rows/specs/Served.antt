-- When a controller with open rows serves the requests of a list, and how long each takes: told by the list alone.
use Rattle.std.specs.Prelude.{◌≡◌, ◌+◌, ◌-◌, ◌*◌, ◌<◌, ◌==◌, ℕ, suc, max, if◌then◌else◌, List, [], ◌∷◌, map, take, slice_get, Option, Some, None, All}
use Rattle.std.specs.List.{fold, range_with_len}
use Rattle.std.specs.Option.{option_map_or}
use Rattle.dram_rows.specs.declared.numbers.RowNumbers.{RowNumbers}
use Rattle.dram_rows.specs.declared.rows.Rows.{Rows}
use Rattle.dram_rows.specs.Conditions.{IsNew}
use Rattle.dram_rows.specs.OpenRows.{read_time, read_step, write_step}

-- what is asked of the controller
pub data RowRequest : Type 0 where
  Read : (bank row start : ℕ) → RowRequest
  Write : (start : ℕ) → RowRequest

abbrev pub start_of : RowRequest → ℕ
start_of (Read bank row start) = start
start_of (Write start) = start

-- the controller after a request, and the request's finish
abbrev pub step_by : Rows → RowRequest → Rows × ℕ
step_by r (Read bank row start) = read_step r bank row start
step_by r (Write start) = write_step r start

-- the controller after some requests
abbrev pub after : Rows → List RowRequest → Rows
after r requests = fold (λ s request. (step_by s request).0) r requests

-- the row that the last read of a bank is of, if the bank is read
abbrev pub read_by : (bank : ℕ) → (so_far : Option ℕ) → RowRequest → Option ℕ
read_by bank so_far (Read of row start) = if of == bank then Some row else so_far
read_by bank so_far (Write start) = so_far

abbrev pub last_row : (bank : ℕ) → List RowRequest → Option ℕ
last_row bank requests = fold (read_by bank) None requests

-- how long a request takes behind these
abbrev pub time_behind : RowNumbers → (earlier : List RowRequest) → RowRequest → ℕ
time_behind numbers earlier (Read bank row start) = read_time numbers (last_row bank earlier) row
time_behind numbers earlier (Write start) = numbers.write

abbrev pub greatest : List ℕ → ℕ
greatest [] = 0
greatest (n ∷ ns) = max n (greatest ns)

-- the start of the request at a place
abbrev pub start_at : List RowRequest → (place : ℕ) → ℕ
start_at requests place = option_map_or start_of (slice_get requests place) 0

-- When the request at a place is served: not before its own start, and behind each request before it not before that
-- one's start and an occupancy for every request from that one on.
abbrev pub served_of : (occupancy : ℕ) → List RowRequest → (place : ℕ) → ℕ
served_of occupancy requests place =
    greatest (map (λ j. start_at requests j + (place - j) * occupancy) (range_with_len 0 (suc place)))

-- the bank of a read is there
abbrev pub IsOfBank : RowNumbers → RowRequest → Type 0
IsOfBank numbers (Read bank row start) = bank < numbers.banks
IsOfBank numbers (Write start) = Unit {0}

-- Whatever is asked of a new controller: each request finishes as much later than it is served as the reads before it
-- say.
abbrev pub RowsServeInTurn : Type 0
RowsServeInTurn =
    (r : Rows) (requests : List RowRequest) (place : ℕ) (request : RowRequest) → IsNew r → All (IsOfBank r.numbers) requests
    → slice_get requests place ≡ Some request
    → (step_by (after r (take place requests)) request).1
    ≡ served_of r.numbers.occupancy requests place + time_behind r.numbers (take place requests) request
