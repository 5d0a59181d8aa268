-- Schedules and their files, both ways.
use Rattle.std.specs.Prelude.{◌≡◌, ℕ, ◌+◌, ◌*◌, ◌^◌, ◌≤◌, ◌<◌, List, All, length, sum_by, Ok}
use Rattle.access_log.specs.Schedule.{AreTurns, ScheduleState}
use Rattle.schedule_file.specs.ScheduleFile.{schedule_file_of, schedule_of}

-- A schedule is what its file says. (The number of cores of a `Schedule` is below 2^16.)
abbrev pub EachScheduleIsReadAgain : Type 0
EachScheduleIsReadAgain = (s : ScheduleState) → AreTurns s → s.cores < 2 ^ 16 → schedule_of s.cores (schedule_file_of s) ≡ Ok s

-- What a list of bytes says, for any number of cores, is a schedule of that many, which has these bytes as its file.
abbrev pub EachFileIsWrittenAgain : Type 0
EachFileIsWrittenAgain = (cores : ℕ) (bytes : List ℕ) (s : ScheduleState) → All (λ byte. byte < 256) bytes → schedule_of cores bytes ≡ Ok s
    → (schedule_file_of s ≡ bytes) × (s.cores ≡ cores) × AreTurns s

-- The file of a schedule has 16 bytes, four for each interval, and at most two for each turn.
abbrev pub FilesAreShort : Type 0
FilesAreShort = (s : ScheduleState) → length (schedule_file_of s) ≤ 16 + (4 * length s.lists + 2 * sum_by length s.lists)
