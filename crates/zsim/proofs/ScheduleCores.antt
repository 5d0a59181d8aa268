-- The schedule of a file is for the cores of the machine.
use Rattle.std.proofs.Common.{◌≡◌, ℕ, Bool, true, false, List, Ok, Err, Result, ap, refl, ◌∙◌}
use Rattle.std.specs.Prelude.{if◌then◌else◌, length, nat_lt}
use Rattle.access_log.specs.Schedule.{ScheduleState}
use Rattle.machine_desc.specs.declared.machine.Machine.{Machine}
use Rattle.schedule_file.specs.declared.bad_schedule.BadSchedule.{BadSchedule}
use Rattle.schedule_file.specs.ScheduleFile.{count_of, lists_from, schedule_of, then_read}
use Rattle.zsim.specs.declared.ended.Status.{Status}
use Rattle.zsim.specs.InputLengths.{schedule_limit}
use Rattle.zsim.specs.Setup.{schedule_by, with_schedule}

behind_lists : (cores : ℕ) (lists : Result (List (List ℕ)) BadSchedule) (s : ScheduleState)
    → then_read lists (λ l. Ok (record { cores = cores; lists = l })) ≡ Ok s → s.cores ≡ cores
behind_lists cores (Ok lists) s is =
    let made : ScheduleState = record { cores = cores; lists = lists } in
    let same : s ≡ made = cc in
    ap (λ (l : ScheduleState). l.cores) same
behind_lists cores (Err bad) s is = absurd cc

behind_count : (cores : ℕ) (count : Result ℕ BadSchedule) (lists : ℕ → Result (List (List ℕ)) BadSchedule) (s : ScheduleState)
    → then_read count (λ n. then_read (lists n) (λ l. Ok (record { cores = cores; lists = l }))) ≡ Ok s → s.cores ≡ cores
behind_count cores (Ok n) lists s is = behind_lists cores (lists n) s is
behind_count cores (Err bad) lists s is = absurd cc

file_cores : (cores : ℕ) (bytes : List ℕ) (s : ScheduleState) → schedule_of cores bytes ≡ Ok s → s.cores ≡ cores
unfolding schedule_of
file_cores cores bytes s is = behind_count cores (count_of cores bytes) (λ n. lists_from cores bytes n 0 16) s is

behind_length : (cores : ℕ) (bytes : List ℕ) (refusal : Status) (long : Bool) (found : Result ScheduleState BadSchedule) (s : ScheduleState)
    → schedule_of cores bytes ≡ found → (if long then Err refusal else with_schedule found) ≡ Ok s → s.cores ≡ cores
behind_length cores bytes refusal true found s found_is is = absurd cc
behind_length cores bytes refusal false (Ok schedule) s found_is is =
    let same : schedule ≡ s = cc in
    file_cores cores bytes s (found_is ∙ ap Ok same)
behind_length cores bytes refusal false (Err bad) s found_is is = absurd cc

pub schedule_cores : (machine : Machine) (bytes : List ℕ) (s : ScheduleState) → schedule_by machine bytes ≡ Ok s → s.cores ≡ machine.cores
unfolding schedule_by
schedule_cores machine bytes s is = behind_length machine.cores bytes _ (nat_lt schedule_limit (length bytes)) (schedule_of machine.cores bytes) s refl is
