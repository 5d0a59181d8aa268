-- What the reader answers.
use Rattle.std.specs.Prelude.{◌≡◌, Result, Ok, Err}
use Rattle.schedule_file.specs.declared.bad_schedule.BadSchedule.{BadSchedule}
use Rattle.schedule_file.specs.declared.bad_schedule.ScheduleReadFail.{ScheduleReadFail}
use Rattle.schedule_file.specs.declared.bad_schedule.ScheduleReadFail.TheVariants as fail

-- the answer of a call that may also run out of memory, with what its result is seen as
abbrev pub AnswersAs : {A B : Type 0} → (A → B) → Result A ScheduleReadFail → Result B BadSchedule → Type 0
AnswersAs seen_as (Ok x) answer = answer ≡ Ok (seen_as x)
AnswersAs seen_as (Err (fail.Bad wrong)) answer = answer ≡ Err wrong
AnswersAs seen_as (Err fail.NoMemory) answer = Unit {0}
