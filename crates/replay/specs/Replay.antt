-- What a replay answers.
use Rattle.std.specs.Prelude.{ℕ, List, Result, Ok, Err}
use Rattle.elf_load.specs.MemoryImage.{MemoryImage}
use Rattle.machine_desc.specs.declared.machine.Machine.{Machine}
use Rattle.bound_records.specs.declared.turns_fail.TurnsFail.{TurnsFail}
use Rattle.bound_records.specs.declared.turns_fail.TurnsFail.TheVariants as turns_fail
use Rattle.reference.specs.ReferenceRun.{Illegal, IsIllegalAt, IsRunOf}
use Rattle.reference.specs.Results.{Results}
use Rattle.replay.specs.declared.replay_fail.ReplayFail.{ReplayFail}
use Rattle.replay.specs.declared.replay_fail.ReplayFail.TheVariants as fail

-- of the place that is not legal
abbrev pub IfIllegal : ReplayFail → (Illegal → Type 0) → Type 0
IfIllegal (fail.Illegal interval place) P = P (record { interval = interval; place = place })
IfIllegal fail.NoMemory P = Unit {0}

-- the results of the reference run under the schedule, or its first place that is not legal, unless memory ran out
abbrev pub Replays : Machine → MemoryImage → (lists : List (List ℕ)) → Result Results ReplayFail → Type 0
Replays machine image lists (Ok results) = IsRunOf machine image lists results
Replays machine image lists (Err (fail.Illegal interval place)) = IsIllegalAt machine image lists (record { interval = interval; place = place })
Replays machine image lists (Err fail.NoMemory) = Unit {0}

-- why a replay fails whose turns of this interval do
abbrev pub fail_of : (interval : ℕ) → TurnsFail → ReplayFail
fail_of interval (turns_fail.Illegal place) = fail.Illegal interval place
fail_of interval turns_fail.NoMemory = fail.NoMemory
