-- The events file of a run as the code keeps it.
use Rattle.std.specs.Prelude.{◌≡◌, ◌+◌, ◌*◌, ◌-◌, ◌<◌, ◌≤◌, ◌^◌, ℕ, Bool, true, false, nat_le, List, length, map, Ok}
use Rattle.elf_load.specs.MemoryImage.{MemoryImage}
use Rattle.machine_desc.specs.declared.machine.Machine.{Machine}
use Rattle.machine_desc.specs.Components.{component_count}
use Rattle.component.specs.declared.comp.Comp.{Comp}
use Rattle.component.specs.Components.{AreFresh}
use Rattle.certify.specs.SoFar.{events_so_far, file_bytes}
use Rattle.stats.specs.Counts.{Interval}
use Rattle.run.specs.declared.recording.Recording.{Recording}
use Rattle.run.specs.declared.recording.Recording.TheVariants.{Off, On, TooLong}
use Rattle.reference.specs.ReferenceRun.{RunState, after_intervals, first_state}
use Rattle.reference.specs.RunEvents.{events_file_of_run, events_limit, timed_events}

-- whether events are kept, be it in vain
abbrev pub is_on : Recording → Bool
is_on Off = false
is_on (On file) = true
is_on TooLong = true

-- a recording is that of a run that had these intervals: of nothing; of its file; or that this is too long
abbrev pub IsRecordingOf : Machine → List Interval → Recording → Type 0
IsRecordingOf machine intervals Off = Unit {0}
IsRecordingOf machine intervals (On file) =
    (file ≡ events_so_far (component_count machine) (map timed_events intervals)) × (length (events_file_of_run machine intervals) ≤ events_limit)
IsRecordingOf machine intervals TooLong = events_limit < length (events_file_of_run machine intervals)

-- the same of some intervals, of which there are few
pub record IsRecordingSoFar (machine : Machine) (recording : Recording) : Type 0 where
  pub intervals : List Interval
  pub few : length intervals < 2 ^ 32 - 1
  pub is : IsRecordingOf machine intervals recording

-- whether a file that is kept stays within its limit with so many events more
abbrev pub stays_short : Recording → (events : ℕ) → Bool
stays_short Off events = true
stays_short (On file) events = nat_le (length (file_bytes file) + 4 + 64 * events) events_limit
stays_short TooLong events = true

-- a recording is that of the run of an image under a schedule that is legal for it
pub record IsRecordedRun (machine : Machine) (image : MemoryImage) (lists : List (List ℕ)) (recording : Recording) : Type 0 where
  pub comps : List Comp
  pub fresh : AreFresh machine comps
  pub state : RunState
  pub reached : after_intervals machine image (first_state machine image comps) lists ≡ Ok state
  pub recorded : IsRecordingOf machine state.intervals recording
