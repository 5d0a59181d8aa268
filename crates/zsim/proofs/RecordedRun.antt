-- What a run gives of which the events were kept.
use Rattle.std.proofs.Common.{◌≡◌, ◌≤◌, ◌<◌, ℕ, true, false, true≢false, List, Option, Some, None, refl, sym, ap, option_map}
use Rattle.std.specs.Prelude.{IfSome, IsSomeAnd, MatchOption, is_some, length}
use Rattle.elf_load.specs.MemoryImage.{MemoryImage}
use Rattle.access_log.specs.Schedule.{ScheduleState}
use Rattle.machine_desc.specs.declared.machine.Machine.{Machine}
use Rattle.run.specs.declared.recording.Recording.{Recording}
use Rattle.run.specs.Recording.{IsRecordedRun, is_on}
use Rattle.reference.specs.ReferenceRun.{IsRunOf}
use Rattle.reference.specs.Results.{HasCounts, Results}
use Rattle.reference.specs.RunEvents.{IsEventsFileOf, events_file_of_run, events_limit}
use Rattle.zsim.specs.Outputs.{named_if}
use Rattle.zsim.specs.Steps.{RunGives}

-- the file of the events, whether they were kept or not
recorded_file : (machine : Machine) (image : MemoryImage) (lists : List (List ℕ)) (recording : Recording) → IsRecordedRun machine image lists recording
    → (bytes : List ℕ) × IsEventsFileOf machine image lists bytes
recorded_file machine image lists recording r =
    (events_file_of_run machine r.state.intervals, record { comps = r.comps; fresh = r.fresh; state = r.state; reached = r.reached; file = refl })

module _ {N : Type 0} (word : N → List ℕ) (machine : Machine) (image : MemoryImage) (schedule : ScheduleState) (r : Results) (run : IsRunOf machine image schedule.lists r) (counted : HasCounts machine r)
    (recording : Recording) (recorded : IsRecordedRun machine image schedule.lists recording) where
  -- what the run gives, whatever was kept
  pub gives : RunGives machine image schedule r
  gives =
      let file = recorded_file machine image schedule.lists recording recorded in
      record { run = run; counted = counted; events = file.0; events_are = file.1 }

  -- what the recording tells where it was on: its bytes, or that they would be too many
  abbrev Tells : {B : Type 0} → (bytes_of : B → List ℕ) → Option B → Type 0
  Tells bytes_of found = is_on recording ≡ true
      → MatchOption found ((events : List ℕ) × IsEventsFileOf machine image schedule.lists events × (events_limit < length events)) (λ b. IsEventsFileOf machine image schedule.lists (bytes_of b) × (length (bytes_of b) ≤ events_limit))

  -- the bytes that were kept are those of the events, if a file is named for them
  pub gives_kept : {B : Type 0} (bytes_of : B → List ℕ) (events_to : Option N) (found : Option B) (b : B) → found ≡ Some b → is_on recording ≡ is_some events_to → Tells bytes_of found
      → (given : RunGives machine image schedule r) × IfSome (option_map word events_to) (λ name. length given.events ≤ events_limit)
      × (named_if (option_map word events_to) (bytes_of b) ≡ named_if (option_map word events_to) given.events)
  gives_kept bytes_of None found b is on tells = (gives, tt, refl)
  gives_kept bytes_of (Some name) None b is on tells = absurd cc
  gives_kept {B} bytes_of (Some name) (Some kept) b is on tells =
      let these = tells on in
      let same : kept ≡ b = cc in
      (record { run = run; counted = counted; events = bytes_of kept; events_are = these.0 }, these.1, ap (λ (x : B). named_if (Some (word name)) (bytes_of x)) (sym same))

  -- the bytes would be too many for the file that is named
  pub gives_too_many : {B : Type 0} (bytes_of : B → List ℕ) (events_to : Option N) (found : Option B) → ((b : B) → found ≡ Some b → ⊥) → is_on recording ≡ is_some events_to
      → (is_on recording ≡ false → is_some found ≡ true) → Tells bytes_of found
      → (given : RunGives machine image schedule r) × IsSomeAnd (option_map word events_to) (λ name. events_limit < length given.events)
  gives_too_many bytes_of events_to (Some b) not on off tells = absurd (not b refl)
  gives_too_many bytes_of None None not on off tells = absurd (true≢false (sym (off on)))
  gives_too_many bytes_of (Some name) None not on off tells =
      let found = tells on in
      (record { run = run; counted = counted; events = found.0; events_are = found.1 }, found.2)
