-- What the answer of a call says whose words ask for a check: what was kept, the cause of each status, and what was
-- written to standard output.
use Rattle.std.specs.Prelude.{◌≡◌, ◌⊎◌, ℕ, nat_lt, if◌then◌else◌, List, [], ◌++◌, codes, length, IsOk, Result, Ok, Err, MatchResult}
use Rattle.std.specs.Fmt.{decimal}
use Rattle.machine_desc.specs.declared.machine.Machine.{Machine}
use Rattle.machine_desc.specs.Machine.{IsMachine}
use Rattle.component.specs.declared.comp.Comp.{Comp}
use Rattle.component.specs.Components.{AreFresh}
use Rattle.certify.specs.declared.bad_events.BadEvents.{BadEvents}
use Rattle.certify.specs.declared.verdict.Verdict.{Verdict}
use Rattle.certify.specs.declared.verdict.Verdict.TheVariants.{Yes, Start, Finish}
use Rattle.certify.specs.Verdict.{verdict_of}
use Rattle.zsim.specs.declared.ended.Kept.{Kept}
use Rattle.zsim.specs.declared.ended.Status.{Status}
use Rattle.zsim.specs.declared.ended.Status.TheVariants as status
use Rattle.zsim.specs.declared.ended.Which.TheVariants as which
use Rattle.zsim.specs.CommandLine.{Checking}
use Rattle.zsim.specs.Ended.{IsMachineText, KeepsNothing, no_intervals}
use Rattle.zsim.specs.InputLengths.{events_limit}
use Rattle.zsim.specs.Seen.{FilesSeen, SinkSeen, FailedToRead, FailedToReadInput, FileFailed, Gained, GainedNothing, GainedPrefix, NoFileFailed, NoPutFailed, PutFailed, SameNames, WasRead}
use Rattle.zsim.specs.Setup.{machine_by}

-- The command of a call, and what it saw of its files and of standard output.
pub record CheckSeen : Type 0 where
  pub command : Checking
  pub files : FilesSeen
  pub out : SinkSeen

-- ---- the verdict

-- a verdict as a status tells it: how many intervals and events there are, or the refusal
abbrev pub with_verdict : Result Verdict BadEvents → Result (ℕ × ℕ) Status
with_verdict (Ok (Yes intervals events)) = Ok (intervals, events)
with_verdict (Ok (Start interval number)) = Err (status.NotWoven (Start interval number))
with_verdict (Ok (Finish interval number)) = Err (status.NotWoven (Finish interval number))
with_verdict (Err bad) = Err (status.BadEvents bad)

-- what comes of an events file on these components; its length is tested first
unfoldable pub checked_on : List Comp → (file : List ℕ) → Result (ℕ × ℕ) Status
checked_on comps file = if nat_lt events_limit (length file) then Err (status.TooLong which.Events) else with_verdict (verdict_of comps file)

-- the same on a machine's components before their first event, of which there is one list
abbrev pub IsCheckedOn : Machine → (file : List ℕ) → Result (ℕ × ℕ) Status → Type 0
IsCheckedOn machine file answer = IsMachine machine × ((comps : List Comp) × AreFresh machine comps × (checked_on comps file ≡ answer))

-- what comes of the kept texts: the machine decides first
abbrev pub IsCheckedTo : Kept → Result (ℕ × ℕ) Status → Type 0
IsCheckedTo kept answer = MatchResult (machine_by kept.machine) (λ machine. IsCheckedOn machine kept.events answer) (λ refusal. answer ≡ Err refusal)

-- the verdict is yes
abbrev pub IsYes : Kept → Type 0
IsYes kept = (counts : ℕ × ℕ) × IsCheckedTo kept (Ok counts)

-- ---- what is kept

-- there is no executable, and no run
pub record KeepsNoRun (kept : Kept) : Type 0 where
  pub exe : kept.exe ≡ []
  pub sched_file : kept.sched_file ≡ []
  pub schedule : kept.schedule ≡ no_intervals 0

-- the text of the machine was read
pub record KeepsCheckText (seen : CheckSeen) (kept : Kept) : Type 0 where
  pub no_run : KeepsNoRun kept
  pub machine : IsMachineText seen.files seen.command.machine kept.machine
  pub events : kept.events ≡ []

-- and it passed its checks
pub record KeepsCheckMachine (seen : CheckSeen) (kept : Kept) : Type 0 where
  pub text : KeepsCheckText seen kept
  pub passed : IsOk (machine_by kept.machine)

-- and the events were read
pub record KeepsEvents (seen : CheckSeen) (kept : Kept) : Type 0 where
  pub no_run : KeepsNoRun kept
  pub machine : IsMachineText seen.files seen.command.machine kept.machine
  pub passed : IsOk (machine_by kept.machine)
  pub events : WasRead seen.files seen.command.events events_limit kept.events

-- what is kept goes as far as the steps that were reached
abbrev pub KeepsForCheck : Status → CheckSeen → Kept → Type 0
KeepsForCheck status.Ran seen kept = KeepsEvents seen kept
KeepsForCheck status.Limit seen kept = ⊥
KeepsForCheck status.Usage seen kept = ⊥
KeepsForCheck status.ReadFault seen kept = KeepsNothing kept ⊎ KeepsCheckMachine seen kept
KeepsForCheck status.WriteFault seen kept = KeepsEvents seen kept
KeepsForCheck (status.BadMachine bad) seen kept = KeepsCheckText seen kept
KeepsForCheck (status.BadElf bad) seen kept = ⊥
KeepsForCheck (status.BadSchedule wrong) seen kept = ⊥
KeepsForCheck (status.TooLong which.Machine) seen kept = KeepsCheckText seen kept
KeepsForCheck (status.TooLong which.Exe) seen kept = ⊥
KeepsForCheck (status.TooLong which.Schedule) seen kept = ⊥
KeepsForCheck (status.TooLong which.Events) seen kept = KeepsEvents seen kept
KeepsForCheck (status.BadEvents bad) seen kept = KeepsEvents seen kept
KeepsForCheck (status.NotWoven verdict) seen kept = KeepsEvents seen kept
KeepsForCheck status.NoMemory seen kept = KeepsNothing kept ⊎ KeepsCheckText seen kept ⊎ KeepsCheckMachine seen kept ⊎ KeepsEvents seen kept

-- ---- the cause of each status

-- no file and no put failed
pub record NothingFailed (seen : CheckSeen) : Type 0 where
  pub files : NoFileFailed seen.files
  pub out : NoPutFailed seen.out

-- A read failed: that of the machine's file, before anything was kept; or that of the events, for a machine that passed
-- its checks.
abbrev pub CouldNotRead : CheckSeen → Kept → Type 0
CouldNotRead seen kept =
    (KeepsNothing kept × FailedToReadInput seen.files seen.command.machine)
    ⊎ (KeepsCheckMachine seen kept × FailedToRead seen.files seen.command.events)

-- the texts are refused so
abbrev pub IsRefused : Status → CheckSeen → Kept → Type 0
IsRefused s seen kept = IsCheckedTo kept (Err s) × NothingFailed seen

abbrev pub HasCheckCause : Status → CheckSeen → Kept → Type 0
HasCheckCause status.Ran seen kept = IsYes kept × NothingFailed seen
HasCheckCause status.Limit seen kept = ⊥
HasCheckCause status.Usage seen kept = ⊥
HasCheckCause status.ReadFault seen kept = CouldNotRead seen kept × NoPutFailed seen.out
HasCheckCause status.WriteFault seen kept = IsYes kept × NoFileFailed seen.files × PutFailed seen.out
HasCheckCause (status.BadMachine bad) seen kept = IsRefused (status.BadMachine bad) seen kept
HasCheckCause (status.BadElf bad) seen kept = ⊥
HasCheckCause (status.BadSchedule wrong) seen kept = ⊥
HasCheckCause (status.TooLong which) seen kept = IsRefused (status.TooLong which) seen kept
HasCheckCause (status.BadEvents bad) seen kept = IsRefused (status.BadEvents bad) seen kept
HasCheckCause (status.NotWoven verdict) seen kept = IsRefused (status.NotWoven verdict) seen kept
HasCheckCause status.NoMemory seen kept = NothingFailed seen

-- ---- what was written

-- what is written where the verdict is yes: how many intervals and events there are
abbrev pub check_text : ℕ × ℕ → List ℕ
check_text counts =
    codes "zsim check 1\n" ++ ((codes "intervals " ++ (decimal counts.0 ++ codes "\n")) ++ ((codes "events " ++ (decimal counts.1 ++ codes "\n")) ++ codes "yes\n"))

-- the verdict is yes, and standard output gained a part of the text, from its front
abbrev pub IsCheckCut : CheckSeen → Kept → Type 0
IsCheckCut seen kept = (counts : ℕ × ℕ) × IsCheckedTo kept (Ok counts) × GainedPrefix seen.out (check_text counts)

abbrev pub ReportsCheck : Status → CheckSeen → Kept → Type 0
ReportsCheck status.Ran seen kept = (counts : ℕ × ℕ) × IsCheckedTo kept (Ok counts) × Gained seen.out (check_text counts)
ReportsCheck status.WriteFault seen kept = IsCheckCut seen kept
ReportsCheck status.NoMemory seen kept = GainedNothing seen.out ⊎ IsCheckCut seen kept
ReportsCheck _ seen kept = GainedNothing seen.out

-- ---- all of it

-- where nothing failed, the texts decide, unless memory ran out
abbrev pub IsDecidedByTexts : Status → Kept → Type 0
IsDecidedByTexts s kept =
    (s ≡ status.NoMemory)
    ⊎ ((answer : Result (ℕ × ℕ) Status) × IsCheckedTo kept answer × MatchResult answer (λ counts. s ≡ status.Ran) (λ refusal. s ≡ refusal))

-- how a call ended whose words ask for a check
pub record ChecksAs (seen : CheckSeen) (s : Status) (k : Kept) : Type 0 where
  -- what was read is kept
  pub kept : KeepsForCheck s seen k
  -- each status has its cause, and each fault its status
  pub refusals : HasCheckCause s seen k
  -- yes is told with its numbers, and nothing else is
  pub report : ReportsCheck s seen k
  -- no name changed
  pub files : SameNames seen.files
  -- where no file and no put failed, the texts decide
  pub complete : ¬ FileFailed seen.files → ¬ PutFailed seen.out → IsDecidedByTexts s k
