-- The line on standard error for each status. It ends with one newline.
use Rattle.std.specs.Prelude.{ℕ, List, [], ◌++◌, codes}
use Rattle.std.specs.Fmt.{decimal, signed_decimal}
use Rattle.certify.specs.declared.bad_events.BadEvents.{BadEvents}
use Rattle.certify.specs.declared.bad_events.BadEvents.TheVariants as events
use Rattle.certify.specs.declared.verdict.Verdict.{Verdict}
use Rattle.certify.specs.declared.verdict.Verdict.TheVariants.{Yes, Start, Finish}
use Rattle.elf_load.specs.declared.bad_elf.BadElf.{BadElf}
use Rattle.elf_load.specs.declared.bad_elf.BadElf.TheVariants as bad
use Rattle.machine_desc.specs.declared.errors.BadMachine.{BadMachine}
use Rattle.machine_desc.specs.declared.errors.BadMachine.TheVariants.{Text, Missing, Kind, Range, Unknown, Ratio, Domain}
use Rattle.report.specs.ReportText.{printed}
use Rattle.schedule_file.specs.declared.bad_schedule.BadSchedule.TheVariants as wrong
use Rattle.zsim.specs.declared.ended.ScheduleFault.{ScheduleFault}
use Rattle.zsim.specs.declared.ended.ScheduleFault.TheVariants as fault
use Rattle.zsim.specs.declared.ended.Status.{Status}
use Rattle.zsim.specs.declared.ended.Status.TheVariants as status
use Rattle.zsim.specs.declared.ended.Which.TheVariants.{Machine, Exe, Schedule, Events}

-- The number of the check that a machine description failed, and the key and the value or the component where there are
-- any. A key is printed as the bytes of a console are.
abbrev pub machine_details : BadMachine → List ℕ
machine_details Text = codes "1"
machine_details (Missing key) = codes "2 " ++ printed key
machine_details (Kind key) = codes "3 " ++ printed key
machine_details (Range key value) = codes "4 " ++ (printed key ++ (codes " " ++ signed_decimal value))
machine_details (Unknown key) = codes "5 " ++ printed key
machine_details (Ratio key) = codes "6 " ++ printed key
machine_details (Domain component) = codes "7 " ++ decimal component

-- the number of the check that an executable failed, and the indexes of the segments where there are any
abbrev pub elf_details : BadElf → List ℕ
elf_details bad.Short = codes "1"
elf_details bad.Magic = codes "2"
elf_details bad.ClassOrData = codes "3"
elf_details bad.Type_ = codes "4"
elf_details bad.Machine = codes "5"
elf_details bad.Flags = codes "6"
elf_details bad.Headers = codes "7"
elf_details bad.Dynamic = codes "8"
elf_details (bad.SegmentPastFile index) = codes "9 " ++ decimal index
elf_details (bad.SegmentPastMemory index) = codes "10 " ++ decimal index
elf_details (bad.Overlap first second) = codes "11 " ++ (decimal first ++ (codes " " ++ decimal second))
elf_details bad.Entry = codes "12"

-- the number of the check that a schedule file failed, and the numbers that it names; then that of a place that is not
-- legal
abbrev pub schedule_details : ScheduleFault → List ℕ
schedule_details (fault.File (wrong.Short at)) = codes "1 " ++ decimal at
schedule_details (fault.File wrong.Magic) = codes "2"
schedule_details (fault.File (wrong.Version found)) = codes "3 " ++ decimal found
schedule_details (fault.File (wrong.Cores found)) = codes "4 " ++ decimal found
schedule_details (fault.File (wrong.Core interval place)) = codes "5 " ++ (decimal interval ++ (codes " " ++ decimal place))
schedule_details (fault.File (wrong.After at)) = codes "6 " ++ decimal at
schedule_details (fault.Illegal interval place) = codes "7 " ++ (decimal interval ++ (codes " " ++ decimal place))

-- the number of the check that an events file failed, and the numbers that it names
abbrev pub events_details : BadEvents → List ℕ
events_details (events.Short at) = codes "1 " ++ decimal at
events_details events.Magic = codes "2"
events_details (events.Version found) = codes "3 " ++ decimal found
events_details (events.Components found) = codes "4 " ++ decimal found
events_details (events.Field interval place) = codes "5 " ++ (decimal interval ++ (codes " " ++ decimal place))
events_details (events.After at) = codes "6 " ++ decimal at

-- What is wrong with the first event that is not as the weave has it, and its interval and number. No status has a
-- verdict of yes.
abbrev pub verdict_details : Verdict → List ℕ
verdict_details (Yes intervals events) = codes "yes " ++ (decimal intervals ++ (codes " " ++ decimal events))
verdict_details (Start interval number) = codes "start " ++ (decimal interval ++ (codes " " ++ decimal number))
verdict_details (Finish interval number) = codes "finish " ++ (decimal interval ++ (codes " " ++ decimal number))

abbrev pub error_line : Status → List ℕ
error_line status.Ran = []
error_line status.Limit = codes "zsim: stopped at the limit\n"
error_line status.Usage = codes "zsim: usage: zsim run MACHINE EXE [--workers N] [--record NAME] [--events NAME] [--brief] or zsim replay MACHINE EXE --schedule NAME [--brief] or zsim check MACHINE EVENTS\n"
error_line status.ReadFault = codes "zsim: cannot read\n"
error_line status.WriteFault = codes "zsim: cannot write\n"
error_line (status.BadMachine bad) = codes "zsim: machine " ++ machine_details bad ++ codes "\n"
error_line (status.BadElf bad) = codes "zsim: elf " ++ elf_details bad ++ codes "\n"
error_line (status.BadSchedule wrong) = codes "zsim: schedule " ++ schedule_details wrong ++ codes "\n"
error_line (status.TooLong Machine) = codes "zsim: too long: machine\n"
error_line (status.TooLong Exe) = codes "zsim: too long: executable\n"
error_line (status.TooLong Schedule) = codes "zsim: too long: schedule\n"
error_line (status.TooLong Events) = codes "zsim: too long: events\n"
error_line (status.BadEvents bad) = codes "zsim: events " ++ events_details bad ++ codes "\n"
error_line (status.NotWoven verdict) = codes "zsim: not the weave: " ++ verdict_details verdict ++ codes "\n"
error_line status.NoMemory = codes "zsim: out of memory\n"

-- the number with which the program ends
abbrev pub status_number : Status → ℕ
status_number status.Ran = 0
status_number status.Usage = 2
status_number status.Limit = 3
status_number status.ReadFault = 4
status_number status.WriteFault = 5
status_number (status.BadMachine bad) = 6
status_number (status.BadElf bad) = 7
status_number status.NoMemory = 8
status_number (status.BadSchedule wrong) = 9
status_number (status.TooLong which) = 10
status_number (status.BadEvents bad) = 11
status_number (status.NotWoven verdict) = 12
