-- What files in memory hold, and which of their calls fail.
use Rattle.std.specs.Prelude.{◌==◌, ℕ, Bool, List, Option, Result, Ok, Err}
use Rattle.std.specs.List.{list_any}
use Rattle.std.specs.BTreeMap.{get_by_text}
use Rattle.zs_host.specs.declared.fault.Fault.{Fault}
use Rattle.zs_host.specs.declared.files.FileFail.{FileFail}
use Rattle.zs_host.specs.declared.files.FileFail.TheVariants.{Failed, NoMemory}
use Rattle.zs_host.specs.declared.mem_files.MemFiles.{MemFiles}
use Rattle.zs_host.specs.Counting.{one_more}

-- the bytes that a name holds
abbrev pub held_by : MemFiles → List ℕ → Option (List ℕ)
held_by files name = get_by_text files.held name

-- the numbers of the calls that fail
abbrev pub failing_calls : MemFiles → List ℕ
failing_calls files = files.fail.items

-- how many reads and writes there were
abbrev pub call_count : MemFiles → ℕ
call_count files = files.calls

-- how many there are after one more, which does not count where memory ran out
abbrev pub calls_after : {T : Type 0} → Result T FileFail → ℕ → ℕ
calls_after (Err NoMemory) calls = calls
calls_after (Err Failed) calls = one_more calls
calls_after (Ok x) calls = one_more calls

-- whether the next read or write is one of those that fail
abbrev pub next_fails : MemFiles → Bool
next_fails files = list_any (λ number. number == call_count files) (failing_calls files)

-- how many of them failed
abbrev pub fault_count : MemFiles → ℕ
fault_count files = files.faults.count

-- the latest that failed
abbrev pub latest_fault : MemFiles → Option Fault
latest_fault files = files.faults.latest
