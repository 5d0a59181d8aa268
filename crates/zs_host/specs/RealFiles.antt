-- What the files of the system keep of the calls that failed.
use Rattle.std.specs.Prelude.{ℕ, Option}
use Rattle.zs_host.specs.declared.fault.Fault.{Fault}
use Rattle.zs_host.specs.declared.real_files.RealFiles.{RealFiles}

-- how many calls failed
abbrev pub failed_calls : {S : Type 0} → RealFiles S → ℕ
failed_calls files = files.faults.count

-- the latest that failed
abbrev pub latest_failed : {S : Type 0} → RealFiles S → Option Fault
latest_failed files = files.faults.latest
