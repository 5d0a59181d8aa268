-- What an answer says of the calls that failed.
use Rattle.std.specs.Prelude.{◌≡◌, ◌+◌, ◌-◌, ◌^◌, ◌≤◌, ℕ, min, Option, Some, Result, Ok, Err}
use Rattle.zs_host.specs.declared.fault.Fault.{Fault}
use Rattle.zs_host.specs.declared.files.FileFail.{FileFail}
use Rattle.zs_host.specs.declared.files.FileFail.TheVariants as file
use Rattle.zs_host.specs.declared.sink.SinkFail.{SinkFail}
use Rattle.zs_host.specs.declared.sink.SinkFail.TheVariants as sink

-- the count of faults rose: it is higher, or it stands at its last value
pub record Rose (before after : ℕ) : Type 0 where
  pub kept : before ≤ after
  pub counted : min (before + 1) (2 ^ 64 - 1) ≤ after

-- Failed comes only where the count rose, and this call is then the latest fault. Any other answer
-- leaves both as they were.
abbrev pub FileFaults : {T : Type 0} → Result T FileFail → (before after : ℕ) → (old new : Option Fault) → Fault → Type 0
FileFaults (Err file.Failed) before after old new this = Rose before after × (new ≡ Some this)
FileFaults (Err file.NoMemory) before after old new this = (after ≡ before) × (new ≡ old)
FileFaults (Ok x) before after old new this = (after ≡ before) × (new ≡ old)

-- Failed comes only where the count rose. Any other answer leaves it as it was.
abbrev pub SinkFaults : {T : Type 0} → Result T SinkFail → (before after : ℕ) → Type 0
SinkFaults (Err sink.Failed) before after = Rose before after
SinkFaults (Err sink.NoMemory) before after = after ≡ before
SinkFaults (Ok x) before after = after ≡ before
