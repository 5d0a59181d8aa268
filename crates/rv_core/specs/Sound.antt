-- What every core keeps.
use Rattle.std.specs.Prelude.{◌≡◌, ◌+◌, ◌%◌, ◌^◌, ◌≤◌, ◌<◌, Bool, List, [], ◌∷◌, length, slice_index, IfSome, IsSome, IsTrue, Some, None}
use Rattle.zs_num.specs.Request.{line_at}
use Rattle.zs_num.specs.declared.request.Request.{Request}
use Rattle.rv_core.specs.declared.ask.Ask.{Ask}
use Rattle.rv_core.specs.declared.ask.Ask.TheVariants.{Local, Access, Halted}
use Rattle.rv_core.specs.declared.memory_range.MemoryRange.{MemoryRange}
use Rattle.rv_core.specs.CoreState.{CoreState, Ending, ToRegister, ToConsole, ToExecution, ToNothing, InProgress}
use Rattle.zs_num.specs.PairedRight.{ArePairedRight}
use Rattle.zs_num.specs.Servable.{IsServable}

-- an access that a machine with this memory can serve; it can serve a fetch where its cores fetch
abbrev pub IsServableIn : MemoryRange → (fetching : Bool) → Request → Type 0
IsServableIn memory fetching request = IsServable memory.base memory.size fetching request

-- accesses that it can serve
abbrev pub AreServableIn : MemoryRange → (fetching : Bool) → List Request → Type 0
AreServableIn memory fetching [] = Unit {0}
AreServableIn memory fetching (request ∷ requests) = IsServableIn memory fetching request × AreServableIn memory fetching requests

-- the accesses that are left of an instruction in progress
abbrev pub left_of : InProgress → List Request
left_of now = now.next ∷ now.later

-- only a core that fetches has an instruction to execute at the end, and no access comes behind the fetch
abbrev pub FetchesAlone : (fetching : Bool) → Ending → (later : List Request) → Type 0
FetchesAlone fetching ToExecution later = IsTrue fetching × (later ≡ [])
FetchesAlone fetching (ToRegister destination) later = Unit {0}
FetchesAlone fetching (ToConsole count) later = Unit {0}
FetchesAlone fetching ToNothing later = Unit {0}

-- a number of 1 to 8 bytes goes to a register that is there
abbrev pub EndsInRegister : Ending → Type 0
EndsInRegister (ToRegister destination) = (destination.rd < 32) × (1 ≤ destination.width) × (destination.width ≤ 8)
EndsInRegister (ToConsole count) = Unit {0}
EndsInRegister ToExecution = Unit {0}
EndsInRegister ToNothing = Unit {0}

-- There are 32 registers, and x0 is 0; memory ends at 2^48 at most; the accesses that are left of an instruction can
-- all be served, and say of the pairing what it is, and there are 256 of them at most; a core that waits for a reply has
-- not halted. Instructions that are fetched lie at multiples of 4. Only a core that fetches has one that was fetched and
-- is to be executed: then it waits for no reply and has not halted, and the line is that of its latest fetch.
pub record IsSoundCore (core : CoreState) : Type 0 where
  pub registers : length core.registers ≡ 32
  pub zero : slice_index core.registers 0 ≡ 0
  pub reach : core.memory.base + core.memory.size ≤ 2 ^ 48
  pub served : IfSome core.instruction (λ now. AreServableIn core.memory core.fetching (left_of now))
  pub paired : IfSome core.instruction (λ now. ArePairedRight core.pairing (left_of now))
  pub ending : IfSome core.instruction (λ now. EndsInRegister now.ending)
  pub few : IfSome core.instruction (λ now. length now.later < 256)
  pub alone : IfSome core.instruction (λ now. FetchesAlone core.fetching now.ending now.later)
  pub waits : IsSome core.instruction → core.halted ≡ None
  pub aligned : IsTrue core.fetching → core.pc % 4 ≡ 0
  pub fetched : IsTrue core.is_fetched → IsTrue core.fetching × (core.instruction ≡ None) × (core.halted ≡ None)
  pub line : IsTrue core.is_fetched → core.fetched_line ≡ Some (line_at core.pc)

-- an access that is asked for can be served
abbrev pub IsServableAsk : MemoryRange → (fetching : Bool) → Ask → Type 0
IsServableAsk memory fetching Local = Unit {0}
IsServableAsk memory fetching (Access request) = IsServableIn memory fetching request
IsServableAsk memory fetching (Halted why) = Unit {0}
