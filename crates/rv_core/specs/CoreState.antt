-- What a core is at a moment, as its program sees it.
use Rattle.std.specs.Prelude.{ℕ, Bool, List, Option}
use Rattle.zs_num.specs.declared.request.Request.{Request}
use Rattle.rv_core.specs.declared.memory_range.MemoryRange.{MemoryRange}
use Rattle.zs_num.specs.declared.pairing.Pairing.{Pairing}
use Rattle.rv_core.specs.declared.progress.Destination.{Destination}
use Rattle.rv_core.specs.declared.progress.Reply.{Reply}
use Rattle.rv_core.specs.declared.why.Why.{Why}

-- What the replies to an instruction's accesses do in the end: the number that they make goes to a register; each was a
-- byte of the console, of which there are so many in all; the instruction was fetched and is executed next, whatever was
-- replied; or they are dropped.
pub data Ending : Type 0 where
  ToRegister : Destination → Ending
  ToConsole : (count : ℕ) → Ending
  ToExecution : Ending
  ToNothing : Ending

-- An instruction of which some accesses are done and at least one is not.
pub record InProgress : Type 0 where
  -- the access that comes next
  pub next : Request
  -- the accesses that come after it, in order
  pub later : List Request
  -- the replies so far of those that go to a register
  pub replies : List Reply
  -- what the replies do in the end
  pub ending : Ending

pub record CoreState : Type 0 where
  -- 32 numbers of 64 bits, the first of which is 0
  pub registers : List ℕ
  -- the address of the instruction that comes next or is in progress
  pub pc : ℕ
  -- where memory lies
  pub memory : MemoryRange
  -- the address and the width of the latest load-reserved, unless a store-conditional came since
  pub pairing : Option Pairing
  -- the instruction in progress, if it waits for a reply
  pub instruction : Option InProgress
  -- whether the core fetches its instructions, by accesses
  pub fetching : Bool
  -- the line of its latest fetch, if it made one
  pub fetched_line : Option ℕ
  -- whether the instruction at pc was fetched and is to be executed: it is in progress then, too
  pub is_fetched : Bool
  -- why it halted, if it did
  pub halted : Option Why
