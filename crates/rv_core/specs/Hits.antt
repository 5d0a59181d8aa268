-- A core that goes on by itself: instructions without an access, and accesses that its port serves at once, as hits.
use Rattle.std.specs.Prelude.{◌≡◌, ◌+◌, ◌≤◌, ◌<◌, ◌⊎◌, ℕ, zero, suc, Bool, true, not, ◌&&◌, ◌||◌, if◌then◌else◌, List, Option, Some, None, is_some}
use Rattle.zs_num.specs.declared.entry.Entry.{Entry}
use Rattle.zs_num.specs.declared.request.Request.{Request}
use Rattle.zs_num.specs.declared.request.Request.TheVariants as request
use Rattle.zs_num.specs.Request.{line_at}
use Rattle.elf_load.specs.MemoryImage.{MemoryImage}
use Rattle.rv_core.specs.declared.memory_range.MemoryRange.{MemoryRange}
use Rattle.rv_core.specs.declared.single.Single.{Single}
use Rattle.rv_core.specs.declared.stint.Stint.{Stint}
use Rattle.rv_core.specs.Asked.{is_idle}
use Rattle.rv_core.specs.CoreState.{CoreState}
use Rattle.rv_core.specs.Executions.{at, LeadsTo, LiesIn, Meets}
use Rattle.rv_core.specs.Port.{IsHit}
use Rattle.rv_core.specs.Single.{access_of, begun}
use Rattle.rv_core.specs.Step.{answered, needs_fetch}

-- where a core stands, and what it has done so far
pub record Moment (Port : Type 0) : Type 0 where
  pub registers : List ℕ
  -- the address of the next instruction
  pub pc : ℕ
  -- the line of its latest fetch, if it fetches
  pub line : Option ℕ
  -- in cycles
  pub clock : ℕ
  -- how many instructions it executed
  pub count : ℕ
  -- what serves its accesses
  pub port : Port

-- A core at these registers and at this address that has begun this one access goes on at those, once it has this reply.
abbrev pub Completes : Single → (reply : ℕ) → (registers : List ℕ) → (pc : ℕ) → (registers_after : List ℕ) → (pc_after : ℕ) → Type 0
Completes single reply registers pc registers_after pc_after =
    (core : CoreState) → is_idle core ≡ true → answered reply (begun single (at core registers pc)) ≡ at core registers_after pc_after

-- A core that fetches and is in memory like this has to fetch the instruction at an address, where its latest fetch was of
-- this line.
abbrev pub Fetches : MemoryImage → MemoryRange → (line : Option ℕ) → (pc : ℕ) → Type 0
Fetches image memory line pc =
    (core : CoreState) → core.memory ≡ memory → core.fetching ≡ true → core.fetched_line ≡ line → core.pc ≡ pc → needs_fetch image core ≡ true

-- At these registers the instruction at an address makes one access, which starts then and which the port serves as a hit,
-- and leads to those.
pub record MakesAccess {Port : Type 0} (image : MemoryImage) (memory : MemoryRange)
    (gives : Port → (start : ℕ) → Request → Entry → Port → Type 0) (core_of : Port → ℕ) (logged_of : Port → Option (List Entry))
    (start : ℕ) (registers : List ℕ) (pc : ℕ) (port : Port) (registers_after : List ℕ) (pc_after : ℕ) (port_after : Port) : Type 0 where
  pub single : Single
  pub reply : ℕ
  pub meets : Meets image memory registers pc single
  pub served : IsHit gives core_of logged_of port start (access_of single) reply port_after
  pub completes : Completes single reply registers pc registers_after pc_after

module _ {Port : Type 0} (image : MemoryImage) (memory : MemoryRange) (stint : Stint)
    (gives : Port → (start : ℕ) → Request → Entry → Port → Type 0) (core_of : Port → ℕ) (logged_of : Port → Option (List Entry)) where
  -- instructions without an access, of a cycle each, in the line of the latest fetch of a core that fetches
  pub record RunsOn (before after : Moment Port) : Type 0 where
    pub instructions : ℕ
    pub leads : LeadsTo before.line instructions image before.registers before.pc after.registers after.pc
    pub line : after.line ≡ before.line
    pub clock : after.clock ≡ before.clock + instructions
    pub count : after.count ≡ before.count + instructions
    pub port : after.port ≡ before.port
    pub in_time : after.clock ≤ stint.end

  -- An instruction of one access, a load or a store: it takes a cycle, and then the time of a hit.
  pub record MakesHit (before after : Moment Port) : Type 0 where
    pub lies : LiesIn before.line before.pc
    pub access : MakesAccess image memory gives core_of logged_of (before.clock + 1) before.registers before.pc before.port after.registers after.pc after.port
    pub line : after.line ≡ before.line
    pub clock : after.clock ≡ before.clock + 1 + stint.hit
    pub count : after.count ≡ before.count + 1
    pub in_time : after.clock ≤ stint.end

  -- The fetch of the instruction that comes next. It is executed before the end.
  pub record MakesFetch (before after : Moment Port) : Type 0 where
    pub latest : ℕ
    pub had : before.line ≡ Some latest
    pub fetches : Fetches image memory before.line before.pc
    pub served : (reply : ℕ) × IsHit gives core_of logged_of before.port before.clock (request.Fetch before.pc) reply after.port
    pub registers : after.registers ≡ before.registers
    pub pc : after.pc ≡ before.pc
    pub line : after.line ≡ Some (line_at before.pc)
    pub clock : after.clock ≡ before.clock + stint.fetch_hit
    pub count : after.count ≡ before.count
    pub in_time : after.clock < stint.end

  -- so many accesses, each a hit, with the instructions before them, between them and behind them
  abbrev pub GoesOn : (accesses : ℕ) → (before after : Moment Port) → Type 0
  GoesOn zero before after = RunsOn before after
  GoesOn (suc n) before after =
      (s : Moment Port) × ((t : Moment Port) × (GoesOn n before s × ((MakesHit s t ⊎ MakesFetch s t) × RunsOn t after)))

  -- The core went on from there to here, and made so many accesses. `room_of` is for how many accesses a port has room at least.
  pub record HasGoneOn (room_of : Port → ℕ) (made : ℕ) (before after : Moment Port) : Type 0 where
    pub few : made ≤ stint.accesses
    pub room : room_of before.port ≤ room_of after.port + made
    pub path : GoesOn made before after

-- the line of a core's latest fetch, if it fetches
abbrev pub line_of : CoreState → Option ℕ
line_of core = if core.fetching then core.fetched_line else None

-- whether the core may go on by itself: no instruction is in progress, and it has fetched a line, if it fetches
abbrev pub may_go_on : CoreState → Bool
may_go_on core = is_idle core && (not core.fetching || is_some core.fetched_line)

-- a core at its clock, before it executes the instructions that are counted
abbrev pub moment_of : {Port : Type 0} → CoreState → (clock count : ℕ) → Port → Moment Port
moment_of core clock count port =
    record { registers = core.registers; pc = core.pc; line = line_of core; clock = clock; count = count; port = port }

-- Nothing but its registers, where it stands and the line of its latest fetch may be other than before.
abbrev pub IsOnItsWay : (before after : CoreState) → Type 0
IsOnItsWay before after =
    after ≡ record before { registers = after.registers; pc = after.pc; fetched_line = (if before.fetching then after.fetched_line else before.fetched_line) }
