-- What leaves caches for an access is the same for shards and for the machine for which they stand; and what an access
-- leaves of the copies in the cores' own caches.
use Rattle.std.specs.Prelude.{◌≡◌, ℕ, ◌<◌, ◌==◌, ◌&&◌, Bool, true, false, not, if◌then◌else◌, IsTrue, List, length, is_some}
use Rattle.zs_num.specs.Request.{is_fetch, line_of}
use Rattle.zs_num.specs.declared.request.Request.{Request}
use Rattle.shard.specs.declared.leaving.Leaving.{Leaving}
use Rattle.shard.specs.Coherence.{Caches, caches_after, dirty_at, fetch_holds, is_valid, is_write, letter_at}
use Rattle.shard.specs.Leaving.{is_this, leaving_of}
use Rattle.shard.specs.Marks.{MarkedMemory}
use Rattle.shard.specs.Served.{ShardState, shard_for}
use Rattle.shard.specs.StandsFor.{AreCoherent, HaveRoomForLines, StandFor}

-- Where shards stand for a machine, what leaves the caches of the shard that serves an access leaves those of the
-- machine.
abbrev pub LeavingIsTheMachines : Type 0
LeavingIsTheMachines = (shards : List ShardState) (memory : MarkedMemory) (c : Caches) (core : ℕ) (request : Request)
    → StandFor shards memory c → 0 < length shards
    → leaving_of (shard_for shards request).caches core request ≡ leaving_of c core request

-- ---- copies

-- Whether core k's L1 has a line behind an access of a core, where it had it before or not. The core has the line that
-- it reads or writes. The lines that leave to make room are gone, that of the L2 from all cores, and the other cores do
-- not have a line that this one writes. All other lines are where they were.
abbrev pub copy_behind : (was : Bool) → Leaving → (core : ℕ) → Request → (k line : ℕ) → Bool
copy_behind was leaving core request k line =
    if not (is_fetch request) && k == core && line == line_of request then true
    else if is_this leaving.shared line then false
    else if not (is_fetch request) && k == core && is_this leaving.own line then false
    else if not (k == core) && line == line_of request && is_write request then false
    else was

-- the same of core k's L1I, which keeps its lines whatever is written
abbrev pub instructions_behind : (was : Bool) → Leaving → (core : ℕ) → Request → (k line : ℕ) → Bool
instructions_behind was leaving core request k line =
    if is_fetch request && k == core && line == line_of request then true
    else if is_this leaving.shared line then false
    else if is_fetch request && k == core && is_this leaving.own line then false
    else was

abbrev pub CopiesBehind : Type 0
CopiesBehind = (c : Caches) (core : ℕ) (request : Request) → AreCoherent c → HaveRoomForLines c → core < length c.l1 → (k line : ℕ)
    → is_valid (letter_at (caches_after c core request) k line)
    ≡ copy_behind (is_valid (letter_at c k line)) (leaving_of c core request) core request k line

-- where a core that fetches has an instruction cache
abbrev pub InstructionsBehind : Type 0
InstructionsBehind = (c : Caches) (core : ℕ) (request : Request) → AreCoherent c → HaveRoomForLines c → core < length c.l1
    → (IsTrue (is_fetch request) → core < length c.l1i) → (k line : ℕ)
    → fetch_holds (caches_after c core request) k line
    ≡ instructions_behind (fetch_holds c k line) (leaving_of c core request) core request k line

-- Whether the L2 has a line behind an access. It has the line that was accessed.
abbrev pub l2_behind : (was : Bool) → Leaving → Request → (line : ℕ) → Bool
l2_behind was leaving request line =
    if line == line_of request then true
    else if is_this leaving.shared line then false
    else was

abbrev pub LinesBehind : Type 0
LinesBehind = (c : Caches) (core : ℕ) (request : Request) → AreCoherent c → HaveRoomForLines c → core < length c.l1 → (line : ℕ)
    → is_some (dirty_at (caches_after c core request) line)
    ≡ l2_behind (is_some (dirty_at c line)) (leaving_of c core request) request line
