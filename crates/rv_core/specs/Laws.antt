-- Words of the laws over whole instructions and whole runs of a core.
use Rattle.std.specs.Prelude.{◌≡◌, ℕ, zero, suc, not, ◌&&◌, is_some, ◌+◌, ◌*◌, ◌/◌, ◌%◌, ◌^◌, ◌≤◌, List, [], ◌∷◌, take, drop, Bool, IsTrue, Some}
use Rattle.std.specs.List.{flat_map}
use Rattle.zs_num.specs.declared.request.Request.{Request}
use Rattle.zs_num.specs.declared.request.Request.TheVariants.{Load, Store, Lr, Sc, Amo, Fetch}
use Rattle.zs_num.specs.Request.{addr_of, line_at, width_of}
use Rattle.elf_load.specs.MemoryImage.{MemoryImage, fetched_word}
use Rattle.elf_load.specs.SoundImage.{IsSoundImage}
use Rattle.rv_core.specs.declared.memory_range.MemoryRange.{MemoryRange}
use Rattle.rv_core.specs.declared.progress.Reply.{Reply}
use Rattle.rv_core.specs.Accesses.{reply_to}
use Rattle.rv_core.specs.CoreState.{CoreState, InProgress}
use Rattle.rv_core.specs.Step.{answered, initial_core, is_latest, needs_fetch}
use Rattle.rv_core.specs.Asked.{advanced}

-- A core came to a state: from the start, by instructions of any program and by replies, whatever they are.
pub data IsReached : CoreState → Type 0 where
  starts : (number cores entry sp : ℕ) (memory : MemoryRange) (fetching : Bool) → memory.base + memory.size ≤ 2 ^ 48 → (IsTrue fetching → entry % 4 ≡ 0)
      → IsReached (initial_core number cores entry sp memory fetching)
  advances : (image : MemoryImage) (core : CoreState) → IsReached core → IsReached (advanced image core)
  is_answered : (reply : ℕ) (core : CoreState) → IsReached core → IsReached (answered reply core)

-- A core asks for these accesses, in order, and comes to a state.
pub data Asks : CoreState → List Request → CoreState → Type 0 where
  none : (core : CoreState) → Asks core [] core
  advancing : (image : MemoryImage) (core last : CoreState) (requests : List Request) → Asks (advanced image core) requests last → Asks core requests last
  answering : (reply : ℕ) (core last : CoreState) (now : InProgress) (requests : List Request) → core.instruction ≡ Some now
      → Asks (answered reply core) requests last → Asks core (now.next ∷ requests) last

-- the addresses of so many bytes, upwards
abbrev pub addresses : (addr count : ℕ) → List ℕ
addresses addr zero = []
addresses addr (suc count) = addr ∷ addresses (addr + 1) count

-- the addresses of the bytes of accesses, in order
abbrev pub addresses_of : List Request → List ℕ
addresses_of requests = flat_map (λ request. addresses (addr_of request) (width_of request)) requests

-- the lowest bytes of a number, the lowest first
abbrev pub bytes_of : (count number : ℕ) → List ℕ
bytes_of zero number = []
bytes_of (suc count) number = number % 256 ∷ bytes_of count (number / 256)

-- the bytes that stores write, in order of their addresses
abbrev pub bytes_stored : Request → List ℕ
bytes_stored (Store width addr value) = bytes_of width value
bytes_stored (Load width addr) = []
bytes_stored (Lr width addr) = []
bytes_stored (Sc width paired addr value) = []
bytes_stored (Amo width op addr value) = []
bytes_stored (Fetch addr) = []

-- the number that bytes make, the lowest first
abbrev pub number_of_bytes : List ℕ → ℕ
number_of_bytes [] = 0
number_of_bytes (byte ∷ bytes) = byte + 256 * number_of_bytes bytes

-- the replies to loads that find these bytes one after the other
abbrev pub replies_loaded : List Request → List ℕ → List Reply
replies_loaded [] bytes = []
replies_loaded (request ∷ requests) bytes = reply_to request (number_of_bytes (take (width_of request) bytes)) ∷ replies_loaded requests (drop (width_of request) bytes)

-- In an image of the core's memory, a core that fetches has to fetch an instruction exactly where its four bytes are in
-- one executable segment and their line is not that of the core's latest fetch: segments lie in memory.
abbrev pub FetchesWhereAWordIs : Type 0
FetchesWhereAWordIs = (image : MemoryImage) (core : CoreState) → IsSoundImage image → image.base ≡ core.memory.base → image.size ≡ core.memory.size
    → needs_fetch image core
    ≡ (core.fetching && not (is_latest core.fetched_line (line_at core.pc)) && is_some (fetched_word image.segments core.pc))
