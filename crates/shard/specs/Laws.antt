-- Laws of the definitions.
use Rattle.std.specs.Prelude.{◌≡◌, ◌≢◌, ◌⊎◌, ℕ, ◌%◌, ◌^◌, ◌<◌, ◌≤◌, ◌==◌, ◌↔◌, Bool, true, false, List, [], ◌∷◌, ◌++◌, All, length, map, replicate, slice_set, Option, None, IfSome, IsSome, IsTrue}
use Rattle.zs_num.specs.PairedRight.{AreAllPairedRight, pairings_after_all}
use Rattle.zs_num.specs.Request.{is_fetch, line_of, line_at}
use Rattle.zs_num.specs.Servable.{IsServable}
use Rattle.zs_num.specs.declared.entry.Entry.{Entry}
use Rattle.zs_num.specs.declared.pairing.Pairing.{Pairing}
use Rattle.zs_num.specs.declared.request.Request.{Request}
use Rattle.zs_num.specs.declared.request.Request.TheVariants.{Load, Store, Lr, Sc, Amo, Fetch}
use Rattle.elf_load.specs.MemoryImage.{MemoryImage}
use Rattle.machine_desc.specs.Machine.{IsMachine}
use Rattle.machine_desc.specs.InstructionCaches.{has_l1i}
use Rattle.machine_desc.specs.declared.machine.Machine.{Machine}
use Rattle.flat_memory.specs.FlatMemory as flat
use Rattle.zs_num.specs.declared.entry.Outcome.TheVariants.{Hit}
use Rattle.cache_set.specs.declared.letter.Letter.TheVariants.{I}
use Rattle.shard.specs.Coherence.{Caches, caches_after, dirty_at, empty_caches, fetch_holds, is_alone, is_valid, l2_victim, letter_at, outcome_of}
use Rattle.shard.specs.Accesses.{caches_after_all, outcomes_of}
use Rattle.shard.specs.Allowed.{may_hit}
use Rattle.shard.specs.HaveL1i.{have_l1i}
use Rattle.shard.specs.Marks.{MarkedMemory, marked_after, marked_reply}
use Rattle.shard.specs.Served.{CanServe, KnowsCore, ShardState, met_by, shard_after, shard_reply}
use Rattle.shard.specs.StandsFor.{AreAnswered, AreCoherent, HaveRoomForLines, HaveSets, KeepsLine, StandFor, accesses_of, flat_for, new_memory, new_shards}
use Rattle.shard.specs.NewCaches.{new_caches}

-- ---- what an access leaves of a shard

abbrev pub NumberStays : Type 0
NumberStays = (shard : ShardState) (entry : Entry) → (shard_after shard entry).number ≡ shard.number

abbrev pub LastIsStamp : Type 0
LastIsStamp = (shard : ShardState) (entry : Entry) → (shard_after shard entry).last ≡ entry.stamp

-- what could be asked can be asked again
abbrev pub StillServes : Type 0
StillServes = (shard : ShardState) (entry : Entry) (request : Request) → CanServe shard request → CanServe (shard_after shard entry) request

abbrev pub CoresStay : Type 0
CoresStay = (shard : ShardState) (entry : Entry) (core : ℕ) → KnowsCore shard core → KnowsCore (shard_after shard entry) core

-- ---- the caches of a machine

-- A read or a write hits exactly where the core has the line with a letter that allows it, and a fetch exactly where the
-- core's L1I has the line.
abbrev pub HitsAreAllowed : Type 0
HitsAreAllowed = (c : Caches) (core : ℕ) (request : Request) → (outcome_of c core request ≡ Hit) ↔ IsTrue (may_hit c core request)

-- where the L2 has its line, a fetch changes no letter, and no other access changes an instruction cache
abbrev pub FetchesChangeNoLetter : Type 0
FetchesChangeNoLetter = (c : Caches) (core addr : ℕ) → IsSome (dirty_at c (line_at addr)) → (caches_after c core (Fetch addr)).l1 ≡ c.l1

abbrev pub OthersLeaveInstructionCaches : Type 0
OthersLeaveInstructionCaches = (c : Caches) (core : ℕ) (request : Request) → is_fetch request ≡ false → IsSome (dirty_at c (line_of request))
    → (caches_after c core request).l1i ≡ c.l1i

-- And else a fetch changes letters for the line alone that the L2 evicts, and any other access instruction caches for
-- that line alone.
abbrev pub FetchesTakeLettersOfOneLine : Type 0
FetchesTakeLettersOfOneLine = (c : Caches) (core addr other line : ℕ) → IfSome (l2_victim c (line_at addr)) (λ victim. line ≢ victim.0)
    → letter_at (caches_after c core (Fetch addr)) other line ≡ letter_at c other line

abbrev pub OthersTakeOneLine : Type 0
OthersTakeOneLine = (c : Caches) (core : ℕ) (request : Request) (other line : ℕ) → is_fetch request ≡ false → IfSome (l2_victim c (line_of request)) (λ victim. line ≢ victim.0)
    → fetch_holds (caches_after c core request) other line ≡ fetch_holds c other line

-- right after a core's fetch the line is in its instruction cache
abbrev pub FetchedLinesAreThere : Type 0
FetchedLinesAreThere = (c : Caches) (core addr : ℕ) → HaveRoomForLines c → core < length c.l1i → IsTrue (fetch_holds (caches_after c core (Fetch addr)) core (line_at addr))

-- whatever is accessed, from empty caches on, no set has a line twice or more lines than ways, each line stands in its
-- own set, and no L1 has a line with the letter I
abbrev pub SetsStaySound : Type 0
SetsStaySound = (cores shards l1_sets l1_ways fetchers l1i_sets l1i_ways l2_sets l2_ways : ℕ) (accesses : List (ℕ × Request))
    → HaveSets (caches_after_all (empty_caches cores shards l1_sets l1_ways fetchers l1i_sets l1i_ways l2_sets l2_ways) accesses)

-- Coherence is kept by every access of a core, where there is a set for each line with room for one. So is the room,
-- and so are the cores.
abbrev pub CoherentStays : Type 0
CoherentStays = (c : Caches) (core : ℕ) (request : Request) → AreCoherent c → HaveRoomForLines c → core < length c.l1
    → AreCoherent (caches_after c core request) × HaveRoomForLines (caches_after c core request)
    × (length (caches_after c core request).l1 ≡ length c.l1) × (length (caches_after c core request).l1i ≡ length c.l1i)

-- What accesses of cores make of empty caches that have a set for each line, with room for one. All cores have an
-- instruction cache, or none has.
abbrev pub AfterEmpty : (Caches → Type 0) → Type 0
AfterEmpty Holds = (cores shards l1_sets l1_ways fetchers l1i_sets l1i_ways l2_sets l2_ways : ℕ) (accesses : List (ℕ × Request))
    → 1 ≤ l1_sets → 1 ≤ l1_ways → 1 ≤ l2_sets → 1 ≤ l2_ways → (((fetchers ≡ cores) × (1 ≤ l1i_sets) × (1 ≤ l1i_ways)) ⊎ (fetchers ≡ 0))
    → All (λ access. access.0 < cores) accesses
    → Holds (caches_after_all (empty_caches cores shards l1_sets l1_ways fetchers l1i_sets l1i_ways l2_sets l2_ways) accesses)

-- where a core has a line in M or E, no other core has it
abbrev pub SingleWriter : Type 0
SingleWriter = AfterEmpty (λ c. (core other line : ℕ) → other ≢ core → IsTrue (is_alone (letter_at c core line)) → letter_at c other line ≡ I)

-- each line of an L1 stands in the L2, and so does each line of an instruction cache
abbrev pub Inclusion : Type 0
Inclusion = AfterEmpty (λ c. (core line : ℕ) → IsTrue (is_valid (letter_at c core line)) → IsSome (dirty_at c line))

abbrev pub InstructionsInclusion : Type 0
InstructionsInclusion = AfterEmpty (λ c. (core line : ℕ) → IsTrue (fetch_holds c core line) → IsSome (dirty_at c line))

-- ---- marks and reservations

-- the replies to a list of accesses of cores, and the memory after it, with marks and flat
abbrev pub marked_replies : MarkedMemory → List (ℕ × Request) → List ℕ
marked_replies memory [] = []
marked_replies memory (access ∷ accesses) =
    marked_reply memory access.0 access.1 ∷ marked_replies (marked_after memory access.0 access.1) accesses

abbrev pub marked_after_all : MarkedMemory → List (ℕ × Request) → MarkedMemory
marked_after_all memory [] = memory
marked_after_all memory (access ∷ accesses) = marked_after_all (marked_after memory access.0 access.1) accesses

abbrev pub flat_replies : flat.MemoryState → List (ℕ × Request) → List ℕ
flat_replies memory [] = []
flat_replies memory (access ∷ accesses) =
    flat.memory_reply memory access.0 access.1 ∷ flat_replies (flat.memory_after memory access.0 access.1) accesses

abbrev pub flat_after_all : flat.MemoryState → List (ℕ × Request) → flat.MemoryState
flat_after_all memory [] = memory
flat_after_all memory (access ∷ accesses) = flat_after_all (flat.memory_after memory access.0 access.1) accesses

-- Marks in each shard are as good as one reservation for each core: over every list of accesses that is paired right,
-- they give the replies and leave the memory that flat memory gives and leaves.
abbrev pub MarksAreReservations : Type 0
MarksAreReservations = (memory : MarkedMemory) (pairings : List (Option Pairing)) (accesses : List (ℕ × Request))
    → 0 < length memory.marks → All (λ marks. length marks ≡ length pairings) memory.marks → All (λ access. access.0 < length pairings) accesses
    → AreAllPairedRight pairings accesses
    → (marked_replies memory accesses ≡ flat_replies (flat_for memory pairings) accesses)
    × (flat_for (marked_after_all memory accesses) (pairings_after_all pairings accesses) ≡ flat_after_all (flat_for memory pairings) accesses)

-- ---- shards that stand for one machine

-- What a shard does with the entry of an access to a line of its own is what the memory and the caches do for which all
-- shards stand, and they stand for what these leave.
abbrev pub ShardsStandForAMachine : Type 0
ShardsStandForAMachine = (shards : List ShardState) (memory : MarkedMemory) (c : Caches) (s : ShardState) (entry : Entry)
    → StandFor shards memory c → KeepsLine shards (line_of entry.request) s → IsServable memory.base (length memory.bytes) (have_l1i c) entry.request → entry.core < length c.l1
    → (shard_reply s entry ≡ marked_reply memory entry.core entry.request)
    × (met_by s entry ≡ outcome_of c entry.core entry.request)
    × StandFor (slice_set shards s.number (shard_after s entry)) (marked_after memory entry.core entry.request) (caches_after c entry.core entry.request)

-- The new shards of a machine stand for memory as it was loaded and for empty caches, and so for flat memory as it was
-- loaded.
abbrev pub NewShardsStand : Type 0
NewShardsStand = (m : Machine) (image : MemoryImage) → IsMachine m
    → StandFor (new_shards m image) (new_memory m image) (new_caches m) × (flat_for (new_memory m image) (replicate m.cores None) ≡ flat.loaded image m.cores)

-- What shards answer to accesses that are paired right are the replies of one flat memory and the outcomes of the
-- caches of one machine, and the shards that are left stand for what these leave.
abbrev pub EntriesAreOfOneMachine : Type 0
EntriesAreOfOneMachine = (shards : List ShardState) (memory : MarkedMemory) (c : Caches) (pairings : List (Option Pairing)) (entries : List Entry) (left : List ShardState)
    → StandFor shards memory c → length pairings ≡ length c.l1 → All (λ entry. entry.core < length c.l1) entries → All (λ entry. IsServable memory.base (length memory.bytes) (have_l1i c) entry.request) entries
    → AreAllPairedRight pairings (accesses_of entries) → AreAnswered shards entries left
    → (map (λ entry. entry.reply) entries ≡ flat_replies (flat_for memory pairings) (accesses_of entries))
    × (map (λ entry. entry.outcome) entries ≡ outcomes_of c (accesses_of entries))
    × StandFor left (marked_after_all memory (accesses_of entries)) (caches_after_all c (accesses_of entries))
    × (flat_for (marked_after_all memory (accesses_of entries)) (pairings_after_all pairings (accesses_of entries)) ≡ flat_after_all (flat_for memory pairings) (accesses_of entries))

-- So it is from the new shards of a machine on, with memory as an executable was loaded and empty caches.
abbrev pub NewShardsAreOneMachine : Type 0
NewShardsAreOneMachine = (m : Machine) (image : MemoryImage) (entries : List Entry) (left : List ShardState) → IsMachine m
    → All (λ entry. entry.core < m.cores) entries → All (λ entry. IsServable image.base image.size (has_l1i m) entry.request) entries
    → AreAllPairedRight (replicate m.cores None) (accesses_of entries) → AreAnswered (new_shards m image) entries left
    → (map (λ entry. entry.reply) entries ≡ flat_replies (flat.loaded image m.cores) (accesses_of entries))
    × (map (λ entry. entry.outcome) entries ≡ outcomes_of (new_caches m) (accesses_of entries))

-- an access that is answered with this reply wrote to memory
abbrev pub has_written : Request → (reply : ℕ) → Bool
has_written (Load width addr) reply = false
has_written (Store width addr value) reply = true
has_written (Lr width addr) reply = false
has_written (Sc width paired addr value) reply = reply == 0
has_written (Amo width op addr value) reply = true
has_written (Fetch addr) reply = false

-- A load of what a store wrote gives the low bytes of the number, where no access between wrote to the line.
abbrev pub ReadAfterWrite : Type 0
ReadAfterWrite = (shards : List ShardState) (memory : MarkedMemory) (c : Caches) (store load : Entry) (between : List Entry) (left : List ShardState) (addr width value : ℕ)
    → let entries = store ∷ (between ++ (load ∷ [])) in StandFor shards memory c → AreAnswered shards entries left
    → All (λ entry. entry.core < length c.l1) entries → All (λ entry. IsServable memory.base (length memory.bytes) (have_l1i c) entry.request) entries
    → store.request ≡ Store width addr value → load.request ≡ Load width addr → All (λ entry. IsTrue (has_written entry.request entry.reply) → line_of entry.request ≢ line_at addr) between
    → load.reply ≡ value % 256 ^ width

-- Shards that stand for a machine answer whatever its cores ask of its memory.
abbrev pub ShardsAnswer : Type 0
ShardsAnswer = (shards : List ShardState) (memory : MarkedMemory) (c : Caches) (accesses : List (ℕ × Request)) → StandFor shards memory c → 0 < length shards
    → All (λ access. access.0 < length c.l1) accesses → All (λ access. IsServable memory.base (length memory.bytes) (have_l1i c) access.1) accesses
    → (entries : List Entry) × (left : List ShardState) × AreAnswered shards entries left × (accesses_of entries ≡ accesses)
