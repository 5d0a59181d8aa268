-- Whole instructions of one core over flat memory, and what they make of each other (RISC-V Unprivileged ISA manual,
-- "Load and Store Instructions", "Load-Reserved/Store-Conditional Instructions").
use Rattle.std.specs.Prelude.{◌≡◌, ◌≢◌, ◌⊎◌, ℕ, zero, suc, ◌+◌, ◌-◌, ◌%◌, ◌<◌, ◌≤◌, ◌==◌, Bool, true, false, ◌&&◌, ◌||◌, if◌then◌else◌, IsTrue, List, [], ◌∷◌, length, slice_index, All, Option, Some, None}
use Rattle.zs_num.specs.Request.{line_at, line_of}
use Rattle.zs_num.specs.declared.request.Request.{Request}
use Rattle.zs_num.specs.declared.request.Request.TheVariants.{Fetch, Store}
use Rattle.rv_decode.specs.declared.inst.Inst.{Inst}
use Rattle.rv_decode.specs.declared.name.Name.{Name}
use Rattle.rv_decode.specs.declared.name.Name.TheVariants as name
use Rattle.elf_load.specs.MemoryImage.{MemoryImage}
use Rattle.flat_memory.specs.FlatMemory.{MemoryState, memory_after, memory_number, memory_reply}
use Rattle.flat_memory.specs.Laws.{does_write}
use Rattle.rv_core.specs.declared.program.Fetched.TheVariants.{Instruction}
use Rattle.rv_core.specs.Accesses.{is_in_memory, low_bytes, sign_extended_bytes}
use Rattle.rv_core.specs.CoreState.{CoreState}
use Rattle.rv_core.specs.Effect.{address, effect, goes_on, register}
use Rattle.rv_core.specs.Fetch.{fetched_at}
use Rattle.rv_core.specs.Sound.{IsSoundCore}
use Rattle.rv_core.specs.Step.{answered, asks_for_instruction, is_free, needs_fetch, unfetched}
use Rattle.rv_core.specs.Asked.{advanced}
use Rattle.reference.specs.TimedCore.{next_request}
use Rattle.reference.specs.IntervalBounds.{left_of_instruction}

-- ---- a whole instruction

-- a core, and the memory that serves its accesses
pub record CoreInMemory : Type 0 where
  pub core : CoreState
  pub memory : MemoryState

-- after an access of the core of this number: memory serves it, and the core takes the reply
abbrev pub after_request : (number : ℕ) → Option Request → CoreInMemory → CoreInMemory
after_request number None s = s
after_request number (Some request) s =
    record { core = answered (memory_reply s.memory number request) s.core; memory = memory_after s.memory number request }

-- after so many accesses, each the one that the core then asks for
abbrev pub after_requests : (count number : ℕ) → CoreInMemory → CoreInMemory
after_requests zero number s = s
after_requests (suc count) number s = after_requests count number (after_request number (next_request s.core.instruction) s)

-- after all accesses that are left of the instruction in progress
abbrev pub after_all_requests : (number : ℕ) → CoreInMemory → CoreInMemory
after_all_requests number s = after_requests (left_of_instruction s.core.instruction) number s

-- after a whole instruction of the core of this number: what it does up to its first access, and then its accesses
abbrev pub after_executing : (number : ℕ) → Inst → CoreInMemory → CoreInMemory
after_executing number inst s = after_all_requests number (record s { core = effect inst.name inst s.core })

-- the core comes to its next instruction, and this memory, whose bytes are bytes, is its own
pub record ComesToNext (s : CoreInMemory) : Type 0 where
  pub sound : IsSoundCore s.core
  pub free : IsTrue (is_free s.core)
  pub base : s.core.memory.base ≡ s.memory.base
  pub size : s.core.memory.size ≡ length s.memory.bytes
  pub bytes : All (λ byte. byte < 256) s.memory.bytes

-- after the fetch of the core's next instruction, where the core has to fetch it
abbrev pub after_fetching : (number : ℕ) → MemoryImage → CoreInMemory → CoreInMemory
after_fetching number image s =
    if needs_fetch image s.core then after_request number (Some (Fetch s.core.pc)) (record s { core = asks_for_instruction s.core }) else s

-- A whole instruction is the core's step at an address where the program has it, behind its fetch if it has to be
-- fetched, and then its accesses.
abbrev pub InstructionsAreSteps : Type 0
InstructionsAreSteps = (number : ℕ) (image : MemoryImage) (inst : Inst) (s : CoreInMemory)
    → IsTrue (is_free s.core) → fetched_at image s.core.pc ≡ Instruction inst
    → (let fetched = after_fetching number image s in
    after_executing number inst (record fetched { core = unfetched fetched.core })
    ≡ after_all_requests number (record fetched { core = advanced image fetched.core }))

-- ---- loads and stores

-- the stores, by the bytes that they store
pub data IsStore : Name → (width : ℕ) → Type 0 where
  sb : IsStore name.Sb 1
  sh : IsStore name.Sh 2
  sw : IsStore name.Sw 4
  sd : IsStore name.Sd 8

-- the loads, by the bytes that they load, and whether they sign-extend or zero-extend them
pub data IsLoad : Name → (width : ℕ) → (signed : Bool) → Type 0 where
  lb : IsLoad name.Lb 1 true
  lh : IsLoad name.Lh 2 true
  lw : IsLoad name.Lw 4 true
  ld : IsLoad name.Ld 8 true
  lbu : IsLoad name.Lbu 1 false
  lhu : IsLoad name.Lhu 2 false
  lwu : IsLoad name.Lwu 4 false

-- a number of so many bytes, sign-extended or zero-extended to 64 bits
abbrev pub extended : (width : ℕ) → (signed : Bool) → (number : ℕ) → ℕ
extended width signed number = if signed then sign_extended_bytes width number else number

-- the byte at an address
abbrev pub memory_byte : MemoryState → (addr : ℕ) → ℕ
memory_byte memory addr = slice_index memory.bytes (addr - memory.base)

-- so many bytes from an address on are in memory
abbrev pub AreThere : CoreInMemory → (addr width : ℕ) → Type 0
AreThere s addr width = IsTrue (is_in_memory s.core.memory addr width)

-- A load gives rd the number in its bytes, the lowest first, wherever they lie, and changes nothing else.
abbrev pub LoadsAreWhole : Type 0
LoadsAreWhole = (number : ℕ) (load : Inst) (width : ℕ) (signed : Bool) (s : CoreInMemory)
    → IsLoad load.name width signed → ComesToNext s → AreThere s (address load s.core) width
    → after_executing number load s
    ≡ record s { core = goes_on s.core load.rd (extended width signed (memory_number s.memory (address load s.core) width)) }

-- A store leaves the bytes that one access of all its bytes would, wherever they lie, and of the core changes pc alone.
abbrev pub StoresAreWhole : Type 0
StoresAreWhole = (number : ℕ) (store : Inst) (width : ℕ) (s : CoreInMemory)
    → IsStore store.name width → ComesToNext s → AreThere s (address store s.core) width
    → ((after_executing number store s).core ≡ goes_on s.core 0 0)
    × ((after_executing number store s).memory.bytes ≡ (memory_after s.memory number (Store width (address store s.core) (register s.core store.rs2))).bytes)

-- A load of the bytes that a store stored gives rd the lowest bytes of rs2, sign-extended or zero-extended.
abbrev pub StoredIsLoaded : Type 0
StoredIsLoaded = (number : ℕ) (store load : Inst) (width : ℕ) (signed : Bool) (s : CoreInMemory)
    → IsStore store.name width → IsLoad load.name width signed → load.rd ≢ 0 → load.rd < 32
    → address load s.core ≡ address store s.core → ComesToNext s → AreThere s (address store s.core) width
    → register (after_executing number load (after_executing number store s)).core load.rd
    ≡ extended width signed (low_bytes width (register s.core store.rs2))

-- A store changes no other byte of memory.
abbrev pub OtherBytesStay : Type 0
OtherBytesStay = (number : ℕ) (store : Inst) (width other : ℕ) (s : CoreInMemory)
    → IsStore store.name width → ComesToNext s → AreThere s (address store s.core) width
    → s.memory.base ≤ other → (other < address store s.core) ⊎ (address store s.core + width ≤ other)
    → memory_byte (after_executing number store s).memory other ≡ memory_byte s.memory other

-- ---- load-reserved and store-conditional

-- LR and SC, by the bytes that they load and store
pub data IsLoadReserved : Name → (width : ℕ) → Type 0 where
  lr_w : IsLoadReserved name.LrW 4
  lr_d : IsLoadReserved name.LrD 8

pub data IsStoreConditional : Name → (width : ℕ) → Type 0 where
  sc_w : IsStoreConditional name.ScW 4
  sc_d : IsStoreConditional name.ScD 8

-- the memory after accesses of cores, each with the core's number
abbrev pub memory_after_all : List (ℕ × Request) → MemoryState → MemoryState
memory_after_all [] memory = memory
memory_after_all (access ∷ accesses) memory = memory_after_all accesses (memory_after memory access.0 access.1)

-- whether one of them writes to a line
abbrev pub is_written : (line : ℕ) → List (ℕ × Request) → MemoryState → Bool
is_written line [] memory = false
is_written line (access ∷ accesses) memory =
    (does_write memory access.0 access.1 && (line == line_of access.1)) || is_written line accesses (memory_after memory access.0 access.1)

-- A load-reserved of a core, then accesses of other cores, and then a store-conditional of the core to the same bytes.
module _ (number : ℕ) (reserve : Inst) (others : List (ℕ × Request)) (store : Inst) (s : CoreInMemory) where
  -- after the load-reserved
  abbrev pub reserved : CoreInMemory
  reserved = after_executing number reserve s

  -- after the accesses of others
  abbrev pub between : CoreInMemory
  between = record reserved { memory = memory_after_all others reserved.memory }

  -- after the store-conditional
  abbrev pub after_pair : CoreInMemory
  after_pair = after_executing number store between

  pub record IsPair (width : ℕ) : Type 0 where
    pub reserves : IsLoadReserved reserve.name width
    pub stores : IsStoreConditional store.name width
    pub store_rd : store.rd < 32
    pub ready : ComesToNext s
    pub is_core : number < length s.memory.reservations
    pub there : AreThere s (register s.core reserve.rs1) width
    pub aligned : register s.core reserve.rs1 % width ≡ 0
    pub same_addr : register reserved.core store.rs1 ≡ register s.core reserve.rs1
    pub of_others : All (λ access. access.0 ≢ number) others

  -- whether one of the others writes to the line
  abbrev pub is_ended : Bool
  is_ended = is_written (line_at (register s.core reserve.rs1)) others reserved.memory

  -- Where none of the others writes to the line, rd gets 0, and the lowest bytes of rs2 are stored.
  abbrev pub PairStores : Type 0
  PairStores = (width : ℕ) → IsPair width → is_ended ≡ false
      → (register after_pair.core store.rd ≡ 0)
      × (after_pair.memory.bytes
      ≡ (memory_after between.memory number (Store width (register s.core reserve.rs1) (register reserved.core store.rs2))).bytes)

  -- Where one of them does, rd gets 1, and nothing is stored.
  abbrev pub WriteBetweenEndsPair : Type 0
  WriteBetweenEndsPair = (width : ℕ) → IsPair width → is_ended ≡ true → store.rd ≢ 0
      → (register after_pair.core store.rd ≡ 1) × (after_pair.memory.bytes ≡ between.memory.bytes)

-- So a pair with nothing at all between stores.
abbrev pub PairAloneStores : Type 0
PairAloneStores = (number : ℕ) (reserve store : Inst) (s : CoreInMemory) (width : ℕ) → IsPair number reserve [] store s width
    → register (after_executing number store (after_executing number reserve s)).core store.rd ≡ 0

-- And a pair with one store of another core to its line between does not.
abbrev pub StoreBetweenEndsPair : Type 0
StoreBetweenEndsPair = (number other addr size value : ℕ) (reserve store : Inst) (s : CoreInMemory) (width : ℕ)
    → IsPair number reserve ((other, Store size addr value) ∷ []) store s width → line_at addr ≡ line_at (register s.core reserve.rs1) → store.rd ≢ 0
    → register (after_pair number reserve ((other, Store size addr value) ∷ []) store s).core store.rd ≡ 1
