-- What a slot does, and what the slots of a program are.
use Rattle.std.specs.Prelude.{◌≡◌, ◌≢◌, ℕ, ◌+◌, ◌-◌, ◌*◌, ◌/◌, ◌%◌, ◌^◌, ◌<◌, ◌≤◌, nat_le, nat_lt, ◌==◌, Bool, true, false, ◌&&◌, ◌||◌, if◌then◌else◌, List, length, slice_get, slice_index, Option, Some, None, is_some, ◌⊎◌, IfSome, IsTrue}
use Rattle.elf_load.specs.MemoryImage.{MemoryImage, fetched_word}
use Rattle.rv_decode.specs.declared.inst.Inst.{Inst}
use Rattle.rv_decode.specs.declared.name.Name.{Name}
use Rattle.rv_decode.specs.declared.name.Name.TheVariants as name
use Rattle.rv_alu.specs.Arithmetic.{result_of}
use Rattle.rv_alu.specs.Branch.{is_taken}
use Rattle.rv_alu.specs.Computing.{is_arithmetic, is_branch}
use Rattle.rv_core.specs.declared.memory_range.MemoryRange.{MemoryRange}
use Rattle.rv_core.specs.declared.progress.Destination.{Destination}
use Rattle.rv_core.specs.declared.single.Single.{Single}
use Rattle.rv_core.specs.Accesses.{load_requests, store_requests}
use Rattle.rv_core.specs.CoreState.{CoreState, ToNothing, ToRegister}
use Rattle.rv_core.specs.Effect.{accesses, effect, even, goes_on, register, with_register}
use Rattle.rv_core.specs.Single.{single_load, single_store}
use Rattle.rv_core.specs.Step.{executed}
use Rattle.rv_blocks.specs.declared.slot.Op.{Op}
use Rattle.rv_blocks.specs.declared.slot.Op.TheVariants as op
use Rattle.rv_blocks.specs.declared.slot.Slot.{Slot}
use Rattle.rv_core.specs.Executions.{at, LiesIn}

-- registers, and the place of the slot that comes next
pub record Placed : Type 0 where
  pub registers : List ℕ
  pub place : ℕ

-- where the slots of a program lie: the first stands for the instruction at this address, and there are so many
pub record Stretch : Type 0 where
  pub first : ℕ
  pub count : ℕ

-- the address of the instruction for which the slot at a place stands
abbrev pub address_of : Stretch → (place : ℕ) → ℕ
address_of stretch place = stretch.first + 4 * place

abbrev pub number_in : Placed → (register : ℕ) → ℕ
number_in s register = slice_index s.registers register

-- ---- names

-- The name of a frequent instruction, or the one that the slot has. The loop does no load and no store, whichever the slot
-- has.
abbrev pub named : Op → Name → Name
named op.Load other = name.Ld
named op.Store other = name.Sd
named op.Add other = name.Add
named op.Sub other = name.Sub
named op.And other = name.And
named op.Or other = name.Or
named op.Xor other = name.Xor
named op.Addi other = name.Addi
named op.Slli other = name.Slli
named op.Lui other = name.Lui
named op.Beq other = name.Beq
named op.Bne other = name.Bne
named op.Bltu other = name.Bltu
named op.Jal other = name.Jal
named op.Jalr other = name.Jalr
named op.Other other = other

abbrev pub name_of : Slot → Name
name_of slot = named slot.op slot.name

-- ---- what slots do

-- rd gets a number, and the next slot follows
abbrev pub sets : Slot → (value : ℕ) → Placed → Option Placed
sets slot value s = Some (record { registers = with_register s.registers slot.rd value; place = s.place + 1 })

abbrev pub computes : Name → Slot → Placed → Option Placed
computes n slot s = sets slot (result_of n (number_in s slot.rs1) (number_in s slot.rs2)) s

abbrev pub computes_with_value : Name → Slot → Placed → Option Placed
computes_with_value n slot s = sets slot (result_of n (number_in s slot.rs1) slot.value) s

-- the slot at `value` follows where the branch is taken
abbrev pub branches : Name → Slot → Placed → Option Placed
branches n slot s =
    Some (record s { place = (if is_taken n (number_in s slot.rs1) (number_in s slot.rs2) then slot.value else s.place + 1) })

-- rd gets the address of the next instruction, and the slot at a place follows
abbrev pub links : Stretch → Slot → (place : ℕ) → Placed → Option Placed
links stretch slot place s =
    Some (record { registers = with_register s.registers slot.rd (address_of stretch (s.place + 1)); place = place })

-- the place of the slot that stands for the instruction at an address, if there is one
abbrev pub place_within : Stretch → (target : ℕ) → Option ℕ
place_within stretch target =
    if nat_le stretch.first target && ((target - stretch.first) % 4 == 0) && nat_lt ((target - stretch.first) / 4) stretch.count
    then Some ((target - stretch.first) / 4) else None

-- a jump to an address, where a slot stands for the instruction there
abbrev pub links_to_place : Stretch → Slot → Option ℕ → Placed → Option Placed
links_to_place stretch slot None s = None
links_to_place stretch slot (Some place) s = links stretch slot place s

abbrev pub links_to : Stretch → Slot → (target : ℕ) → Placed → Option Placed
links_to stretch slot target s = links_to_place stretch slot (place_within stretch target) s

-- What a slot of this name does to registers at its place; None: it does nothing, and the core has to execute the
-- instruction.
unfoldable pub does : Name → Stretch → Slot → Placed → Option Placed
does name.Add stretch slot s = computes name.Add slot s
does name.Sub stretch slot s = computes name.Sub slot s
does name.Sll stretch slot s = computes name.Sll slot s
does name.Slt stretch slot s = computes name.Slt slot s
does name.Sltu stretch slot s = computes name.Sltu slot s
does name.Xor stretch slot s = computes name.Xor slot s
does name.Srl stretch slot s = computes name.Srl slot s
does name.Sra stretch slot s = computes name.Sra slot s
does name.Or stretch slot s = computes name.Or slot s
does name.And stretch slot s = computes name.And slot s
does name.Addw stretch slot s = computes name.Addw slot s
does name.Subw stretch slot s = computes name.Subw slot s
does name.Sllw stretch slot s = computes name.Sllw slot s
does name.Srlw stretch slot s = computes name.Srlw slot s
does name.Sraw stretch slot s = computes name.Sraw slot s
does name.Mul stretch slot s = computes name.Mul slot s
does name.Mulh stretch slot s = computes name.Mulh slot s
does name.Mulhsu stretch slot s = computes name.Mulhsu slot s
does name.Mulhu stretch slot s = computes name.Mulhu slot s
does name.Div stretch slot s = computes name.Div slot s
does name.Divu stretch slot s = computes name.Divu slot s
does name.Rem stretch slot s = computes name.Rem slot s
does name.Remu stretch slot s = computes name.Remu slot s
does name.Mulw stretch slot s = computes name.Mulw slot s
does name.Divw stretch slot s = computes name.Divw slot s
does name.Divuw stretch slot s = computes name.Divuw slot s
does name.Remw stretch slot s = computes name.Remw slot s
does name.Remuw stretch slot s = computes name.Remuw slot s
does name.Addi stretch slot s = computes_with_value name.Addi slot s
does name.Slti stretch slot s = computes_with_value name.Slti slot s
does name.Sltiu stretch slot s = computes_with_value name.Sltiu slot s
does name.Xori stretch slot s = computes_with_value name.Xori slot s
does name.Ori stretch slot s = computes_with_value name.Ori slot s
does name.Andi stretch slot s = computes_with_value name.Andi slot s
does name.Slli stretch slot s = computes_with_value name.Slli slot s
does name.Srli stretch slot s = computes_with_value name.Srli slot s
does name.Srai stretch slot s = computes_with_value name.Srai slot s
does name.Addiw stretch slot s = computes_with_value name.Addiw slot s
does name.Slliw stretch slot s = computes_with_value name.Slliw slot s
does name.Srliw stretch slot s = computes_with_value name.Srliw slot s
does name.Sraiw stretch slot s = computes_with_value name.Sraiw slot s
does name.Lui stretch slot s = sets slot slot.value s
does name.Fence stretch slot s = Some (record s { place = s.place + 1 })
does name.Jal stretch slot s = links stretch slot slot.value s
does name.Jalr stretch slot s = links_to stretch slot (even ((number_in s slot.rs1 + slot.value) % 2 ^ 64)) s
does name.Beq stretch slot s = branches name.Beq slot s
does name.Bne stretch slot s = branches name.Bne slot s
does name.Blt stretch slot s = branches name.Blt slot s
does name.Bge stretch slot s = branches name.Bge slot s
does name.Bltu stretch slot s = branches name.Bltu slot s
does name.Bgeu stretch slot s = branches name.Bgeu slot s
does _ stretch slot s = None

-- ---- loads and stores

abbrev pub is_load : Name → Bool
is_load name.Lb = true
is_load name.Lh = true
is_load name.Lw = true
is_load name.Ld = true
is_load name.Lbu = true
is_load name.Lhu = true
is_load name.Lwu = true
is_load _ = false

abbrev pub is_store : Name → Bool
is_store name.Sb = true
is_store name.Sh = true
is_store name.Sw = true
is_store name.Sd = true
is_store _ = false

-- how many bytes one has
abbrev pub width_of : Name → ℕ
width_of name.Lb = 1
width_of name.Lbu = 1
width_of name.Sb = 1
width_of name.Lh = 2
width_of name.Lhu = 2
width_of name.Sh = 2
width_of name.Lw = 4
width_of name.Lwu = 4
width_of name.Sw = 4
width_of _ = 8

-- whether the number that a load gives is sign-extended
abbrev pub is_signed : Name → Bool
is_signed name.Lb = true
is_signed name.Lh = true
is_signed name.Lw = true
is_signed name.Ld = true
is_signed _ = false

-- the address of its first byte
abbrev pub address_by : Slot → (registers : List ℕ) → ℕ
address_by slot registers = (slice_index registers slot.rs1 + slot.value) % 2 ^ 64

abbrev pub destination_by : Slot → Destination
destination_by slot = record { rd = slot.rd; width = width_of slot.name; signed = is_signed slot.name }

abbrev pub loads_by : Slot → CoreState → CoreState
loads_by slot core =
    accesses (address_by slot core.registers) (width_of slot.name) (load_requests (address_by slot core.registers) (width_of slot.name)) (ToRegister (destination_by slot)) core

abbrev pub stores_by : Slot → CoreState → CoreState
stores_by slot core =
    accesses (address_by slot core.registers) (width_of slot.name)
    (store_requests (address_by slot core.registers) (width_of slot.name) (register core slot.rs2)) ToNothing core

-- what a core comes to by a slot of this kind, where it is a load or a store
abbrev pub IsAccess : Op → (after loaded stored : CoreState) → Type 0
IsAccess op.Load after loaded stored = after ≡ loaded
IsAccess op.Store after loaded stored = after ≡ stored
IsAccess _ after loaded stored = Unit {0}

abbrev pub is_access : Op → Bool
is_access op.Load = true
is_access op.Store = true
is_access _ = false

-- the one access of a slot of this kind, where it is a load or a store
abbrev pub met_as : Op → (load store : Option Single) → Option Single
met_as op.Load load store = load
met_as op.Store load store = store
met_as _ load store = None

-- the one access of a slot, where its bytes are in memory and in one line
abbrev pub met_by : Slot → MemoryRange → (registers : List ℕ) → Option Single
met_by slot memory registers =
    met_as slot.op (single_load memory (address_by slot registers) (destination_by slot))
    (single_store memory (address_by slot registers) (width_of slot.name) (slice_index registers slot.rs2))

-- ---- blocks

-- the cost of a slot, if there is one
abbrev pub left_of : Option Slot → ℕ
left_of None = 0
left_of (Some slot) = slot.left

-- that of the slot at a place
abbrev pub left_at : List Slot → (place : ℕ) → ℕ
left_at slots place = left_of (slice_get slots place)

-- the slot writes rd whatever comes
abbrev pub is_setting : Name → Bool
is_setting name.Lui = true
is_setting n = is_arithmetic n

-- the next slot follows, in the same block
abbrev pub is_plain : Name → Bool
is_plain name.Fence = true
is_plain n = is_setting n

-- the next slot may follow
abbrev pub may_fall : Name → Bool
may_fall n = is_plain n || is_branch n

-- `value` is a place
abbrev pub has_place : Name → Bool
has_place name.Jal = true
has_place n = is_branch n

-- ---- what each slot keeps

-- Registers are there, and one that is written whatever comes is not x0. A slot that leads to another has it, and a load
-- or a store has one behind it.
pub record IsFit (count place : ℕ) (slot : Slot) : Type 0 where
  pub rd : slot.rd < 32
  pub rs1 : slot.rs1 < 32
  pub rs2 : slot.rs2 < 32
  pub writes : IsTrue (is_setting (name_of slot)) → slot.rd ≢ 0
  pub leads : IsTrue (has_place (name_of slot)) → slot.value < count
  pub falls : IsTrue (may_fall (name_of slot)) → place + 1 < count
  pub accessed : IsTrue (is_access slot.op) → place + 1 < count

-- What the slot at a place does is what the instruction at its address does to a core.
abbrev pub StandsFor : MemoryImage → Stretch → (place : ℕ) → Slot → Type 0
StandsFor image stretch place slot = (core : CoreState) (registers : List ℕ)
    → IfSome (does (name_of slot) stretch slot (record { registers = registers; place = place })) (λ next.
    executed image (at core registers (address_of stretch place)) ≡ at core next.registers (address_of stretch next.place))

-- What it does is what an instruction does at its address.
abbrev pub DoesAs : Inst → Stretch → (place : ℕ) → Slot → Type 0
DoesAs i stretch place slot = (core : CoreState) (registers : List ℕ)
    → IfSome (does (name_of slot) stretch slot (record { registers = registers; place = place })) (λ next.
    effect i.name i (at core registers (address_of stretch place)) ≡ at core next.registers (address_of stretch next.place))

-- The load or the store of the slot at a place is the one of the instruction at its address.
abbrev pub AccessesFor : MemoryImage → Stretch → (place : ℕ) → Slot → Type 0
AccessesFor image stretch place slot = (core : CoreState) (registers : List ℕ)
    → IsAccess slot.op (executed image (at core registers (address_of stretch place)))
    (loads_by slot (at core registers (address_of stretch place))) (stores_by slot (at core registers (address_of stretch place)))

-- It is the one of an instruction at its address.
abbrev pub AccessesAs : Inst → Stretch → (place : ℕ) → Slot → Type 0
AccessesAs i stretch place slot = (core : CoreState) (registers : List ℕ)
    → IsAccess slot.op (effect i.name i (at core registers (address_of stretch place)))
    (loads_by slot (at core registers (address_of stretch place))) (stores_by slot (at core registers (address_of stretch place)))

-- Whatever the registers are, an instruction gives rd this number, and the core goes on at the next one.
abbrev pub GivesNumber : Inst → (value : ℕ) → Stretch → (place : ℕ) → Type 0
GivesNumber i value stretch place = (core : CoreState) (registers : List ℕ)
    → effect i.name i (at core registers (address_of stretch place)) ≡ goes_on (at core registers (address_of stretch place)) i.rd value

-- Whatever the registers are, an instruction changes none, and the core goes on at the next one.
abbrev pub ChangesNothing : Inst → Stretch → (place : ℕ) → Type 0
ChangesNothing i stretch place = (core : CoreState) (registers : List ℕ)
    → effect i.name i (at core registers (address_of stretch place)) ≡ at core registers (address_of stretch (place + 1))

-- Each slot at a place.
abbrev pub Each : List Slot → (ℕ → Slot → Type 0) → Type 0
Each slots P = (place : ℕ) (slot : Slot) → slice_get slots place ≡ Some slot → P place slot

-- The cost of a slot, `left`, is how many instructions there are from it to its block's end, both counted: one where the
-- block ends, and else one more than from the next slot on.
abbrev pub IsCounted : List Slot → (place : ℕ) → Slot → Type 0
IsCounted slots place slot = slot.left ≡ (if is_plain (name_of slot) then 1 + left_at slots (place + 1) else 1)

-- the name of the slots that are left to the core, whatever stands there
abbrev pub is_ebreak : Name → Bool
is_ebreak name.Ebreak = true
is_ebreak _ = false

-- An instruction stands at the address of any other slot.
abbrev pub IsFound : MemoryImage → Stretch → (place : ℕ) → Slot → Type 0
IsFound image stretch place slot = is_ebreak slot.name ≡ false → IsTrue (is_some (fetched_word image.segments (address_of stretch place)))

-- what a slot at a place keeps but for its cost
abbrev pub IsMeant : MemoryImage → Stretch → (place : ℕ) → Slot → Type 0
IsMeant image stretch place slot =
    IsFit stretch.count place slot × StandsFor image stretch place slot × AccessesFor image stretch place slot × IsFound image stretch place slot

abbrev pub AreMeantSoFar : MemoryImage → Stretch → List Slot → Type 0
AreMeantSoFar image stretch slots = Each slots (IsMeant image stretch)

abbrev pub AreMeant : MemoryImage → (first : ℕ) → List Slot → Type 0
AreMeant image first slots = AreMeantSoFar image (record { first = first; count = length slots }) slots

-- each slot from a place on has the cost that it should
abbrev pub AreCountedFrom : (place : ℕ) → List Slot → Type 0
AreCountedFrom from slots = (place : ℕ) (slot : Slot) → from ≤ place → slice_get slots place ≡ Some slot → IsCounted slots place slot

pub record AreSlots (image : MemoryImage) (first : ℕ) (slots : List Slot) : Type 0 where
  pub some : 0 < length slots
  pub memory : first + 4 * length slots ≤ 2 ^ 48
  pub fit : Each slots (IsFit (length slots))
  pub stand : Each slots (StandsFor image (record { first = first; count = length slots }))
  pub access : Each slots (AccessesFor image (record { first = first; count = length slots }))
  pub found : Each slots (IsFound image (record { first = first; count = length slots }))
  pub counted : Each slots (IsCounted slots)

-- The slot that comes next does nothing: its instruction is left to the core.
abbrev pub IsApart : (first : ℕ) → List Slot → Placed → Type 0
IsApart first slots s =
    IfSome (slice_get slots s.place) (λ slot. does (name_of slot) (record { first = first; count = length slots }) slot s ≡ None)

-- a line is given, and the address lies in another
abbrev pub LiesOut : Option ℕ → (pc : ℕ) → Type 0
LiesOut line pc = LiesIn line pc → ⊥

-- Why a loop ends where so much of its budget is left: what comes next costs more, or it is left to the core.
abbrev pub Ends : (first : ℕ) → List Slot → (cost left : ℕ) → Placed → Type 0
Ends first slots cost left s = (left < cost) ⊎ ((0 < left) × IsApart first slots s)
