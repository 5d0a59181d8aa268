-- Every core that is reached is sound.
use Rattle.std.proofs.Common.{◌≡◌, ◌≢◌, ◌<◌, ◌≤◌, ◌+◌, ◌-◌, ◌%◌, ◌^◌, ◌==◌, ℕ, zero, suc, Bool, true, false, nat_le, ◌&&◌, List, [], ◌∷◌, length, Option, None, inl, inr, arith, rules, lit≤, refl, ap, sym, subst, true≢false, ◌∙◌, ◌⊎◌, min}
use Rattle.std.specs.Prelude.{slice_index, if◌then◌else◌, ◌||◌, IsSome, IsTrue, is_some}
use Rattle.std.proofs.Math.Nat.{min-le_right}
use Rattle.std.proofs.lemmas.Bool.{and_parts, eqb-true, leb-false, leb-true}
use Rattle.std.proofs.lemmas.List.{get_or-set_other, length-set}
use Rattle.zs_num.specs.Request.{addr_of, width_of}
use Rattle.zs_num.specs.Servable.{IsAligned, IsNaturallyAligned, MayFetch}
use Rattle.zs_num.specs.declared.request.Request.{Request}
use Rattle.zs_num.specs.declared.request.Request.TheVariants.{Load, Store, Lr, Sc, Amo, Fetch}
use Rattle.rv_decode.specs.declared.inst.Inst.{Inst}
use Rattle.rv_decode.specs.declared.name.Name.{Name}
use Rattle.rv_decode.specs.declared.name.Name.TheVariants as name
use Rattle.rv_core.specs.declared.memory_range.MemoryRange.{MemoryRange}
use Rattle.zs_num.specs.declared.pairing.Pairing.{Pairing}
use Rattle.rv_core.specs.declared.progress.Destination.{Destination}
use Rattle.rv_core.specs.declared.progress.Reply.{Reply}
use Rattle.rv_core.specs.declared.why.Why.{Why}
use Rattle.rv_core.specs.declared.why.Why.TheVariants.{Exit}
use Rattle.rv_core.specs.Accesses.{byte_loads, is_in_line, is_in_memory, load_requests, store_requests}
use Rattle.rv_core.specs.Sound.{AreServableIn, EndsInRegister, FetchesAlone, IsSoundCore}
use Rattle.rv_core.specs.CoreState.{CoreState, Ending, ToRegister, ToConsole, ToExecution, ToNothing}
use Rattle.rv_core.specs.Effect.{accesses, address, atomic, branches, calls, effect, ended, following, goes_on, goes_through, goes_to, halts, has_fetched, jumps, loads, register, relative, stores, with_register, writes}
use Rattle.zs_num.specs.PairedRight.{ArePairedRight, IsPairedRight}
use Rattle.rv_core.specs.Step.{asks_for_instruction}
use Rattle.rv_core.proofs.ByteLoads.{load_served, loads_length, loads_paired, loads_served}

-- a core stays sound, and keeps its memory, its pairing, and whether it fetches
pub record Keeps (before after : CoreState) : Type 0 where
  pub sound : IsSoundCore after
  pub memory : after.memory ≡ before.memory
  pub pairing : after.pairing ≡ before.pairing
  pub fetching : after.fetching ≡ before.fetching

-- a sound core that has not halted, and of which no instruction is in progress
pub record IsReady (core : CoreState) : Type 0 where
  pub sound : IsSoundCore core
  pub halted : core.halted ≡ None
  pub instruction : core.instruction ≡ None
  pub fetched : core.is_fetched ≡ false

-- none was fetched, and so nothing is to be said of one that was
pub unfetched-whatever : (P : Type 0) (fetched : Bool) → fetched ≡ false → IsTrue fetched → P
unfetched-whatever P fetched e is = absurd (true≢false (sym is ∙ e))

-- no reply is waited for
waits-not : {A : Type 0} (P : Type 0) (o : Option A) → o ≡ None → IsSome o → P
waits-not P o e is = absurd (true≢false (sym is ∙ ap is_some e))

written-length : (registers : List ℕ) (n value : ℕ) → length (with_register registers n value) ≡ length registers
written-length registers zero value = refl
written-length registers (suc n) value =
    let other : (suc n == 0) ≡ false = search rules in rw other (length-set registers (suc n) value)

written-zero : (registers : List ℕ) (n value : ℕ) → slice_index registers 0 ≡ 0 → slice_index (with_register registers n value) 0 ≡ 0
written-zero registers zero value here = here
written-zero registers (suc n) value here =
    let other : (suc n == 0) ≡ false = search rules in
    let apart : 0 ≢ suc n = omega arith in
    rw other (get_or-set_other registers (suc n) 0 value 0 apart ∙ here)

pub goes_to-keeps : (core : CoreState) (rd value target : ℕ) → (IsTrue core.fetching → target % 4 ≡ 0) → IsReady core → Keeps core (goes_to core rd value target)
unfolding goes_to
goes_to-keeps core rd value target aligned r = let s = r.sound in record {
  sound = record {
    registers = written-length core.registers rd value ∙ s.registers;
    zero = written-zero core.registers rd value s.zero;
    reach = s.reach;
    served = s.served;
    paired = s.paired;
    ending = s.ending;
    few = s.few;
    alone = s.alone;
    waits = s.waits;
    aligned = aligned;
    fetched = s.fetched;
    line = unfetched-whatever _ core.is_fetched r.fetched;
  };
  memory = refl;
  pairing = refl;
  fetching = refl;
}

following-aligned : (pc : ℕ) → pc % 4 ≡ 0 → (pc + 4) % 2 ^ 64 % 4 ≡ 0
following-aligned pc aligned = omega (arith, aligned)

pub goes_on-keeps : (core : CoreState) (rd value : ℕ) → IsReady core → Keeps core (goes_on core rd value)
goes_on-keeps core rd value r =
    goes_to-keeps core rd value (following core) (λ fetching. following-aligned core.pc (r.sound.aligned fetching)) r

pub halts-keeps : (why : Why) (core : CoreState) → IsReady core → Keeps core (halts why core)
halts-keeps why core r = let s = r.sound in record {
  sound = record {
    registers = s.registers;
    zero = s.zero;
    reach = s.reach;
    served = s.served;
    paired = s.paired;
    ending = s.ending;
    few = s.few;
    alone = s.alone;
    waits = waits-not _ core.instruction r.instruction;
    aligned = s.aligned;
    fetched = unfetched-whatever _ core.is_fetched r.fetched;
    line = s.line;
  };
  memory = refl;
  pairing = refl;
  fetching = refl;
}

-- either of two
pub cond-keeps : (core one other : CoreState) (test : Bool) → (test ≡ true → Keeps core one) → Keeps core other → Keeps core (if test then one else other)
cond-keeps core one other true holds fails = holds refl
cond-keeps core one other false holds fails = fails

jumps-keeps : (rd target : ℕ) (core : CoreState) → IsReady core → Keeps core (jumps rd target core)
unfolding jumps
jumps-keeps rd target core s =
    cond-keeps core _ _ (target % 4 == 0) (λ aligned. goes_to-keeps core rd (following core) target (λ fetching. eqb-true _ _ aligned) s) (halts-keeps _ core s)

branches-keeps : (n : Name) (i : Inst) (core : CoreState) → IsReady core → Keeps core (branches n i core)
unfolding branches
branches-keeps n i core s = cond-keeps core _ _ _ (λ taken. jumps-keeps 0 (relative i core) core s) (goes_on-keeps core 0 0 s)

-- the core has fetched the instruction at pc
has_fetched-keeps : (core : CoreState) → IsTrue core.fetching → IsReady core → Keeps core (has_fetched core)
has_fetched-keeps core fetching r = let s = r.sound in record {
  sound = record {
    registers = s.registers;
    zero = s.zero;
    reach = s.reach;
    served = s.served;
    paired = s.paired;
    ending = s.ending;
    few = s.few;
    alone = s.alone;
    waits = s.waits;
    aligned = s.aligned;
    fetched = λ is. (fetching, r.instruction, r.halted);
    line = λ is. refl;
  };
  memory = refl;
  pairing = refl;
  fetching = refl;
}

ended-keeps : (ending : Ending) (replies : List Reply) (core : CoreState) → FetchesAlone core.fetching ending [] → IsReady core → Keeps core (ended ending replies core)
unfolding ended
ended-keeps (ToRegister destination) replies core alone r = goes_on-keeps core destination.rd _ r
ended-keeps (ToConsole count) replies core alone r = goes_on-keeps core 10 count r
ended-keeps ToExecution replies core alone r = has_fetched-keeps core alone.0 r
ended-keeps ToNothing replies core alone r = goes_on-keeps core 0 0 r

-- the core waits for a reply
waiting-keeps : (request : Request) (later : List Request) (replies : List Reply) (ending : Ending) (core : CoreState) → IsReady core
    → AreServableIn core.memory core.fetching (request ∷ later) → ArePairedRight core.pairing (request ∷ later) → EndsInRegister ending → length later < 256
    → FetchesAlone core.fetching ending later → Keeps core (goes_through (request ∷ later) replies ending core)
waiting-keeps request later replies ending core r served paired ends few alone = let s = r.sound in record {
  sound = record {
    registers = s.registers;
    zero = s.zero;
    reach = s.reach;
    served = served;
    paired = paired;
    ending = ends;
    few = few;
    alone = alone;
    waits = λ is. r.halted;
    aligned = s.aligned;
    fetched = unfetched-whatever _ core.is_fetched r.fetched;
    line = s.line;
  };
  memory = refl;
  pairing = refl;
  fetching = refl;
}

-- what it means that bytes are in memory
record Inside (memory : MemoryRange) (addr width : ℕ) : Type 0 where
  begins : memory.base ≤ addr
  ends : addr + width ≤ memory.base + memory.size

inside_of : (memory : MemoryRange) (addr width : ℕ) → is_in_memory memory addr width ≡ true → Inside memory addr width
inside_of memory addr width e =
    let both = and_parts (nat_le memory.base addr) (nat_le (addr + width) (memory.base + memory.size)) e in
    record { begins = leb-true _ _ both.0; ends = leb-true _ _ both.1 }

-- the core asks for the instruction at pc
pub asks_for_instruction-keeps : (core : CoreState) → IsReady core → IsTrue core.fetching → is_in_memory core.memory core.pc 4 ≡ true → Keeps core (asks_for_instruction core)
asks_for_instruction-keeps core r fetching e =
    let inside = inside_of core.memory core.pc 4 e in
    let aligned : core.pc % 4 ≡ 0 = r.sound.aligned fetching in
    waiting-keeps (Fetch core.pc) [] [] ToExecution core r
    (record { some = lit≤ tt; few = lit≤ tt; begins = inside.begins; ends = inside.ends; in_line = omega (arith, aligned); aligned = aligned; fetched = fetching }, tt)
    (tt, tt) tt (lit≤ tt) (fetching, refl)

-- behind a fetch comes no access
alone-tail : (fetching : Bool) (ending : Ending) (request : Request) (requests : List Request) → FetchesAlone fetching ending (request ∷ requests) → FetchesAlone fetching ending requests
alone-tail fetching (ToRegister destination) request requests alone = tt
alone-tail fetching (ToConsole count) request requests alone = tt
alone-tail fetching ToExecution request requests alone = cc
alone-tail fetching ToNothing request requests alone = tt

pub goes_through-keeps : (requests : List Request) (replies : List Reply) (ending : Ending) (core : CoreState) → IsReady core
    → AreServableIn core.memory core.fetching requests → ArePairedRight core.pairing requests → EndsInRegister ending → length requests ≤ 256
    → FetchesAlone core.fetching ending requests → Keeps core (goes_through requests replies ending core)
goes_through-keeps [] replies ending core r served paired ends few alone = ended-keeps ending replies core alone r
goes_through-keeps (request ∷ requests) replies ending core r served paired ends few alone =
    waiting-keeps request requests replies ending core r served paired ends few (alone-tail core.fetching ending request requests alone)

accesses-keeps : (addr width : ℕ) (requests : List Request) (ending : Ending) (core : CoreState) → IsReady core
    → (is_in_memory core.memory addr width ≡ true → AreServableIn core.memory core.fetching requests) → ArePairedRight core.pairing requests → EndsInRegister ending → length requests ≤ 256
    → FetchesAlone core.fetching ending requests → Keeps core (accesses addr width requests ending core)
unfolding accesses
accesses-keeps addr width requests ending core s served paired ends few alone =
    cond-keeps core _ _ (is_in_memory core.memory addr width) (λ inside. goes_through-keeps requests [] ending core s (served inside) paired ends few alone) (halts-keeps _ core s)

-- the core is in a write call, of which the byte at an address comes next and so many later
pub writing-keeps : (addr later count : ℕ) (core : CoreState) → IsReady core → core.memory.base ≤ addr → addr + 1 + later ≤ core.memory.base + core.memory.size → later < 256
    → Keeps core (goes_through (Load 1 addr ∷ byte_loads (addr + 1) later) [] (ToConsole count) core)
writing-keeps addr later count core r begins ends few =
    waiting-keeps (Load 1 addr) (byte_loads (addr + 1) later) [] (ToConsole count) core r
    (load_served core.memory core.fetching addr begins (omega arith), loads_served core.memory core.fetching (addr + 1) later (omega arith) (omega arith))
    (tt, loads_paired core.pairing (addr + 1) later) tt (rw (loads_length (addr + 1) later) few) tt

-- either of two lists
served-cond : (memory : MemoryRange) (fetching test : Bool) (ones others : List Request) → (test ≡ true → AreServableIn memory fetching ones) → (test ≡ false → AreServableIn memory fetching others)
    → AreServableIn memory fetching (if test then ones else others)
served-cond memory fetching true ones others holds fails = holds refl
served-cond memory fetching false ones others holds fails = fails refl

paired-cond : (pairing : Option Pairing) (test : Bool) (ones others : List Request) → ArePairedRight pairing ones → ArePairedRight pairing others → ArePairedRight pairing (if test then ones else others)
paired-cond pairing true ones others holds fails = holds
paired-cond pairing false ones others holds fails = fails

loads-served : (memory : MemoryRange) (fetching : Bool) (addr width : ℕ) → 1 ≤ width → width ≤ 8 → Inside memory addr width → AreServableIn memory fetching (load_requests addr width)
unfolding load_requests
loads-served memory fetching addr width some few inside =
    served-cond memory fetching (is_in_line addr width) _ _
    (λ e. let fits : addr % 64 + width ≤ 64 = leb-true _ _ e in
    (record { some = some; few = few; begins = inside.begins; ends = inside.ends; in_line = fits; aligned = tt; fetched = tt }, tt))
    (λ e. let past : 64 < addr % 64 + width = leb-false _ _ e in (
      record { some = omega arith; few = omega arith; begins = inside.begins; ends = omega arith; in_line = omega arith; aligned = tt; fetched = tt },
      (record { some = omega arith; few = omega arith; begins = omega arith; ends = omega arith; in_line = omega arith; aligned = tt; fetched = tt }, tt),
    ))

stores-served : (memory : MemoryRange) (fetching : Bool) (addr width value : ℕ) → 1 ≤ width → width ≤ 8 → Inside memory addr width → AreServableIn memory fetching (store_requests addr width value)
unfolding store_requests
stores-served memory fetching addr width value some few inside =
    served-cond memory fetching (is_in_line addr width) _ _
    (λ e. let fits : addr % 64 + width ≤ 64 = leb-true _ _ e in
    (record { some = some; few = few; begins = inside.begins; ends = inside.ends; in_line = fits; aligned = tt; fetched = tt }, tt))
    (λ e. let past : 64 < addr % 64 + width = leb-false _ _ e in (
      record { some = omega arith; few = omega arith; begins = inside.begins; ends = omega arith; in_line = omega arith; aligned = tt; fetched = tt },
      (record { some = omega arith; few = omega arith; begins = omega arith; ends = omega arith; in_line = omega arith; aligned = tt; fetched = tt }, tt),
    ))

loads-paired : (pairing : Option Pairing) (addr width : ℕ) → ArePairedRight pairing (load_requests addr width)
unfolding load_requests
loads-paired pairing addr width = paired-cond pairing (is_in_line addr width) _ _ (tt, tt) (tt, (tt, tt))

stores-paired : (pairing : Option Pairing) (addr width value : ℕ) → ArePairedRight pairing (store_requests addr width value)
unfolding store_requests
stores-paired pairing addr width value = paired-cond pairing (is_in_line addr width) _ _ (tt, tt) (tt, (tt, tt))

-- at most two accesses
few-cond : (test : Bool) (ones others : List Request) → length ones ≤ 256 → length others ≤ 256 → length (if test then ones else others) ≤ 256
few-cond true ones others holds fails = holds
few-cond false ones others holds fails = fails

loads-few : (addr width : ℕ) → length (load_requests addr width) ≤ 256
unfolding load_requests
loads-few addr width = few-cond (is_in_line addr width) _ _ (lit≤ tt) (lit≤ tt)

stores-few : (addr width value : ℕ) → length (store_requests addr width value) ≤ 256
unfolding store_requests
stores-few addr width value = few-cond (is_in_line addr width) _ _ (lit≤ tt) (lit≤ tt)

-- ---- the families

load-keeps : (width : ℕ) (signed : Bool) (i : Inst) (core : CoreState) → 1 ≤ width → width ≤ 8 → i.rd < 32 → IsReady core → Keeps core (loads width signed i core)
load-keeps width signed i core some few rd s =
    accesses-keeps (address i core) width _ _ core s
    (λ e. loads-served core.memory core.fetching (address i core) width some few (inside_of core.memory (address i core) width e))
    (loads-paired core.pairing (address i core) width) (rd, some, few) (loads-few (address i core) width) tt

store-keeps : (width : ℕ) (i : Inst) (core : CoreState) → 1 ≤ width → width ≤ 8 → IsReady core → Keeps core (stores width i core)
store-keeps width i core some few s =
    accesses-keeps (address i core) width _ _ core s
    (λ e. stores-served core.memory core.fetching (address i core) width (register core i.rs2) some few (inside_of core.memory (address i core) width e))
    (stores-paired core.pairing (address i core) width (register core i.rs2)) tt (stores-few (address i core) width (register core i.rs2)) tt

-- an access that is no fetch may be asked of any memory
pub never_fetches : (fetching : Bool) (request : Request) → MayFetch false request → MayFetch fetching request
never_fetches fetching (Load width addr) may = tt
never_fetches fetching (Store width addr value) may = tt
never_fetches fetching (Lr width addr) may = tt
never_fetches fetching (Sc width paired addr value) may = tt
never_fetches fetching (Amo width op addr value) may = tt
never_fetches fetching (Fetch addr) may = absurd (true≢false (sym may))

-- an aligned atomic lies in one line
aligned-in_line : (addr width : ℕ) → (width ≡ 4) ⊎ (width ≡ 8) → addr % width ≡ 0 → addr % 64 + width ≤ 64
aligned-in_line addr width (inl four) e = let e' : addr % 4 ≡ 0 = subst (λ w. addr % w ≡ 0) four e in omega arith
aligned-in_line addr width (inr eight) e = let e' : addr % 8 ≡ 0 = subst (λ w. addr % w ≡ 0) eight e in omega arith

atomic-keeps : (addr width : ℕ) (request : Request) (destination : Destination) (core : CoreState) → IsReady core
    → addr_of request ≡ addr → width_of request ≡ width → (width ≡ 4) ⊎ (width ≡ 8) → (IsNaturallyAligned addr width → IsAligned request) → MayFetch false request → IsPairedRight core.pairing request
    → destination.rd < 32 → destination.width ≡ width → Keeps core (atomic addr width request (ToRegister destination) core)
unfolding atomic
atomic-keeps addr width request destination core s same_addr same_width kind aligned fetched paired rd size =
    cond-keeps core _ _ (addr % width == 0)
    (λ e. let multiple : addr % width ≡ 0 = eqb-true _ _ e in
    let fits : addr % 64 + width ≤ 64 = aligned-in_line addr width kind multiple in
    let some : 1 ≤ width = elim kind [ inl four ↦ omega arith | inr eight ↦ omega arith ] in
    let few : width ≤ 8 = elim kind [ inl four ↦ omega arith | inr eight ↦ omega arith ] in
    accesses-keeps addr width (request ∷ []) (ToRegister destination) core s
    (λ e'. let inside = inside_of core.memory addr width e' in (
      record {
        some = rw same_width some;
        few = rw same_width few;
        begins = rw same_addr inside.begins;
        ends = rw (same_addr, same_width) inside.ends;
        in_line = rw (same_addr, same_width) fits;
        aligned = aligned (kind, multiple);
        fetched = never_fetches core.fetching request fetched;
      },
      tt,
    ))
    (paired, tt) (rd, rw size some, rw size few) (lit≤ tt) tt)
    (halts-keeps _ core s)

writes-keeps : (core : CoreState) → IsReady core → Keeps core (writes core)
unfolding writes
writes-keeps core s =
    let addr = register core 11 in
    let count = min (register core 12) 256 in
    cond-keeps core _ _ (count == 0) (λ none. goes_on-keeps core 10 0 s)
    (cond-keeps core _ _ (is_in_memory core.memory addr count)
    (λ e. let inside = inside_of core.memory addr count e in
    let few : length (byte_loads addr count) ≤ 256 = rw (loads_length addr count) (min-le_right (register core 12) 256) in
    goes_through-keeps (byte_loads addr count) [] (ToConsole count) core s (loads_served core.memory core.fetching addr count inside.begins inside.ends) (loads_paired core.pairing addr count) tt few tt)
    (goes_on-keeps core 10 _ s))

calls-keeps : (core : CoreState) → IsReady core → Keeps core (calls core)
unfolding calls
calls-keeps core s =
    let number = register core 17 in
    let first = register core 10 in
    cond-keeps core (halts (Exit first) core) _ ((number == 93) || (number == 94)) (λ e. halts-keeps (Exit first) core s)
    (cond-keeps core (writes core) _ ((number == 64) && ((first == 1) || (first == 2))) (λ e. writes-keeps core s)
    (goes_on-keeps core 10 (2 ^ 64 - 38) s))

pub effect-keeps : (n : Name) (i : Inst) (core : CoreState) → i.rd < 32 → IsReady core → Keeps core (effect n i core)
unfolding effect
effect-keeps name.Lui i core rd s = goes_on-keeps core i.rd _ s
effect-keeps name.Auipc i core rd s = goes_on-keeps core i.rd _ s
effect-keeps name.Jal i core rd s = jumps-keeps i.rd _ core s
effect-keeps name.Jalr i core rd s = jumps-keeps i.rd _ core s
effect-keeps name.Beq i core rd s = branches-keeps _ i core s
effect-keeps name.Bne i core rd s = branches-keeps _ i core s
effect-keeps name.Blt i core rd s = branches-keeps _ i core s
effect-keeps name.Bge i core rd s = branches-keeps _ i core s
effect-keeps name.Bltu i core rd s = branches-keeps _ i core s
effect-keeps name.Bgeu i core rd s = branches-keeps _ i core s
effect-keeps name.Lb i core rd s = load-keeps 1 true i core (lit≤ tt) (lit≤ tt) rd s
effect-keeps name.Lh i core rd s = load-keeps 2 true i core (lit≤ tt) (lit≤ tt) rd s
effect-keeps name.Lw i core rd s = load-keeps 4 true i core (lit≤ tt) (lit≤ tt) rd s
effect-keeps name.Ld i core rd s = load-keeps 8 true i core (lit≤ tt) (lit≤ tt) rd s
effect-keeps name.Lbu i core rd s = load-keeps 1 false i core (lit≤ tt) (lit≤ tt) rd s
effect-keeps name.Lhu i core rd s = load-keeps 2 false i core (lit≤ tt) (lit≤ tt) rd s
effect-keeps name.Lwu i core rd s = load-keeps 4 false i core (lit≤ tt) (lit≤ tt) rd s
effect-keeps name.Sb i core rd s = store-keeps 1 i core (lit≤ tt) (lit≤ tt) s
effect-keeps name.Sh i core rd s = store-keeps 2 i core (lit≤ tt) (lit≤ tt) s
effect-keeps name.Sw i core rd s = store-keeps 4 i core (lit≤ tt) (lit≤ tt) s
effect-keeps name.Sd i core rd s = store-keeps 8 i core (lit≤ tt) (lit≤ tt) s
effect-keeps name.Addi i core rd s = goes_on-keeps core i.rd _ s
effect-keeps name.Slti i core rd s = goes_on-keeps core i.rd _ s
effect-keeps name.Sltiu i core rd s = goes_on-keeps core i.rd _ s
effect-keeps name.Xori i core rd s = goes_on-keeps core i.rd _ s
effect-keeps name.Ori i core rd s = goes_on-keeps core i.rd _ s
effect-keeps name.Andi i core rd s = goes_on-keeps core i.rd _ s
effect-keeps name.Slli i core rd s = goes_on-keeps core i.rd _ s
effect-keeps name.Srli i core rd s = goes_on-keeps core i.rd _ s
effect-keeps name.Srai i core rd s = goes_on-keeps core i.rd _ s
effect-keeps name.Addiw i core rd s = goes_on-keeps core i.rd _ s
effect-keeps name.Slliw i core rd s = goes_on-keeps core i.rd _ s
effect-keeps name.Srliw i core rd s = goes_on-keeps core i.rd _ s
effect-keeps name.Sraiw i core rd s = goes_on-keeps core i.rd _ s
effect-keeps name.Fence i core rd s = goes_on-keeps core 0 0 s
effect-keeps name.Ecall i core rd s = calls-keeps core s
effect-keeps name.Ebreak i core rd s = halts-keeps _ core s
effect-keeps name.Add i core rd s = goes_on-keeps core i.rd _ s
effect-keeps name.Sub i core rd s = goes_on-keeps core i.rd _ s
effect-keeps name.Sll i core rd s = goes_on-keeps core i.rd _ s
effect-keeps name.Slt i core rd s = goes_on-keeps core i.rd _ s
effect-keeps name.Sltu i core rd s = goes_on-keeps core i.rd _ s
effect-keeps name.Xor i core rd s = goes_on-keeps core i.rd _ s
effect-keeps name.Srl i core rd s = goes_on-keeps core i.rd _ s
effect-keeps name.Sra i core rd s = goes_on-keeps core i.rd _ s
effect-keeps name.Or i core rd s = goes_on-keeps core i.rd _ s
effect-keeps name.And i core rd s = goes_on-keeps core i.rd _ s
effect-keeps name.Addw i core rd s = goes_on-keeps core i.rd _ s
effect-keeps name.Subw i core rd s = goes_on-keeps core i.rd _ s
effect-keeps name.Sllw i core rd s = goes_on-keeps core i.rd _ s
effect-keeps name.Srlw i core rd s = goes_on-keeps core i.rd _ s
effect-keeps name.Sraw i core rd s = goes_on-keeps core i.rd _ s
effect-keeps name.Mul i core rd s = goes_on-keeps core i.rd _ s
effect-keeps name.Mulh i core rd s = goes_on-keeps core i.rd _ s
effect-keeps name.Mulhsu i core rd s = goes_on-keeps core i.rd _ s
effect-keeps name.Mulhu i core rd s = goes_on-keeps core i.rd _ s
effect-keeps name.Div i core rd s = goes_on-keeps core i.rd _ s
effect-keeps name.Divu i core rd s = goes_on-keeps core i.rd _ s
effect-keeps name.Rem i core rd s = goes_on-keeps core i.rd _ s
effect-keeps name.Remu i core rd s = goes_on-keeps core i.rd _ s
effect-keeps name.Mulw i core rd s = goes_on-keeps core i.rd _ s
effect-keeps name.Divw i core rd s = goes_on-keeps core i.rd _ s
effect-keeps name.Divuw i core rd s = goes_on-keeps core i.rd _ s
effect-keeps name.Remw i core rd s = goes_on-keeps core i.rd _ s
effect-keeps name.Remuw i core rd s = goes_on-keeps core i.rd _ s
effect-keeps name.LrW i core rd s = atomic-keeps (register core i.rs1) 4 _ _ core s refl refl (inl refl) (λ a. a) tt tt rd refl
effect-keeps name.ScW i core rd s = atomic-keeps (register core i.rs1) 4 _ _ core s refl refl (inl refl) (λ a. a) tt refl rd refl
effect-keeps name.AmoswapW i core rd s = atomic-keeps (register core i.rs1) 4 _ _ core s refl refl (inl refl) (λ a. a) tt tt rd refl
effect-keeps name.AmoaddW i core rd s = atomic-keeps (register core i.rs1) 4 _ _ core s refl refl (inl refl) (λ a. a) tt tt rd refl
effect-keeps name.AmoxorW i core rd s = atomic-keeps (register core i.rs1) 4 _ _ core s refl refl (inl refl) (λ a. a) tt tt rd refl
effect-keeps name.AmoandW i core rd s = atomic-keeps (register core i.rs1) 4 _ _ core s refl refl (inl refl) (λ a. a) tt tt rd refl
effect-keeps name.AmoorW i core rd s = atomic-keeps (register core i.rs1) 4 _ _ core s refl refl (inl refl) (λ a. a) tt tt rd refl
effect-keeps name.AmominW i core rd s = atomic-keeps (register core i.rs1) 4 _ _ core s refl refl (inl refl) (λ a. a) tt tt rd refl
effect-keeps name.AmomaxW i core rd s = atomic-keeps (register core i.rs1) 4 _ _ core s refl refl (inl refl) (λ a. a) tt tt rd refl
effect-keeps name.AmominuW i core rd s = atomic-keeps (register core i.rs1) 4 _ _ core s refl refl (inl refl) (λ a. a) tt tt rd refl
effect-keeps name.AmomaxuW i core rd s = atomic-keeps (register core i.rs1) 4 _ _ core s refl refl (inl refl) (λ a. a) tt tt rd refl
effect-keeps name.LrD i core rd s = atomic-keeps (register core i.rs1) 8 _ _ core s refl refl (inr refl) (λ a. a) tt tt rd refl
effect-keeps name.ScD i core rd s = atomic-keeps (register core i.rs1) 8 _ _ core s refl refl (inr refl) (λ a. a) tt refl rd refl
effect-keeps name.AmoswapD i core rd s = atomic-keeps (register core i.rs1) 8 _ _ core s refl refl (inr refl) (λ a. a) tt tt rd refl
effect-keeps name.AmoaddD i core rd s = atomic-keeps (register core i.rs1) 8 _ _ core s refl refl (inr refl) (λ a. a) tt tt rd refl
effect-keeps name.AmoxorD i core rd s = atomic-keeps (register core i.rs1) 8 _ _ core s refl refl (inr refl) (λ a. a) tt tt rd refl
effect-keeps name.AmoandD i core rd s = atomic-keeps (register core i.rs1) 8 _ _ core s refl refl (inr refl) (λ a. a) tt tt rd refl
effect-keeps name.AmoorD i core rd s = atomic-keeps (register core i.rs1) 8 _ _ core s refl refl (inr refl) (λ a. a) tt tt rd refl
effect-keeps name.AmominD i core rd s = atomic-keeps (register core i.rs1) 8 _ _ core s refl refl (inr refl) (λ a. a) tt tt rd refl
effect-keeps name.AmomaxD i core rd s = atomic-keeps (register core i.rs1) 8 _ _ core s refl refl (inr refl) (λ a. a) tt tt rd refl
effect-keeps name.AmominuD i core rd s = atomic-keeps (register core i.rs1) 8 _ _ core s refl refl (inr refl) (λ a. a) tt tt rd refl
effect-keeps name.AmomaxuD i core rd s = atomic-keeps (register core i.rs1) 8 _ _ core s refl refl (inr refl) (λ a. a) tt tt rd refl
