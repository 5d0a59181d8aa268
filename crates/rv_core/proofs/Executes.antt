-- What an instruction leaves of fetches: it says of none that it was made, and waits for the reply to none.
use Rattle.std.proofs.Common.{◌≡◌, ◌%◌, ◌==◌, ◌^◌, ◌-◌, ℕ, Bool, true, false, ◌&&◌, ◌||◌, List, [], ◌∷◌, Option, Some, None, IfSome, ◌<◌, ◌≤◌, length, refl, ◌∙◌, min, arith, lit≤}
use Rattle.std.specs.Prelude.{if◌then◌else◌}
use Rattle.std.proofs.Math.Nat.{min-le_right}
use Rattle.zs_num.specs.declared.request.Request.{Request}
use Rattle.elf_load.specs.MemoryImage.{MemoryImage}
use Rattle.rv_decode.specs.declared.inst.Inst.{Inst}
use Rattle.rv_decode.specs.declared.name.Name.{Name}
use Rattle.rv_decode.specs.declared.name.Name.TheVariants as name
use Rattle.rv_core.specs.declared.program.Fetched.{Fetched}
use Rattle.rv_core.specs.declared.program.Fetched.TheVariants.{Outside, NoInstruction, Instruction}
use Rattle.rv_core.specs.declared.progress.Reply.{Reply}
use Rattle.rv_core.specs.declared.why.Why.{Why}
use Rattle.rv_core.specs.declared.why.Why.TheVariants.{Exit, Misaligned, AtomicAlign, Access}
use Rattle.rv_core.specs.Accesses.{byte_loads, is_in_line, is_in_memory, load_requests, store_requests}
use Rattle.rv_core.specs.CoreState.{CoreState, Ending, ToRegister, ToConsole, ToExecution, ToNothing, InProgress}
use Rattle.rv_core.specs.Effect.{accesses, address, atomic, branches, calls, effect, ended, following, goes_on, goes_through, goes_to, halts, jumps, loads, register, relative, stores, to_register, writes}
use Rattle.rv_core.specs.Fetch.{fetched_at}
use Rattle.rv_core.specs.Step.{after_fetch, executed}
use Rattle.rv_core.proofs.ByteLoads.{loads_length}

-- replies to what is no fetch
abbrev pub IsOfNoFetch : Ending → Type 0
IsOfNoFetch (ToRegister destination) = Unit {0}
IsOfNoFetch (ToConsole count) = Unit {0}
IsOfNoFetch ToExecution = ⊥
IsOfNoFetch ToNothing = Unit {0}

-- it has 256 accesses at most, of which none is a fetch
abbrev pub AwaitsNoFetch : Option InProgress → Type 0
AwaitsNoFetch instruction = IfSome instruction (λ now. IsOfNoFetch now.ending × (length now.later < 256))

pub record Executes (core after : CoreState) : Type 0 where
  pub fetched : after.is_fetched ≡ core.is_fetched
  pub awaits : core.instruction ≡ None → AwaitsNoFetch after.instruction

none-awaits : (instruction : Option InProgress) → instruction ≡ None → AwaitsNoFetch instruction
none-awaits None none = tt
none-awaits (Some now) none = cc

-- it waits for what it waited for
same : (core after : CoreState) → after.is_fetched ≡ core.is_fetched → after.instruction ≡ core.instruction → Executes core after
same core after fetched instruction = record { fetched = fetched; awaits = λ none. none-awaits after.instruction (instruction ∙ none) }

either-executes : (core one other : CoreState) (test : Bool) → Executes core one → Executes core other → Executes core (if test then one else other)
either-executes core one other true holds fails = holds
either-executes core one other false holds fails = fails

goes_to-executes : (core : CoreState) (rd value target : ℕ) → Executes core (goes_to core rd value target)
unfolding goes_to
goes_to-executes core rd value target = same core _ refl refl

goes_on-executes : (core : CoreState) (rd value : ℕ) → Executes core (goes_on core rd value)
goes_on-executes core rd value = goes_to-executes core rd value (following core)

halts-executes : (why : Why) (core : CoreState) → Executes core (halts why core)
halts-executes why core = same core (halts why core) refl refl

ended-executes : (ending : Ending) (replies : List Reply) (core : CoreState) → IsOfNoFetch ending → Executes core (ended ending replies core)
unfolding ended
ended-executes (ToRegister destination) replies core none = goes_on-executes core destination.rd _
ended-executes (ToConsole count) replies core none = goes_on-executes core 10 count
ended-executes ToExecution replies core none = absurd none
ended-executes ToNothing replies core none = goes_on-executes core 0 0

through-executes : (requests : List Request) (replies : List Reply) (ending : Ending) (core : CoreState) → IsOfNoFetch ending → length requests ≤ 256 → Executes core (goes_through requests replies ending core)
through-executes [] replies ending core none few = ended-executes ending replies core none
through-executes (request ∷ requests) replies ending core none few = record { fetched = refl; awaits = λ idle. (none, omega (arith, few)) }

accesses-executes : (addr width : ℕ) (requests : List Request) (ending : Ending) (core : CoreState) → IsOfNoFetch ending → length requests ≤ 256 → Executes core (accesses addr width requests ending core)
unfolding accesses
accesses-executes addr width requests ending core none few =
    either-executes core (goes_through requests [] ending core) (halts (Access addr) core) (is_in_memory core.memory addr width)
    (through-executes requests [] ending core none few) (halts-executes (Access addr) core)

few-cond : (test : Bool) (ones others : List Request) → length ones ≤ 256 → length others ≤ 256 → length (if test then ones else others) ≤ 256
few-cond true ones others holds fails = holds
few-cond false ones others holds fails = fails

loads-executes : (width : ℕ) (signed : Bool) (i : Inst) (core : CoreState) → Executes core (loads width signed i core)
unfolding load_requests
loads-executes width signed i core = accesses-executes (address i core) width _ (to_register i width signed) core tt (few-cond (is_in_line (address i core) width) _ _ (lit≤ tt) (lit≤ tt))

stores-executes : (width : ℕ) (i : Inst) (core : CoreState) → Executes core (stores width i core)
unfolding store_requests
stores-executes width i core = accesses-executes (address i core) width _ ToNothing core tt (few-cond (is_in_line (address i core) width) _ _ (lit≤ tt) (lit≤ tt))

jumps-executes : (rd target : ℕ) (core : CoreState) → Executes core (jumps rd target core)
unfolding jumps
jumps-executes rd target core =
    either-executes core (goes_to core rd (following core) target) (halts (Misaligned target) core) (target % 4 == 0)
    (goes_to-executes core rd (following core) target) (halts-executes (Misaligned target) core)

branches-executes : (n : Name) (i : Inst) (core : CoreState) → Executes core (branches n i core)
unfolding branches
branches-executes n i core = either-executes core _ _ _ (jumps-executes 0 (relative i core) core) (goes_on-executes core 0 0)

atomic-executes : (addr width : ℕ) (request : Request) (ending : Ending) (core : CoreState) → IsOfNoFetch ending → Executes core (atomic addr width request ending core)
unfolding atomic
atomic-executes addr width request ending core none =
    either-executes core (accesses addr width (request ∷ []) ending core) (halts (AtomicAlign addr) core) (addr % width == 0)
    (accesses-executes addr width (request ∷ []) ending core none (lit≤ tt)) (halts-executes (AtomicAlign addr) core)

writes-executes : (core : CoreState) → Executes core (writes core)
unfolding writes
writes-executes core =
    let addr = register core 11 in
    let count = min (register core 12) 256 in
    either-executes core _ _ (count == 0) (goes_on-executes core 10 0)
    (either-executes core _ _ (is_in_memory core.memory addr count) (through-executes (byte_loads addr count) [] (ToConsole count) core tt (rw (loads_length addr count) (min-le_right (register core 12) 256))) (goes_on-executes core 10 _))

calls-executes : (core : CoreState) → Executes core (calls core)
unfolding calls
calls-executes core =
    let number = register core 17 in
    let first = register core 10 in
    either-executes core (halts (Exit first) core) _ ((number == 93) || (number == 94)) (halts-executes (Exit first) core)
    (either-executes core (writes core) _ ((number == 64) && ((first == 1) || (first == 2))) (writes-executes core) (goes_on-executes core 10 (2 ^ 64 - 38)))

effect-executes : (n : Name) (i : Inst) (core : CoreState) → Executes core (effect n i core)
unfolding effect
effect-executes name.Lui i core = goes_on-executes core i.rd _
effect-executes name.Auipc i core = goes_on-executes core i.rd _
effect-executes name.Jal i core = jumps-executes i.rd _ core
effect-executes name.Jalr i core = jumps-executes i.rd _ core
effect-executes name.Beq i core = branches-executes _ i core
effect-executes name.Bne i core = branches-executes _ i core
effect-executes name.Blt i core = branches-executes _ i core
effect-executes name.Bge i core = branches-executes _ i core
effect-executes name.Bltu i core = branches-executes _ i core
effect-executes name.Bgeu i core = branches-executes _ i core
effect-executes name.Lb i core = loads-executes 1 true i core
effect-executes name.Lh i core = loads-executes 2 true i core
effect-executes name.Lw i core = loads-executes 4 true i core
effect-executes name.Ld i core = loads-executes 8 true i core
effect-executes name.Lbu i core = loads-executes 1 false i core
effect-executes name.Lhu i core = loads-executes 2 false i core
effect-executes name.Lwu i core = loads-executes 4 false i core
effect-executes name.Sb i core = stores-executes 1 i core
effect-executes name.Sh i core = stores-executes 2 i core
effect-executes name.Sw i core = stores-executes 4 i core
effect-executes name.Sd i core = stores-executes 8 i core
effect-executes name.Addi i core = goes_on-executes core i.rd _
effect-executes name.Slti i core = goes_on-executes core i.rd _
effect-executes name.Sltiu i core = goes_on-executes core i.rd _
effect-executes name.Xori i core = goes_on-executes core i.rd _
effect-executes name.Ori i core = goes_on-executes core i.rd _
effect-executes name.Andi i core = goes_on-executes core i.rd _
effect-executes name.Slli i core = goes_on-executes core i.rd _
effect-executes name.Srli i core = goes_on-executes core i.rd _
effect-executes name.Srai i core = goes_on-executes core i.rd _
effect-executes name.Addiw i core = goes_on-executes core i.rd _
effect-executes name.Slliw i core = goes_on-executes core i.rd _
effect-executes name.Srliw i core = goes_on-executes core i.rd _
effect-executes name.Sraiw i core = goes_on-executes core i.rd _
effect-executes name.Fence i core = goes_on-executes core 0 _
effect-executes name.Ecall i core = calls-executes core
effect-executes name.Ebreak i core = halts-executes _ core
effect-executes name.Add i core = goes_on-executes core i.rd _
effect-executes name.Sub i core = goes_on-executes core i.rd _
effect-executes name.Sll i core = goes_on-executes core i.rd _
effect-executes name.Slt i core = goes_on-executes core i.rd _
effect-executes name.Sltu i core = goes_on-executes core i.rd _
effect-executes name.Xor i core = goes_on-executes core i.rd _
effect-executes name.Srl i core = goes_on-executes core i.rd _
effect-executes name.Sra i core = goes_on-executes core i.rd _
effect-executes name.Or i core = goes_on-executes core i.rd _
effect-executes name.And i core = goes_on-executes core i.rd _
effect-executes name.Addw i core = goes_on-executes core i.rd _
effect-executes name.Subw i core = goes_on-executes core i.rd _
effect-executes name.Sllw i core = goes_on-executes core i.rd _
effect-executes name.Srlw i core = goes_on-executes core i.rd _
effect-executes name.Sraw i core = goes_on-executes core i.rd _
effect-executes name.Mul i core = goes_on-executes core i.rd _
effect-executes name.Mulh i core = goes_on-executes core i.rd _
effect-executes name.Mulhsu i core = goes_on-executes core i.rd _
effect-executes name.Mulhu i core = goes_on-executes core i.rd _
effect-executes name.Div i core = goes_on-executes core i.rd _
effect-executes name.Divu i core = goes_on-executes core i.rd _
effect-executes name.Rem i core = goes_on-executes core i.rd _
effect-executes name.Remu i core = goes_on-executes core i.rd _
effect-executes name.Mulw i core = goes_on-executes core i.rd _
effect-executes name.Divw i core = goes_on-executes core i.rd _
effect-executes name.Divuw i core = goes_on-executes core i.rd _
effect-executes name.Remw i core = goes_on-executes core i.rd _
effect-executes name.Remuw i core = goes_on-executes core i.rd _
effect-executes name.LrW i core = atomic-executes _ _ _ _ core tt
effect-executes name.ScW i core = atomic-executes _ _ _ _ core tt
effect-executes name.AmoswapW i core = atomic-executes _ _ _ _ core tt
effect-executes name.AmoaddW i core = atomic-executes _ _ _ _ core tt
effect-executes name.AmoxorW i core = atomic-executes _ _ _ _ core tt
effect-executes name.AmoandW i core = atomic-executes _ _ _ _ core tt
effect-executes name.AmoorW i core = atomic-executes _ _ _ _ core tt
effect-executes name.AmominW i core = atomic-executes _ _ _ _ core tt
effect-executes name.AmomaxW i core = atomic-executes _ _ _ _ core tt
effect-executes name.AmominuW i core = atomic-executes _ _ _ _ core tt
effect-executes name.AmomaxuW i core = atomic-executes _ _ _ _ core tt
effect-executes name.LrD i core = atomic-executes _ _ _ _ core tt
effect-executes name.ScD i core = atomic-executes _ _ _ _ core tt
effect-executes name.AmoswapD i core = atomic-executes _ _ _ _ core tt
effect-executes name.AmoaddD i core = atomic-executes _ _ _ _ core tt
effect-executes name.AmoxorD i core = atomic-executes _ _ _ _ core tt
effect-executes name.AmoandD i core = atomic-executes _ _ _ _ core tt
effect-executes name.AmoorD i core = atomic-executes _ _ _ _ core tt
effect-executes name.AmominD i core = atomic-executes _ _ _ _ core tt
effect-executes name.AmomaxD i core = atomic-executes _ _ _ _ core tt
effect-executes name.AmominuD i core = atomic-executes _ _ _ _ core tt
effect-executes name.AmomaxuD i core = atomic-executes _ _ _ _ core tt

after_fetch-executes : (fetched : Fetched) (core : CoreState) → Executes core (after_fetch fetched core)
after_fetch-executes Outside core = halts-executes _ core
after_fetch-executes (NoInstruction word) core = halts-executes _ core
after_fetch-executes (Instruction inst) core = effect-executes inst.name inst core

pub executed-executes : (image : MemoryImage) (core : CoreState) → Executes core (executed image core)
executed-executes image core = after_fetch-executes (fetched_at image core.pc) core
