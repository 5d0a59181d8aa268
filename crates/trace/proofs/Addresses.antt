-- A core stands at an address of 64 bits, whatever it executes, and so does all that is told of it.
use Rattle.std.proofs.Common.{◌%◌, ◌==◌, ◌^◌, ◌-◌, ◌<◌, ℕ, zero, suc, Bool, true, false, ◌&&◌, ◌||◌, List, [], ◌∷◌, Option, Some, None, All, min, inl, inr, arith}
use Rattle.std.specs.Prelude.{if◌then◌else◌, replicate}
use Rattle.std.proofs.lemmas.Bool.{cases_Bool}
use Rattle.std.proofs.lemmas.List.Elements.{All-append, All-cons, All-nil, All-replicate}
use Rattle.zs_num.specs.declared.entry.Entry.{Entry}
use Rattle.zs_num.specs.declared.request.Request.{Request}
use Rattle.elf_load.specs.MemoryImage.{MemoryImage}
use Rattle.rv_decode.specs.declared.inst.Inst.{Inst}
use Rattle.rv_decode.specs.declared.name.Name.{Name}
use Rattle.rv_decode.specs.declared.name.Name.TheVariants as name
use Rattle.rv_core.specs.declared.program.Fetched.{Fetched}
use Rattle.rv_core.specs.declared.program.Fetched.TheVariants.{Outside, NoInstruction, Instruction}
use Rattle.rv_core.specs.declared.progress.Reply.{Reply}
use Rattle.rv_core.specs.declared.why.Why.{Why}
use Rattle.rv_core.specs.declared.why.Why.TheVariants.{Exit, Misaligned, AtomicAlign, Access}
use Rattle.rv_core.specs.Accesses.{byte_loads, is_in_memory}
use Rattle.rv_core.specs.CoreState.{CoreState, Ending, ToRegister, ToConsole, ToExecution, ToNothing, InProgress}
use Rattle.rv_core.specs.Effect.{accesses, address, atomic, branches, calls, effect, ended, even, following, goes_on, goes_through, goes_to, halts, jumps, loads, register, relative, stores, to_register, writes}
use Rattle.rv_core.specs.Fetch.{fetched_at}
use Rattle.rv_core.specs.Step.{after_fetch, after_reply, answered, executed, needs_fetch, unfetched}
use Rattle.rv_core.specs.Told.{Made, Ran, Told}
use Rattle.reference.specs.TimedCore.{TimedCore, after_instruction, after_instructions, core_after_access, goes_on_alone, ran_to}
use Rattle.bound_core.specs.ToldTurns.{behind_turns, told_alone, told_by_turns, told_next}

abbrev pub Fits : CoreState → Type 0
Fits core = core.pc < 2 ^ 64

mod-less : (n : ℕ) → n % 2 ^ 64 < 2 ^ 64
mod-less n = omega arith

even-less : (target : ℕ) → target < 2 ^ 64 → even target < 2 ^ 64
even-less target less = omega (arith, less)

either-fits : (one other : CoreState) (test : Bool) → Fits one → Fits other → Fits (if test then one else other)
either-fits one other true holds fails = holds
either-fits one other false holds fails = fails

goes_to-fits : (core : CoreState) (rd value target : ℕ) → target < 2 ^ 64 → Fits (goes_to core rd value target)
unfolding goes_to
goes_to-fits core rd value target less = less

goes_on-fits-at : (core : CoreState) (rd value : ℕ) → Fits (goes_on core rd value)
goes_on-fits-at core rd value = goes_to-fits core rd value (following core) (mod-less _)

ended-fits : (ending : Ending) (replies : List Reply) (core : CoreState) → Fits core → Fits (ended ending replies core)
unfolding ended
ended-fits (ToRegister destination) replies core fits = goes_on-fits-at core destination.rd _
ended-fits (ToConsole count) replies core fits = goes_on-fits-at core 10 count
ended-fits ToExecution replies core fits = fits
ended-fits ToNothing replies core fits = goes_on-fits-at core 0 0

through-fits : (requests : List Request) (replies : List Reply) (ending : Ending) (core : CoreState) → Fits core → Fits (goes_through requests replies ending core)
through-fits [] replies ending core fits = ended-fits ending replies core fits
through-fits (request ∷ requests) replies ending core fits = fits

module _ (core : CoreState) (fits : Fits core) where
  goes_on-fits : (rd value : ℕ) → Fits (goes_on core rd value)
  goes_on-fits rd value = goes_on-fits-at core rd value

  halts-fits : (why : Why) → Fits (halts why core)
  halts-fits why = fits

  accesses-fits : (addr width : ℕ) (requests : List Request) (ending : Ending) → Fits (accesses addr width requests ending core)
  unfolding accesses
  accesses-fits addr width requests ending =
      either-fits (goes_through requests [] ending core) (halts (Access addr) core) (is_in_memory core.memory addr width)
      (through-fits requests [] ending core fits) (halts-fits (Access addr))

  loads-fits : (width : ℕ) (signed : Bool) (i : Inst) → Fits (loads width signed i core)
  loads-fits width signed i = accesses-fits (address i core) width _ (to_register i width signed)

  stores-fits : (width : ℕ) (i : Inst) → Fits (stores width i core)
  stores-fits width i = accesses-fits (address i core) width _ ToNothing

  jumps-fits : (rd target : ℕ) → target < 2 ^ 64 → Fits (jumps rd target core)
  unfolding jumps
  jumps-fits rd target less =
      either-fits (goes_to core rd (following core) target) (halts (Misaligned target) core) (target % 4 == 0)
      (goes_to-fits core rd (following core) target less) (halts-fits (Misaligned target))

  branches-fits : (n : Name) (i : Inst) → Fits (branches n i core)
  unfolding branches
  branches-fits n i = either-fits _ _ _ (jumps-fits 0 (relative i core) (mod-less _)) (goes_on-fits 0 0)

  atomic-fits : (addr width : ℕ) (request : Request) (ending : Ending) → Fits (atomic addr width request ending core)
  unfolding atomic
  atomic-fits addr width request ending =
      either-fits (accesses addr width (request ∷ []) ending core) (halts (AtomicAlign addr) core) (addr % width == 0)
      (accesses-fits addr width (request ∷ []) ending) (halts-fits (AtomicAlign addr))

  writes-fits : Fits (writes core)
  unfolding writes
  writes-fits =
      let addr = register core 11 in
      let count = min (register core 12) 256 in
      either-fits _ _ (count == 0) (goes_on-fits 10 0)
      (either-fits _ _ (is_in_memory core.memory addr count) (through-fits (byte_loads addr count) [] (ToConsole count) core fits) (goes_on-fits 10 _))

  calls-fits : Fits (calls core)
  unfolding calls
  calls-fits =
      let number = register core 17 in
      let first = register core 10 in
      either-fits (halts (Exit first) core) _ ((number == 93) || (number == 94)) (halts-fits (Exit first))
      (either-fits (writes core) _ ((number == 64) && ((first == 1) || (first == 2))) writes-fits (goes_on-fits 10 (2 ^ 64 - 38)))

  effect-fits : (n : Name) (i : Inst) → Fits (effect n i core)
  unfolding effect
  effect-fits name.Lui i = goes_on-fits i.rd _
  effect-fits name.Auipc i = goes_on-fits i.rd _
  effect-fits name.Jal i = jumps-fits i.rd _ (mod-less _)
  effect-fits name.Jalr i = jumps-fits i.rd _ (even-less (address i core) (mod-less _))
  effect-fits name.Beq i = branches-fits _ i
  effect-fits name.Bne i = branches-fits _ i
  effect-fits name.Blt i = branches-fits _ i
  effect-fits name.Bge i = branches-fits _ i
  effect-fits name.Bltu i = branches-fits _ i
  effect-fits name.Bgeu i = branches-fits _ i
  effect-fits name.Lb i = loads-fits 1 true i
  effect-fits name.Lh i = loads-fits 2 true i
  effect-fits name.Lw i = loads-fits 4 true i
  effect-fits name.Ld i = loads-fits 8 true i
  effect-fits name.Lbu i = loads-fits 1 false i
  effect-fits name.Lhu i = loads-fits 2 false i
  effect-fits name.Lwu i = loads-fits 4 false i
  effect-fits name.Sb i = stores-fits 1 i
  effect-fits name.Sh i = stores-fits 2 i
  effect-fits name.Sw i = stores-fits 4 i
  effect-fits name.Sd i = stores-fits 8 i
  effect-fits name.Addi i = goes_on-fits i.rd _
  effect-fits name.Slti i = goes_on-fits i.rd _
  effect-fits name.Sltiu i = goes_on-fits i.rd _
  effect-fits name.Xori i = goes_on-fits i.rd _
  effect-fits name.Ori i = goes_on-fits i.rd _
  effect-fits name.Andi i = goes_on-fits i.rd _
  effect-fits name.Slli i = goes_on-fits i.rd _
  effect-fits name.Srli i = goes_on-fits i.rd _
  effect-fits name.Srai i = goes_on-fits i.rd _
  effect-fits name.Addiw i = goes_on-fits i.rd _
  effect-fits name.Slliw i = goes_on-fits i.rd _
  effect-fits name.Srliw i = goes_on-fits i.rd _
  effect-fits name.Sraiw i = goes_on-fits i.rd _
  effect-fits name.Fence i = goes_on-fits 0 _
  effect-fits name.Ecall i = calls-fits
  effect-fits name.Ebreak i = fits
  effect-fits name.Add i = goes_on-fits i.rd _
  effect-fits name.Sub i = goes_on-fits i.rd _
  effect-fits name.Sll i = goes_on-fits i.rd _
  effect-fits name.Slt i = goes_on-fits i.rd _
  effect-fits name.Sltu i = goes_on-fits i.rd _
  effect-fits name.Xor i = goes_on-fits i.rd _
  effect-fits name.Srl i = goes_on-fits i.rd _
  effect-fits name.Sra i = goes_on-fits i.rd _
  effect-fits name.Or i = goes_on-fits i.rd _
  effect-fits name.And i = goes_on-fits i.rd _
  effect-fits name.Addw i = goes_on-fits i.rd _
  effect-fits name.Subw i = goes_on-fits i.rd _
  effect-fits name.Sllw i = goes_on-fits i.rd _
  effect-fits name.Srlw i = goes_on-fits i.rd _
  effect-fits name.Sraw i = goes_on-fits i.rd _
  effect-fits name.Mul i = goes_on-fits i.rd _
  effect-fits name.Mulh i = goes_on-fits i.rd _
  effect-fits name.Mulhsu i = goes_on-fits i.rd _
  effect-fits name.Mulhu i = goes_on-fits i.rd _
  effect-fits name.Div i = goes_on-fits i.rd _
  effect-fits name.Divu i = goes_on-fits i.rd _
  effect-fits name.Rem i = goes_on-fits i.rd _
  effect-fits name.Remu i = goes_on-fits i.rd _
  effect-fits name.Mulw i = goes_on-fits i.rd _
  effect-fits name.Divw i = goes_on-fits i.rd _
  effect-fits name.Divuw i = goes_on-fits i.rd _
  effect-fits name.Remw i = goes_on-fits i.rd _
  effect-fits name.Remuw i = goes_on-fits i.rd _
  effect-fits name.LrW i = atomic-fits _ _ _ _
  effect-fits name.ScW i = atomic-fits _ _ _ _
  effect-fits name.AmoswapW i = atomic-fits _ _ _ _
  effect-fits name.AmoaddW i = atomic-fits _ _ _ _
  effect-fits name.AmoxorW i = atomic-fits _ _ _ _
  effect-fits name.AmoandW i = atomic-fits _ _ _ _
  effect-fits name.AmoorW i = atomic-fits _ _ _ _
  effect-fits name.AmominW i = atomic-fits _ _ _ _
  effect-fits name.AmomaxW i = atomic-fits _ _ _ _
  effect-fits name.AmominuW i = atomic-fits _ _ _ _
  effect-fits name.AmomaxuW i = atomic-fits _ _ _ _
  effect-fits name.LrD i = atomic-fits _ _ _ _
  effect-fits name.ScD i = atomic-fits _ _ _ _
  effect-fits name.AmoswapD i = atomic-fits _ _ _ _
  effect-fits name.AmoaddD i = atomic-fits _ _ _ _
  effect-fits name.AmoxorD i = atomic-fits _ _ _ _
  effect-fits name.AmoandD i = atomic-fits _ _ _ _
  effect-fits name.AmoorD i = atomic-fits _ _ _ _
  effect-fits name.AmominD i = atomic-fits _ _ _ _
  effect-fits name.AmomaxD i = atomic-fits _ _ _ _
  effect-fits name.AmominuD i = atomic-fits _ _ _ _
  effect-fits name.AmomaxuD i = atomic-fits _ _ _ _

  after_fetch-fits : (fetched : Fetched) → Fits (after_fetch fetched core)
  after_fetch-fits Outside = fits
  after_fetch-fits (NoInstruction word) = fits
  after_fetch-fits (Instruction inst) = effect-fits inst.name inst

executed-fits : (image : MemoryImage) (core : CoreState) → Fits core → Fits (executed image core)
executed-fits image core fits = after_fetch-fits core fits (fetched_at image core.pc)

answered-fits : (reply : ℕ) (core : CoreState) → Fits core → Fits (answered reply core)
unfolding answered
answered-fits reply core fits = by core.instruction
  where
    by : (instruction : Option InProgress) → Fits (after_reply instruction reply core)
    by None = fits
    by (Some now) = through-fits now.later _ now.ending _ fits

-- an address that is told
abbrev pub ToldFits : Told → Type 0
ToldFits (Ran pc) = pc < 2 ^ 64
ToldFits (Made pc) = pc < 2 ^ 64

-- ---- a core in time

module _ (image : MemoryImage) where
  instruction-fits : (c : TimedCore) → Fits c.core → Fits (after_instruction image c).core
  unfolding after_instruction
  instruction-fits c fits =
      elim (cases_Bool (needs_fetch image c.core)) as (λ _. Fits (after_instruction image c).core) [
        | inl needs ↦ rw needs fits
        | inr not ↦ rw not (executed-fits image (unfetched c.core) fits)
      ]

  instructions-fit : (end n : ℕ) (c : TimedCore) → Fits c.core → Fits (after_instructions n image end c).core
  instructions-fit end zero c fits = fits
  instructions-fit end (suc n) c fits =
      elim (cases_Bool (goes_on_alone end c)) as (λ _. Fits (after_instructions (suc n) image end c).core) [
        | inl on ↦ rw on (instructions-fit end n (after_instruction image c) (instruction-fits c fits))
        | inr off ↦ rw off fits
      ]

  ran-fits : (end : ℕ) (c : TimedCore) → Fits c.core → Fits (ran_to image end c).core
  ran-fits end c fits = instructions-fit end (suc (end - c.clock)) c fits

  access-fits : (time : Entry → ℕ) (e : Entry) (c : TimedCore) → Fits c.core → Fits (core_after_access time e c).core
  unfolding core_after_access
  access-fits time e c fits = answered-fits e.reply c.core fits

  -- ---- what is told of it

  next-fits : (end n : ℕ) (c : TimedCore) → Fits c.core → All ToldFits (told_next image end n c)
  next-fits end zero c fits = All-nil ToldFits
  next-fits end (suc n) c fits =
      let next : TimedCore = after_instruction image c in
      elim (cases_Bool (goes_on_alone end c)) as (λ _. All ToldFits (told_next image end (suc n) c)) [
        | inl on ↦ rw on (All-append ToldFits (replicate (next.instructions - c.instructions) (Ran c.core.pc)) (told_next image end n next)
            (All-replicate ToldFits (next.instructions - c.instructions) (Ran c.core.pc) fits) (next-fits end n next (instruction-fits c fits)))
        | inr off ↦ rw off (All-nil ToldFits)
      ]

  pub alone-fits : (end : ℕ) (c : TimedCore) → Fits c.core → All ToldFits (told_alone image end c)
  alone-fits end c fits = next-fits end (suc (end - c.clock)) c fits

  pub turns-fit : (time : Entry → ℕ) (end : ℕ) (entries : List Entry) (c : TimedCore) → Fits c.core → All ToldFits (told_by_turns time image end entries c)
  turns-fit time end [] c fits = All-nil ToldFits
  turns-fit time end (e ∷ entries) c fits =
      let ran : TimedCore = ran_to image end c in
      All-append ToldFits (told_alone image end c) (Made ran.core.pc ∷ told_by_turns time image end entries (core_after_access time e ran)) (alone-fits end c fits)
      (All-cons ToldFits (Made ran.core.pc) (told_by_turns time image end entries (core_after_access time e ran)) (ran-fits end c fits)
      (turns-fit time end entries (core_after_access time e ran) (access-fits time e ran (ran-fits end c fits))))

  pub behind-fits : (time : Entry → ℕ) (end : ℕ) (entries : List Entry) (c : TimedCore) → Fits c.core → Fits (behind_turns time image end entries c).core
  behind-fits time end [] c fits = fits
  behind-fits time end (e ∷ entries) c fits = behind-fits time end entries _ (access-fits time e (ran_to image end c) (ran-fits end c fits))
