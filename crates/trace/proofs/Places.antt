-- A core stands at its instruction as long as this is in progress, and a word of the program stands there.
use Rattle.std.proofs.Common.{◌≡◌, ◌%◌, ◌==◌, ◌^◌, ◌-◌, ◌+◌, ℕ, Bool, true, false, not, ◌&&◌, ◌||◌, List, [], ◌∷◌, Option, Some, None, IfSome, IsSome, is_none, is_some, IsTrue, nat_le, leb-true, ◌≤◌, refl, sym, ◌∙◌, ap, subst, min, inl, inr, arith}
use Rattle.std.specs.Prelude.{if◌then◌else◌}
use Rattle.std.specs.List.{list_all}
use Rattle.std.proofs.lemmas.Bool.{and_parts, cases_Bool}
use Rattle.std.proofs.lemmas.Option.{IfSome_then}
use Rattle.zs_num.specs.declared.request.Request.{Request}
use Rattle.elf_load.specs.MemoryImage.{MemoryImage, covers, fetched_word, is_within, word_in}
use Rattle.elf_load.specs.SoundImage.{is_placed}
use Rattle.elf_load.specs.declared.segment.Segment.{Segment}
use Rattle.rv_decode.specs.declared.inst.Inst.{Inst}
use Rattle.rv_decode.specs.declared.name.Name.{Name}
use Rattle.rv_decode.specs.declared.name.Name.TheVariants as name
use Rattle.rv_core.specs.declared.program.Fetched.{Fetched}
use Rattle.rv_core.specs.declared.program.Fetched.TheVariants.{Outside, NoInstruction, Instruction}
use Rattle.rv_core.specs.declared.progress.Reply.{Reply}
use Rattle.rv_core.specs.declared.why.Why.{Why}
use Rattle.rv_core.specs.declared.why.Why.TheVariants.{Exit, Misaligned, AtomicAlign, Access, Fetch}
use Rattle.rv_core.specs.Accesses.{byte_loads, is_in_memory}
use Rattle.rv_core.specs.CoreState.{CoreState, Ending, ToRegister, ToConsole, ToExecution, ToNothing, InProgress}
use Rattle.rv_core.specs.Effect.{accesses, address, atomic, branches, calls, effect, ended, following, goes_on, goes_through, goes_to, halts, has_fetched, jumps, loads, register, relative, stores, to_register, writes}
use Rattle.rv_core.specs.Fetch.{fetched_at, of_word}
use Rattle.rv_core.specs.Asked.{stepped}
use Rattle.rv_core.specs.Step.{after_fetch, after_reply, answered, executed, is_free, needs_fetch, unfetched}

-- ---- an instruction that is begun is the one at which the core stood

record Stays (core after : CoreState) : Type 0 where
  at : core.instruction ≡ None → IfSome after.instruction (λ now. after.pc ≡ core.pc)

nothing_in_progress : (instruction : Option InProgress) (P : InProgress → Type 0) → instruction ≡ None → IfSome instruction P
nothing_in_progress None P none = tt
nothing_in_progress (Some now) P none = cc

same : (core after : CoreState) → after.instruction ≡ core.instruction → Stays core after
same core after instruction = record { at = λ none. nothing_in_progress after.instruction (λ now. after.pc ≡ core.pc) (instruction ∙ none) }

either-stays : (core one other : CoreState) (test : Bool) → Stays core one → Stays core other → Stays core (if test then one else other)
either-stays core one other true holds fails = holds
either-stays core one other false holds fails = fails

goes_to-stays : (core : CoreState) (rd value target : ℕ) → Stays core (goes_to core rd value target)
unfolding goes_to
goes_to-stays core rd value target = same core _ refl

goes_on-stays : (core : CoreState) (rd value : ℕ) → Stays core (goes_on core rd value)
goes_on-stays core rd value = goes_to-stays core rd value (following core)

halts-stays : (why : Why) (core : CoreState) → Stays core (halts why core)
halts-stays why core = same core (halts why core) refl

ended-stays : (ending : Ending) (replies : List Reply) (core : CoreState) → Stays core (ended ending replies core)
unfolding ended
ended-stays (ToRegister destination) replies core = goes_on-stays core destination.rd _
ended-stays (ToConsole count) replies core = goes_on-stays core 10 count
ended-stays ToExecution replies core = same core (has_fetched core) refl
ended-stays ToNothing replies core = goes_on-stays core 0 0

through-stays : (requests : List Request) (replies : List Reply) (ending : Ending) (core : CoreState) → Stays core (goes_through requests replies ending core)
through-stays [] replies ending core = ended-stays ending replies core
through-stays (request ∷ requests) replies ending core = record { at = λ idle. refl }

accesses-stays : (addr width : ℕ) (requests : List Request) (ending : Ending) (core : CoreState) → Stays core (accesses addr width requests ending core)
unfolding accesses
accesses-stays addr width requests ending core =
    either-stays core (goes_through requests [] ending core) (halts (Access addr) core) (is_in_memory core.memory addr width)
    (through-stays requests [] ending core) (halts-stays (Access addr) core)

loads-stays : (width : ℕ) (signed : Bool) (i : Inst) (core : CoreState) → Stays core (loads width signed i core)
loads-stays width signed i core = accesses-stays (address i core) width _ (to_register i width signed) core

stores-stays : (width : ℕ) (i : Inst) (core : CoreState) → Stays core (stores width i core)
stores-stays width i core = accesses-stays (address i core) width _ ToNothing core

jumps-stays : (rd target : ℕ) (core : CoreState) → Stays core (jumps rd target core)
unfolding jumps
jumps-stays rd target core =
    either-stays core (goes_to core rd (following core) target) (halts (Misaligned target) core) (target % 4 == 0)
    (goes_to-stays core rd (following core) target) (halts-stays (Misaligned target) core)

branches-stays : (n : Name) (i : Inst) (core : CoreState) → Stays core (branches n i core)
unfolding branches
branches-stays n i core = either-stays core _ _ _ (jumps-stays 0 (relative i core) core) (goes_on-stays core 0 0)

atomic-stays : (addr width : ℕ) (request : Request) (ending : Ending) (core : CoreState) → Stays core (atomic addr width request ending core)
unfolding atomic
atomic-stays addr width request ending core =
    either-stays core (accesses addr width (request ∷ []) ending core) (halts (AtomicAlign addr) core) (addr % width == 0)
    (accesses-stays addr width (request ∷ []) ending core) (halts-stays (AtomicAlign addr) core)

writes-stays : (core : CoreState) → Stays core (writes core)
unfolding writes
writes-stays core =
    let addr = register core 11 in
    let count = min (register core 12) 256 in
    either-stays core _ _ (count == 0) (goes_on-stays core 10 0)
    (either-stays core _ _ (is_in_memory core.memory addr count) (through-stays (byte_loads addr count) [] (ToConsole count) core) (goes_on-stays core 10 _))

calls-stays : (core : CoreState) → Stays core (calls core)
unfolding calls
calls-stays core =
    let number = register core 17 in
    let first = register core 10 in
    either-stays core (halts (Exit first) core) _ ((number == 93) || (number == 94)) (halts-stays (Exit first) core)
    (either-stays core (writes core) _ ((number == 64) && ((first == 1) || (first == 2))) (writes-stays core) (goes_on-stays core 10 (2 ^ 64 - 38)))

effect-stays : (n : Name) (i : Inst) (core : CoreState) → Stays core (effect n i core)
unfolding effect
effect-stays name.Lui i core = goes_on-stays core i.rd _
effect-stays name.Auipc i core = goes_on-stays core i.rd _
effect-stays name.Jal i core = jumps-stays i.rd _ core
effect-stays name.Jalr i core = jumps-stays i.rd _ core
effect-stays name.Beq i core = branches-stays _ i core
effect-stays name.Bne i core = branches-stays _ i core
effect-stays name.Blt i core = branches-stays _ i core
effect-stays name.Bge i core = branches-stays _ i core
effect-stays name.Bltu i core = branches-stays _ i core
effect-stays name.Bgeu i core = branches-stays _ i core
effect-stays name.Lb i core = loads-stays 1 true i core
effect-stays name.Lh i core = loads-stays 2 true i core
effect-stays name.Lw i core = loads-stays 4 true i core
effect-stays name.Ld i core = loads-stays 8 true i core
effect-stays name.Lbu i core = loads-stays 1 false i core
effect-stays name.Lhu i core = loads-stays 2 false i core
effect-stays name.Lwu i core = loads-stays 4 false i core
effect-stays name.Sb i core = stores-stays 1 i core
effect-stays name.Sh i core = stores-stays 2 i core
effect-stays name.Sw i core = stores-stays 4 i core
effect-stays name.Sd i core = stores-stays 8 i core
effect-stays name.Addi i core = goes_on-stays core i.rd _
effect-stays name.Slti i core = goes_on-stays core i.rd _
effect-stays name.Sltiu i core = goes_on-stays core i.rd _
effect-stays name.Xori i core = goes_on-stays core i.rd _
effect-stays name.Ori i core = goes_on-stays core i.rd _
effect-stays name.Andi i core = goes_on-stays core i.rd _
effect-stays name.Slli i core = goes_on-stays core i.rd _
effect-stays name.Srli i core = goes_on-stays core i.rd _
effect-stays name.Srai i core = goes_on-stays core i.rd _
effect-stays name.Addiw i core = goes_on-stays core i.rd _
effect-stays name.Slliw i core = goes_on-stays core i.rd _
effect-stays name.Srliw i core = goes_on-stays core i.rd _
effect-stays name.Sraiw i core = goes_on-stays core i.rd _
effect-stays name.Fence i core = goes_on-stays core 0 _
effect-stays name.Ecall i core = calls-stays core
effect-stays name.Ebreak i core = halts-stays _ core
effect-stays name.Add i core = goes_on-stays core i.rd _
effect-stays name.Sub i core = goes_on-stays core i.rd _
effect-stays name.Sll i core = goes_on-stays core i.rd _
effect-stays name.Slt i core = goes_on-stays core i.rd _
effect-stays name.Sltu i core = goes_on-stays core i.rd _
effect-stays name.Xor i core = goes_on-stays core i.rd _
effect-stays name.Srl i core = goes_on-stays core i.rd _
effect-stays name.Sra i core = goes_on-stays core i.rd _
effect-stays name.Or i core = goes_on-stays core i.rd _
effect-stays name.And i core = goes_on-stays core i.rd _
effect-stays name.Addw i core = goes_on-stays core i.rd _
effect-stays name.Subw i core = goes_on-stays core i.rd _
effect-stays name.Sllw i core = goes_on-stays core i.rd _
effect-stays name.Srlw i core = goes_on-stays core i.rd _
effect-stays name.Sraw i core = goes_on-stays core i.rd _
effect-stays name.Mul i core = goes_on-stays core i.rd _
effect-stays name.Mulh i core = goes_on-stays core i.rd _
effect-stays name.Mulhsu i core = goes_on-stays core i.rd _
effect-stays name.Mulhu i core = goes_on-stays core i.rd _
effect-stays name.Div i core = goes_on-stays core i.rd _
effect-stays name.Divu i core = goes_on-stays core i.rd _
effect-stays name.Rem i core = goes_on-stays core i.rd _
effect-stays name.Remu i core = goes_on-stays core i.rd _
effect-stays name.Mulw i core = goes_on-stays core i.rd _
effect-stays name.Divw i core = goes_on-stays core i.rd _
effect-stays name.Divuw i core = goes_on-stays core i.rd _
effect-stays name.Remw i core = goes_on-stays core i.rd _
effect-stays name.Remuw i core = goes_on-stays core i.rd _
effect-stays name.LrW i core = atomic-stays _ _ _ _ core
effect-stays name.ScW i core = atomic-stays _ _ _ _ core
effect-stays name.AmoswapW i core = atomic-stays _ _ _ _ core
effect-stays name.AmoaddW i core = atomic-stays _ _ _ _ core
effect-stays name.AmoxorW i core = atomic-stays _ _ _ _ core
effect-stays name.AmoandW i core = atomic-stays _ _ _ _ core
effect-stays name.AmoorW i core = atomic-stays _ _ _ _ core
effect-stays name.AmominW i core = atomic-stays _ _ _ _ core
effect-stays name.AmomaxW i core = atomic-stays _ _ _ _ core
effect-stays name.AmominuW i core = atomic-stays _ _ _ _ core
effect-stays name.AmomaxuW i core = atomic-stays _ _ _ _ core
effect-stays name.LrD i core = atomic-stays _ _ _ _ core
effect-stays name.ScD i core = atomic-stays _ _ _ _ core
effect-stays name.AmoswapD i core = atomic-stays _ _ _ _ core
effect-stays name.AmoaddD i core = atomic-stays _ _ _ _ core
effect-stays name.AmoxorD i core = atomic-stays _ _ _ _ core
effect-stays name.AmoandD i core = atomic-stays _ _ _ _ core
effect-stays name.AmoorD i core = atomic-stays _ _ _ _ core
effect-stays name.AmominD i core = atomic-stays _ _ _ _ core
effect-stays name.AmomaxD i core = atomic-stays _ _ _ _ core
effect-stays name.AmominuD i core = atomic-stays _ _ _ _ core
effect-stays name.AmomaxuD i core = atomic-stays _ _ _ _ core

after_fetch-stays : (fetched : Fetched) (core : CoreState) → Stays core (after_fetch fetched core)
after_fetch-stays Outside core = halts-stays _ core
after_fetch-stays (NoInstruction word) core = halts-stays _ core
after_fetch-stays (Instruction inst) core = effect-stays inst.name inst core

-- ---- where a core stands a word of the program stands

-- while it waits for a reply
abbrev pub StandsAtWord : MemoryImage → CoreState → Type 0
StandsAtWord image core = IfSome core.instruction (λ now. IsSome (fetched_word image.segments core.pc))

none_of : (instruction : Option InProgress) → is_none instruction ≡ true → instruction ≡ None
none_of None is = refl
none_of (Some now) is = cc

none_free : (core : CoreState) → is_free core ≡ true → core.instruction ≡ None
none_free core free = none_of core.instruction (and_parts (is_none core.halted) (is_none core.instruction) free).1

at_word : (image : MemoryImage) (after : CoreState) (pc : ℕ) → IsSome (fetched_word image.segments pc) → IfSome after.instruction (λ now. after.pc ≡ pc) → StandsAtWord image after
at_word image after pc word here =
    IfSome_then after.instruction here (λ now same. subst (λ (n : ℕ). IsSome (fetched_word image.segments n)) (sym same) word)

fetched_by : (image : MemoryImage) (pc : ℕ) → fetched_at image pc ≡ of_word (fetched_word image.segments pc)
unfolding fetched_at
fetched_by image pc = refl

-- where no word stands the core halts, and nothing is counted
pub halted_outside : (image : MemoryImage) (core : CoreState) → fetched_word image.segments core.pc ≡ None → executed image core ≡ halts (Fetch core.pc) core
halted_outside image core none = ap (λ (f : Fetched). after_fetch f core) (fetched_by image core.pc ∙ ap of_word none)

-- a core that is free begins an instruction where a word stands
executed_stands : (image : MemoryImage) (core : CoreState) → core.instruction ≡ None → StandsAtWord image (executed image core)
executed_stands image core idle =
    let by : (o : Option ℕ) → fetched_word image.segments core.pc ≡ o → StandsAtWord image (executed image core) = λ o. elim o as (λ v. fetched_word image.segments core.pc ≡ v → StandsAtWord image (executed image core)) [
      | None ↦ λ none. nothing_in_progress (executed image core).instruction (λ now. IsSome (fetched_word image.segments (executed image core).pc)) (ap (λ (x : CoreState). x.instruction) (halted_outside image core none) ∙ idle)
      | Some word ↦ λ is. at_word image (executed image core) core.pc (ap is_some is) ((after_fetch-stays (fetched_at image core.pc) core).at idle)
    ] in
    by (fetched_word image.segments core.pc) refl

needing_word : (image : MemoryImage) (core : CoreState) → needs_fetch image core ≡ true → IsSome (fetched_word image.segments core.pc)
unfolding needs_fetch
needing_word image core needs =
    let third = and_parts _ (is_in_memory core.memory core.pc 4) needs in
    (and_parts _ (is_some (fetched_word image.segments core.pc)) third.0).1

pub stepped_stands : (image : MemoryImage) (core : CoreState) → is_free core ≡ true → StandsAtWord image (stepped image core)
stepped_stands image core free =
    elim (cases_Bool (needs_fetch image core)) as (λ _. StandsAtWord image (stepped image core)) [
      | inl needs ↦ let word = needing_word image core needs in rw needs word
      | inr not ↦ let stands = executed_stands image (unfetched core) (none_free core free) in rw not stands
    ]

pub answered_stands : (image : MemoryImage) (reply : ℕ) (core : CoreState) → StandsAtWord image core → StandsAtWord image (answered reply core)
unfolding answered
answered_stands image reply core stands =
    let by : (o : Option InProgress) → core.instruction ≡ o → StandsAtWord image (after_reply o reply core) = λ o. elim o as (λ v. core.instruction ≡ v → StandsAtWord image (after_reply v reply core)) [
      | None ↦ λ is. stands
      | Some now ↦ λ is.
          let word : IsSome (fetched_word image.segments core.pc) = subst (λ (x : Option InProgress). IfSome x (λ y. IsSome (fetched_word image.segments core.pc))) is stands in
          at_word image (after_reply (Some now) reply core) core.pc word ((through-stays now.later _ now.ending _).at refl)
    ] in
    by core.instruction refl

-- ---- a word of the program lies in memory

placed_end : (base size : ℕ) (segment : Segment) → is_placed base size segment ≡ true → segment.vaddr + segment.memsz ≤ base + size
unfolding is_placed
placed_end base size segment placed =
    let within = (and_parts _ (is_within segment.vaddr segment.memsz base size) placed).1 in
    leb-true _ _ (and_parts (nat_le base segment.vaddr) (nat_le (segment.vaddr + segment.memsz) (base + size)) within).1

behind : (test : Bool) (word : ℕ) (rest : Option ℕ) → test ≡ false → IsSome (if test then Some word else rest) → IsSome rest
behind true word rest not some = cc
behind false word rest not some = some

pub word_within : (base size : ℕ) (segments : List Segment) (pc : ℕ) → IsTrue (list_all (is_placed base size) segments) → IsSome (fetched_word segments pc) → pc + 4 ≤ base + size
word_within base size [] pc placed some = cc
word_within base size (segment ∷ segments) pc placed some =
    let parts = and_parts (is_placed base size segment) (list_all (is_placed base size) segments) placed in
    elim (cases_Bool (segment.exec && covers segment pc 4)) [
      | inl here ↦
          let covered = (and_parts segment.exec (covers segment pc 4) here).1 in
          let ends = leb-true _ _ (and_parts (nat_le segment.vaddr pc) (nat_le (pc + 4) (segment.vaddr + segment.memsz)) covered).1 in
          omega (arith, ends, placed_end base size segment parts.0)
      | inr not ↦ word_within base size segments pc parts.1 (behind (segment.exec && covers segment pc 4) (word_in segment pc) (fetched_word segments pc) not some)
    ]
