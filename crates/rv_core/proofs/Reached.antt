-- Every core that is reached is sound, and what it asks for is paired right.
use Rattle.std.proofs.Common.{◌≡◌, ◌<◌, ◌≤◌, ◌+◌, ◌%◌, ◌^◌, ℕ, Bool, true, false, List, length, arith, Option, Some, None, refl, ap, subst, sym, ◌∙◌, true≢false}
use Rattle.std.specs.Prelude.{IfSome, IsSome, IsTrue, if◌then◌else◌}
use Rattle.elf_load.specs.MemoryImage.{MemoryImage, fetched_word}
use Rattle.zs_num.specs.declared.request.Request.{Request}
use Rattle.rv_decode.specs.declared.inst.Inst.{Inst}
use Rattle.rv_decode.specs.InstructionTable.{decoded}
use Rattle.rv_core.specs.declared.memory_range.MemoryRange.{MemoryRange}
use Rattle.rv_core.specs.declared.program.Fetched.{Fetched}
use Rattle.rv_core.specs.declared.program.Fetched.TheVariants.{Outside, NoInstruction, Instruction}
use Rattle.rv_core.specs.declared.why.Why.TheVariants.{Fetch, Illegal}
use Rattle.rv_core.specs.Accesses.{reply_to}
use Rattle.rv_core.specs.Sound.{AreServableIn, left_of, EndsInRegister, FetchesAlone, IsSoundCore}
use Rattle.rv_core.specs.CoreState.{CoreState, InProgress}
use Rattle.rv_core.specs.Fetch.{fetched_at, of_decoded, of_word}
use Rattle.rv_core.specs.Decoded.{HasRegisters}
use Rattle.rv_core.specs.Laws.{Asks, none, advancing, answering, IsReached, starts, advances, is_answered}
use Rattle.zs_num.specs.PairedRight.{pairing_after_all, ArePairedRight, IsPairedRight}
use Rattle.zs_num.specs.Pairing.{pairing_after}
use Rattle.rv_core.specs.Step.{after_fetch, after_reply, answered, asks_for_instruction, executed, initial_core, is_free, needs_fetch, replies_with, unfetched}
use Rattle.rv_core.specs.Asked.{advanced, stepped}
use Rattle.rv_core.proofs.Kept.{asks_for_instruction-keeps, cond-keeps, effect-keeps, goes_through-keeps, halts-keeps, IsReady, Keeps}
use Rattle.rv_core.proofs.Fetches.{needing, needing-ready, unfetched-ready}

pub initial-sound : (number cores entry sp : ℕ) (memory : MemoryRange) (fetching : Bool) → memory.base + memory.size ≤ 2 ^ 48 → (IsTrue fetching → entry % 4 ≡ 0)
    → IsSoundCore (initial_core number cores entry sp memory fetching)
unfolding initial_core
initial-sound number cores entry sp memory fetching reach aligned = record {
  registers = refl;
  zero = refl;
  reach = reach;
  served = tt;
  paired = tt;
  ending = tt;
  few = tt;
  alone = tt;
  waits = λ is. absurd (true≢false (sym is));
  aligned = aligned;
  fetched = λ is. absurd (true≢false (sym is));
  line = λ is. absurd (true≢false (sym is));
}

pub asking-keeps : (image : MemoryImage) (core : CoreState) → is_free core ≡ true → IsSoundCore core → needs_fetch image core ≡ true → Keeps core (asks_for_instruction core)
asking-keeps image core free s e =
    let has = needing image core e in asks_for_instruction-keeps core (needing-ready core free s has.other) has.fetching has.inside

-- the fields of decoded instructions name registers that are there
module _ (ranges : (word : ℕ) (i : Inst) → decoded word ≡ Some i → (i.rd < 32) × (i.rs1 < 32) × (i.rs2 < 32)) where
  of_decoded-registers : (word : ℕ) (found : Option Inst) → decoded word ≡ found → HasRegisters (of_decoded word found)
  of_decoded-registers word None e = tt
  of_decoded-registers word (Some i) e = ranges word i e

  of_word-registers : (word : Option ℕ) → HasRegisters (of_word word)
  of_word-registers None = tt
  of_word-registers (Some word) = of_decoded-registers word (decoded word) refl

  fetched-registers : (image : MemoryImage) (pc : ℕ) → HasRegisters (fetched_at image pc)
  unfolding fetched_at
  fetched-registers image pc = of_word-registers (fetched_word image.segments pc)

  after_fetch-keeps : (found : Fetched) (core : CoreState) → HasRegisters found → IsReady core → Keeps core (after_fetch found core)
  after_fetch-keeps Outside core here s = halts-keeps (Fetch core.pc) core s
  after_fetch-keeps (NoInstruction word) core here s = halts-keeps (Illegal word) core s
  after_fetch-keeps (Instruction i) core here s = effect-keeps i.name i core here.0 s

  pub executed-keeps : (image : MemoryImage) (core : CoreState) → IsReady core → Keeps core (executed image core)
  executed-keeps image core s = after_fetch-keeps (fetched_at image core.pc) core (fetched-registers image core.pc) s

  pub executing-keeps : (image : MemoryImage) (core : CoreState) → is_free core ≡ true → IsSoundCore core → Keeps core (executed image (unfetched core))
  executing-keeps image core free s =
      let k = executed-keeps image (unfetched core) (unfetched-ready core free s) in record { sound = k.sound; memory = k.memory; pairing = k.pairing; fetching = k.fetching }

  -- by whether the instruction at pc has to be fetched
  stepped-by : (image : MemoryImage) (core : CoreState) → is_free core ≡ true → IsSoundCore core → (needs : Bool) → needs_fetch image core ≡ needs
      → Keeps core (if needs then asks_for_instruction core else executed image (unfetched core))
  stepped-by image core free s true e = asking-keeps image core free s e
  stepped-by image core free s false e = executing-keeps image core free s

  pub stepped-keeps : (image : MemoryImage) (core : CoreState) → is_free core ≡ true → IsSoundCore core → Keeps core (stepped image core)
  stepped-keeps image core free s = stepped-by image core free s (needs_fetch image core) refl

  pub advanced-keeps : (image : MemoryImage) (core : CoreState) → IsSoundCore core → Keeps core (advanced image core)
  advanced-keeps image core s =
      cond-keeps core (stepped image core) core (is_free core) (λ free. stepped-keeps image core free s) (record { sound = s; memory = refl; pairing = refl; fetching = refl })

-- what a sound core keeps of an instruction in progress
record IsWaiting (core : CoreState) (now : InProgress) : Type 0 where
  served : AreServableIn core.memory core.fetching (left_of now)
  paired : ArePairedRight core.pairing (left_of now)
  ending : EndsInRegister now.ending
  few : length now.later < 256
  alone : FetchesAlone core.fetching now.ending now.later
  halted : core.halted ≡ None
  fetched : core.is_fetched ≡ false

-- a core with an instruction in progress has none to execute
waiting-unfetched : (core : CoreState) (now : InProgress) → core.instruction ≡ Some now → IsSoundCore core → (fetched : Bool) → core.is_fetched ≡ fetched → core.is_fetched ≡ false
waiting-unfetched core now e s true is = let none : core.instruction ≡ None = (s.fetched is).1 in cc
waiting-unfetched core now e s false is = is

waiting : (core : CoreState) (now : InProgress) → core.instruction ≡ Some now → IsSoundCore core → IsWaiting core now
waiting core now e s = record {
  served = subst (λ (o : Option InProgress). IfSome o (λ now. AreServableIn core.memory core.fetching (left_of now))) e s.served;
  paired = subst (λ (o : Option InProgress). IfSome o (λ now. ArePairedRight core.pairing (left_of now))) e s.paired;
  ending = subst (λ (o : Option InProgress). IfSome o (λ now. EndsInRegister now.ending)) e s.ending;
  few = subst (λ (o : Option InProgress). IfSome o (λ now. length now.later < 256)) e s.few;
  alone = subst (λ (o : Option InProgress). IfSome o (λ now. FetchesAlone core.fetching now.ending now.later)) e s.alone;
  halted = subst (λ (o : Option InProgress). IsSome o → core.halted ≡ None) e s.waits refl;
  fetched = waiting-unfetched core now e s core.is_fetched refl;
}

-- the next access of an instruction is done
idle-ready : (now : InProgress) (core : CoreState) → core.halted ≡ None → core.is_fetched ≡ false → IsSoundCore core
    → IsReady (record core { pairing = pairing_after core.pairing now.next; instruction = None })
idle-ready now core halted fetched s = record {
  sound = record {
    registers = s.registers;
    zero = s.zero;
    reach = s.reach;
    served = tt;
    paired = tt;
    ending = tt;
    few = tt;
    alone = tt;
    waits = λ is. absurd (true≢false (sym is));
    aligned = s.aligned;
    fetched = λ is. let here = s.fetched is in (here.0, refl, here.2);
    line = s.line;
  };
  halted = halted;
  instruction = refl;
  fetched = fetched;
}

-- of a sound core with this instruction in progress
after_reply-keeps : (now : InProgress) (reply : ℕ) (core : CoreState) → core.instruction ≡ Some now → IsSoundCore core
    → Keeps (record core { pairing = pairing_after core.pairing now.next; instruction = None }) (after_reply (Some now) reply core)
after_reply-keeps now reply core e s =
    let w = waiting core now e s in
    goes_through-keeps now.later (replies_with now.ending now.replies (reply_to now.next reply)) now.ending _ (idle-ready now core w.halted w.fetched s) w.served.1 w.paired.1 w.ending (omega (arith, w.few))
    w.alone

pub next-paired : (core : CoreState) (now : InProgress) → IsSoundCore core → core.instruction ≡ Some now → IsPairedRight core.pairing now.next
next-paired core now s e = (waiting core now e s).paired.0

-- a core stays sound, and keeps its memory and whether it fetches
pub record IsKept (before after : CoreState) : Type 0 where
  pub sound : IsSoundCore after
  pub memory : after.memory ≡ before.memory
  pub fetching : after.fetching ≡ before.fetching

-- the core after a reply, by its instruction
replied : (found : Option InProgress) (reply : ℕ) (core : CoreState) → core.instruction ≡ found → IsSoundCore core
    → IsKept core (after_reply found reply core)
replied None reply core e s = record { sound = s; memory = refl; fetching = refl }
replied (Some now) reply core e s = let k = after_reply-keeps now reply core e s in record { sound = k.sound; memory = k.memory; fetching = k.fetching }

pub answered-kept : (reply : ℕ) (core : CoreState) → IsSoundCore core → IsKept core (answered reply core)
unfolding answered
answered-kept reply core s = replied core.instruction reply core refl s

pub answered-pairing : (reply : ℕ) (core : CoreState) (now : InProgress) → core.instruction ≡ Some now → IsSoundCore core → (answered reply core).pairing ≡ pairing_after core.pairing now.next
unfolding answered
answered-pairing reply core now e s =
    ap (λ (o : Option InProgress). (after_reply o reply core).pairing) e ∙ (after_reply-keeps now reply core e s).pairing

module _ (ranges : (word : ℕ) (i : Inst) → decoded word ≡ Some i → (i.rd < 32) × (i.rs1 < 32) × (i.rs2 < 32)) where
  pub reached-sound : {core : CoreState} → IsReached core → IsSoundCore core
  reached-sound (starts number cores entry sp memory fetching reach aligned) = initial-sound number cores entry sp memory fetching reach aligned
  reached-sound (advances image core before) = (advanced-keeps ranges image core (reached-sound before)).sound
  reached-sound (is_answered reply core before) = (answered-kept reply core (reached-sound before)).sound

  pub asks-paired : {core last : CoreState} {requests : List Request} → Asks core requests last → IsSoundCore core
      → ArePairedRight core.pairing requests × (last.pairing ≡ pairing_after_all core.pairing requests)
  asks-paired (none core) s = (tt, refl)
  asks-paired (advancing image core last requests rest) s =
      let k = advanced-keeps ranges image core s in
      let after = asks-paired rest k.sound in
      rw k.pairing at after
  asks-paired (answering reply core last now requests e rest) s =
      let after = asks-paired rest (answered-kept reply core s).sound in
      let here : (answered reply core).pairing ≡ pairing_after core.pairing now.next = answered-pairing reply core now e s in
      let moved = rw here at after in
      ((next-paired core now s e, moved.0), moved.1)
