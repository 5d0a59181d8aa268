-- A core goes on by instructions that change registers and pc alone, and that do not have to be fetched.
use Rattle.std.proofs.Common.{◌≡◌, ℕ, zero, suc, ◌+◌, ◌<◌, ◌≤◌, true, false, List, Option, Some, None, refl, sym, ◌∙◌, ap, arith, subst}
use Rattle.std.specs.Prelude.{is_none, IfSome}
use Rattle.std.proofs.lemmas.Bool.{and_parts}
use Rattle.zs_num.specs.Request.{line_at}
use Rattle.elf_load.specs.MemoryImage.{MemoryImage}
use Rattle.rv_core.specs.declared.single.Single.{Single}
use Rattle.rv_core.specs.declared.why.Why.{Why}
use Rattle.rv_core.specs.CoreState.{CoreState}
use Rattle.rv_core.specs.Executions.{at, LeadsTo, LiesIn}
use Rattle.rv_core.specs.Single.{begun}
use Rattle.rv_core.specs.Step.{cost, executed, is_free, is_latest, needs_fetch, unfetched}
use Rattle.rv_core.proofs.Fetches.{latest-needs, never-needs}
use Rattle.reference.specs.Ahead.{ahead}
use Rattle.bound_core.specs.Met.{begun_in_time, met_count}
use Rattle.reference.specs.TimedCore.{TimedCore, after_execution, after_instruction, ran_to}
use Rattle.reference.proofs.Instructions.{goes_on_by, plain_execution, same_end}

-- the core with these registers, at this address
abbrev pub timed_at : TimedCore → (registers : List ℕ) → (pc : ℕ) → TimedCore
timed_at c registers pc = record c { core = at c.core registers pc }

none_of : (halted : Option Why) → is_none halted ≡ true → halted ≡ None
none_of None e = refl
none_of (Some why) e = cc

-- an instruction of a core that has not halted, and does not halt it, is counted
pub counted : (core : CoreState) → is_free core ≡ true → cost core.halted ≡ 1
counted core free = ap cost (none_of core.halted (and_parts (is_none core.halted) (is_none core.instruction) free).0)

unfetched_same : (core : CoreState) → core.is_fetched ≡ false → unfetched core ≡ core
unfetched_same core e = ap (λ f. record core { is_fetched = f }) (sym e)

executes : (image : MemoryImage) (c : TimedCore) → needs_fetch image c.core ≡ false → after_instruction image c ≡ after_execution image c
unfolding after_instruction
executes image c there = rw there refl

-- an instruction that is there, and does not halt the core, is one more that is counted
pub one_on : (image : MemoryImage) (c : TimedCore) (next : CoreState) (n : ℕ) → c.pace ≡ None → needs_fetch image c.core ≡ false → c.core.is_fetched ≡ false
    → executed image c.core ≡ next → cost next.halted ≡ 1 → after_instruction image (ahead n c) ≡ ahead (suc n) (record c { core = next })
one_on image c next n none there fetched leads costs =
    let now : TimedCore = ahead n c in
    let By : CoreState → TimedCore = λ core. record now { core = core; clock = now.clock + cost core.halted; instructions = now.instructions + cost core.halted } in
    let In : ℕ → TimedCore = λ k. record now { core = next; clock = now.clock + k; instructions = now.instructions + k } in
    let At : ℕ → ℕ → TimedCore = λ k i. record now { core = next; clock = k; instructions = i } in
    let same : executed image (unfetched now.core) ≡ next = ap (executed image) (unfetched_same now.core fetched) ∙ leads in
    let clock : c.clock + n + 1 ≡ c.clock + suc n = omega arith in
    let instructions : c.instructions + n + 1 ≡ c.instructions + suc n = omega arith in
    executes image now there ∙ plain_execution image now none ∙ ap By same ∙ ap In costs
    ∙ ap (λ k. At k (c.instructions + n + 1)) clock ∙ ap (λ i. At (c.clock + suc n) i) instructions

-- an instruction in this line, if one is given, is there
abbrev pub IsThere : MemoryImage → CoreState → Option ℕ → Type 0
IsThere image core line = (registers : List ℕ) (pc : ℕ) → LiesIn line pc → needs_fetch image (at core registers pc) ≡ false

-- none ahead, at its own registers and address, it is the core itself
pub at_itself : (c : TimedCore) (registers : List ℕ) (pc : ℕ) → registers ≡ c.core.registers → pc ≡ c.core.pc → ahead 0 (timed_at c registers pc) ≡ c
at_itself c registers pc same here =
    let At : ℕ → ℕ → List ℕ → ℕ → TimedCore = λ k i registers pc. record c { core = at c.core registers pc; clock = k; instructions = i } in
    let clock : c.clock + 0 ≡ c.clock = omega arith in
    let instructions : c.instructions + 0 ≡ c.instructions = omega arith in
    ap (λ k. At k (c.instructions + 0) registers pc) clock ∙ ap (λ i. At c.clock i registers pc) instructions
    ∙ ap (λ r. At c.clock c.instructions r pc) same ∙ ap (λ p. At c.clock c.instructions c.core.registers p) here

module _ (image : MemoryImage) (end : ℕ) (line : Option ℕ) (c : TimedCore) (none : c.pace ≡ None) (there : IsThere image c.core line) (free : is_free c.core ≡ true) (fetched : c.core.is_fetched ≡ false) where
  pub led_on : (n : ℕ) (after : List ℕ) (pc_after : ℕ) → c.clock + n ≤ end → LeadsTo line n image c.core.registers c.core.pc after pc_after
      → ran_to image end (ahead n (timed_at c after pc_after)) ≡ ran_to image end c
  led_on zero after pc_after room led = ap (ran_to image end) (at_itself c after pc_after led.0 led.1)
  led_on (suc n) after pc_after room (between, (pc_between, (led, lies, leads))) =
      let here : TimedCore = timed_at c between pc_between in
      let now : TimedCore = ahead n here in
      let early : now.clock < end = omega (arith, room) in
      ap (ran_to image end) (sym (one_on image here (at c.core after pc_after) n none (there between pc_between lies) fetched (leads c.core) (counted c.core free)))
      ∙ same_end image end now (goes_on_by end now free early)
      ∙ led_on n between pc_between (omega (arith, room)) led

pub none_ahead : (c : TimedCore) → ahead 0 c ≡ c
none_ahead c = at_itself c c.core.registers c.core.pc refl refl

-- a core that is none ahead has the end of the core itself
pub from_none_ahead : (image : MemoryImage) (end : ℕ) (c after : TimedCore) → ran_to image end after ≡ ran_to image end (ahead 0 c) → ran_to image end after ≡ ran_to image end c
from_none_ahead image end c after same = same ∙ ap (ran_to image end) (none_ahead c)

-- those of a core that is already so many ahead
led_further : (image : MemoryImage) (end before more : ℕ) (line : Option ℕ) (c next : TimedCore) (after : List ℕ) (pc_after : ℕ) → c.pace ≡ None → IsThere image c.core line → is_free c.core ≡ true → c.core.is_fetched ≡ false
    → c.clock + (before + more) ≤ end → next ≡ timed_at c after pc_after → LeadsTo line more image c.core.registers c.core.pc after pc_after
    → ran_to image end (ahead (before + more) next) ≡ ran_to image end (ahead before c)
led_further image end before more line c next after pc_after none there free fetched room is led =
    let At : ℕ → ℕ → TimedCore = λ k i. record c { core = at c.core after pc_after; clock = k; instructions = i } in
    let clock : c.clock + (before + more) ≡ c.clock + before + more = omega arith in
    let instructions : c.instructions + (before + more) ≡ c.instructions + before + more = omega arith in
    let early : c.clock + before + more ≤ end = omega (arith, room) in
    ap (ran_to image end) (ap (ahead (before + more)) is ∙ ap (λ k. At k (c.instructions + (before + more))) clock ∙ ap (λ i. At (c.clock + before + more) i) instructions)
    ∙ led_on image end line (ahead before c) none there free fetched more after pc_after early led

-- and the one whose access it meets behind them, if it meets one
pub led_and_met : (image : MemoryImage) (end before more : ℕ) (line : Option ℕ) (c next : TimedCore) (after : List ℕ) (pc_after : ℕ) (met : Option Single)
    → c.pace ≡ None → IsThere image c.core line → is_free c.core ≡ true → c.core.is_fetched ≡ false
    → c.clock + (before + (more + met_count met)) ≤ end → next ≡ timed_at c after pc_after → LeadsTo line more image c.core.registers c.core.pc after pc_after
    → IfSome met (λ single. LiesIn line pc_after) → IfSome met (λ single. executed image next.core ≡ begun single next.core)
    → ran_to image end (begun_in_time met (ahead (before + (more + met_count met)) next)) ≡ ran_to image end (ahead before c)
led_and_met image end before more line c next after pc_after None none there free fetched room is led lies meets =
    let count : before + (more + 0) ≡ before + more = omega arith in
    ap (λ k. ran_to image end (ahead k next)) count
    ∙ led_further image end before more line c next after pc_after none there free fetched (omega (arith, room)) is led
led_and_met image end before more line c next after pc_after (Some single) none there free fetched room is led lies meets =
    let now : TimedCore = ahead (before + more) next in
    let count : before + (more + 1) ≡ suc (before + more) = omega arith in
    let none_next : next.pace ≡ None = ap (λ (t : TimedCore). t.pace) is ∙ none in
    let free_next : is_free next.core ≡ true = ap (λ (t : TimedCore). is_free t.core) is ∙ free in
    let fetched_next : next.core.is_fetched ≡ false = ap (λ (t : TimedCore). t.core.is_fetched) is ∙ fetched in
    let there_next : needs_fetch image next.core ≡ false = ap (λ (t : TimedCore). needs_fetch image t.core) is ∙ there after pc_after lies in
    let clock : next.clock ≡ c.clock = ap (λ (t : TimedCore). t.clock) is in
    let early : now.clock < end = omega (arith, room, clock) in
    let step : after_instruction image now ≡ ahead (suc (before + more)) (record next { core = begun single next.core }) =
    one_on image next (begun single next.core) (before + more) none_next there_next fetched_next meets (counted next.core free_next) in
    ap (λ k. ran_to image end (begun_in_time (Some single) (ahead k next))) count
    ∙ ap (ran_to image end) (sym step)
    ∙ same_end image end now (goes_on_by end now free_next early)
    ∙ led_further image end before more line c next after pc_after none there free fetched (omega (arith, room)) is led

-- a core that does not fetch has no instruction to fetch, wherever it stands
pub anywhere : (image : MemoryImage) (core : CoreState) → core.fetching ≡ false → IsThere image core None
anywhere image core fetches registers pc lies = never-needs image (at core registers pc) fetches

-- those that are executed, and the one whose access is met, are as many as may be
pub met_fits : (met : Option Single) (count most : ℕ) → count ≤ most → IfSome met (λ single. count < most) → count + met_count met ≤ most
met_fits None count most few early = omega (arith, few)
met_fits (Some single) count most few early = omega (arith, early)

-- and one that fetches has none to fetch in the line of its latest fetch
pub in_line : (image : MemoryImage) (core : CoreState) → is_latest core.fetched_line (line_at core.pc) ≡ true → IsThere image core (Some (line_at core.pc))
in_line image core latest registers pc lies =
    latest-needs image (at core registers pc) (subst (λ line. is_latest core.fetched_line line ≡ true) (sym lies) latest)
