-- A core goes on to the end of an interval instruction by instruction.
use Rattle.std.proofs.Common.{◌≡◌, ◌⊎◌, inl, inr, ℕ, zero, suc, ◌+◌, ◌-◌, ◌*◌, ◌<◌, ◌≤◌, ◌&&◌, ◌||◌, cond, nat_lt, Bool, true, false, IsTrue, true≢false, Option, Some, None, max, refl, sym, ◌∙◌, ap, subst, arith, rules}
use Rattle.std.specs.Prelude.{is_none, is_some, IfSome, IsSome}
use Rattle.std.proofs.lemmas.Bool.{and_parts, cases_Bool, cases_lt}
use Rattle.elf_load.specs.MemoryImage.{MemoryImage}
use Rattle.pipe_core.specs.Pace.{PaceState}
use Rattle.pipe_core.specs.PaceLaws.{GoesOnFrom}
use Rattle.pipe_core.proofs.Soon.{costs_a_cycle, issues_are_soon}
use Rattle.rv_core.specs.declared.program.Fetched.{Fetched}
use Rattle.rv_core.specs.declared.program.Fetched.TheVariants.{Outside, NoInstruction, Instruction}
use Rattle.rv_core.specs.declared.why.Why.{Why}
use Rattle.rv_core.specs.declared.why.Why.TheVariants.{Exit, Illegal, Misaligned, AtomicAlign, Fetch, Access, Break}
use Rattle.rv_core.specs.CoreState.{CoreState, InProgress}
use Rattle.rv_core.specs.Fetch.{fetched_at}
use Rattle.rv_core.specs.Step.{asks_for_instruction, cost, executed, is_free, needs_fetch, unfetched}
use Rattle.rv_core.proofs.Executes.{executed-executes}
use Rattle.reference.specs.Ahead.{going}
use Rattle.reference.specs.Pacing.{IsSoon}
use Rattle.reference.specs.TimedCore.{TimedCore, after_execution, after_instruction, after_instructions, asks, goes_on_alone, next_request, paced, ran_to, takes}
use Rattle.reference.specs.Turn.{IsOver}

-- an instruction costs a cycle, or it halts the core
costs_or_halts : (halted : Option Why) → (cost halted ≡ 1) ⊎ ((cost halted ≡ 0) × (is_none halted ≡ false))
costs_or_halts None = inl refl
costs_or_halts (Some (Exit number)) = inl refl
costs_or_halts (Some (Illegal word)) = inr (refl, refl)
costs_or_halts (Some (Misaligned target)) = inr (refl, refl)
costs_or_halts (Some (AtomicAlign addr)) = inr (refl, refl)
costs_or_halts (Some (Fetch addr)) = inr (refl, refl)
costs_or_halts (Some (Access addr)) = inr (refl, refl)
costs_or_halts (Some Break) = inr (refl, refl)

pub cost_small : (halted : Option Why) → cost halted ≤ 1
cost_small halted = elim (costs_or_halts halted) [ inl one ↦ omega (arith, one) | inr none ↦ omega (arith, none.0) ]

-- ---- what an instruction costs

-- one that is counted costs a cycle at least
pub paced_grows : (pace : Option PaceState) (fetched : Fetched) (pc : ℕ) (taken : Bool) (clock : ℕ) → clock + 1 ≤ (paced pace 1 fetched pc taken clock).clock
paced_grows None fetched pc taken clock = omega arith
paced_grows (Some pace) Outside pc taken clock = omega arith
paced_grows (Some pace) (NoInstruction word) pc taken clock = omega arith
paced_grows (Some pace) (Instruction inst) pc taken clock = costs_a_cycle pace inst pc clock taken

-- one that is not costs nothing
paced_stays : (pace : Option PaceState) (fetched : Fetched) (pc : ℕ) (taken : Bool) (clock : ℕ) → (paced pace 0 fetched pc taken clock).clock ≡ clock
paced_stays None fetched pc taken clock = omega arith
paced_stays (Some pace) fetched pc taken clock = refl

-- a pace goes on from any later clock, too
later_goes_on : (clock later : ℕ) (pace : PaceState) → clock ≤ later → GoesOnFrom clock pace → GoesOnFrom later pace
later_goes_on clock later pace late goes_on = record {
  is = goes_on.is;
  soon = λ register d below. let before = goes_on.soon register d below in omega arith;
}

-- how late a core is behind an instruction, whose pipeline goes on from its clock
pub record IsSoonBy (latest : ℕ) (clock : ℕ) (pace : Option PaceState) : Type 0 where
  pub within : clock ≤ latest
  pub soon : IfSome pace (GoesOnFrom clock)

-- an instruction costs 192 cycles at most where the pace goes on from the clock, and the pace goes on from the clock behind it
pub paced_soon : (pace : Option PaceState) (counted : ℕ) (fetched : Fetched) (pc : ℕ) (taken : Bool) (clock : ℕ) → counted ≤ 1 → IfSome pace (GoesOnFrom clock)
    → IsSoonBy (clock + 192) (paced pace counted fetched pc taken clock).clock (paced pace counted fetched pc taken clock).pace
paced_soon None counted fetched pc taken clock one soon = record { within = omega (arith, one); soon = tt }
paced_soon (Some pace) zero fetched pc taken clock one soon = record { within = omega arith; soon = soon }
paced_soon (Some pace) (suc n) Outside pc taken clock one soon = record { within = omega arith; soon = later_goes_on clock (clock + 1) pace (omega arith) soon }
paced_soon (Some pace) (suc n) (NoInstruction word) pc taken clock one soon = record { within = omega arith; soon = later_goes_on clock (clock + 1) pace (omega arith) soon }
paced_soon (Some pace) (suc n) (Instruction inst) pc taken clock one soon =
    let is = issues_are_soon pace inst pc clock taken soon in record { within = is.within; soon = is.goes_on }

-- the clock behind what stands at pc, where so many instructions of it are counted
executed_counts : (image : MemoryImage) (c : TimedCore) (counted : ℕ) → cost (after_execution image c).core.halted ≡ counted
    → (after_execution image c).clock ≡ (paced c.pace counted (fetched_at image c.core.pc) c.core.pc (takes c.core (fetched_at image c.core.pc)) c.clock).clock
executed_counts image c counted is =
    ap (λ n. (paced c.pace n (fetched_at image c.core.pc) c.core.pc (takes c.core (fetched_at image c.core.pc)) c.clock).clock) is

-- an instruction that is counted takes a core a cycle on at least, and one that halts it by a fault takes it nowhere
executed_grows : (image : MemoryImage) (c : TimedCore) → cost (after_execution image c).core.halted ≡ 1 → c.clock + 1 ≤ (after_execution image c).clock
executed_grows image c is =
    omega (arith, executed_counts image c 1 is, paced_grows c.pace (fetched_at image c.core.pc) c.core.pc (takes c.core (fetched_at image c.core.pc)) c.clock)

executed_stays : (image : MemoryImage) (c : TimedCore) → cost (after_execution image c).core.halted ≡ 0 → (after_execution image c).clock ≡ c.clock
executed_stays image c is =
    executed_counts image c 0 is ∙ paced_stays c.pace (fetched_at image c.core.pc) c.core.pc (takes c.core (fetched_at image c.core.pc)) c.clock

pub executed_later : (image : MemoryImage) (c : TimedCore) → c.clock ≤ (after_execution image c).clock
executed_later image c =
    elim (costs_or_halts (after_execution image c).core.halted) [
      | inl one ↦ omega (arith, executed_grows image c one)
      | inr none ↦ omega (arith, executed_stays image c none.0)
    ]

executed_soon : (image : MemoryImage) (c : TimedCore) → IsSoon c → IsSoonBy (c.clock + 192) (after_execution image c).clock (after_execution image c).pace
executed_soon image c soon =
    paced_soon c.pace (cost (after_execution image c).core.halted) (fetched_at image c.core.pc) c.core.pc (takes c.core (fetched_at image c.core.pc)) c.clock (cost_small (after_execution image c).core.halted) soon

-- a core without a pipeline costs what it counts
pub plain_execution : (image : MemoryImage) (c : TimedCore) → c.pace ≡ None
    → after_execution image c ≡ record c {
      core = executed image (unfetched c.core);
      clock = c.clock + cost (executed image (unfetched c.core)).halted;
      instructions = c.instructions + cost (executed image (unfetched c.core)).halted;
    }
plain_execution image c none = rw none refl

-- ---- an instruction, or its fetch

-- the core that asks for its next instruction
abbrev pub asking : TimedCore → TimedCore
asking c = record c { core = asks_for_instruction c.core }

either : (asks : Bool) (one other : TimedCore) → (cond asks one other ≡ one) ⊎ (cond asks one other ≡ other)
either true one other = inl refl
either false one other = inr refl

-- a core asks for its next instruction, or executes it
pub asks_or_executes : (image : MemoryImage) (c : TimedCore) → (after_instruction image c ≡ asking c) ⊎ (after_instruction image c ≡ after_execution image c)
unfolding after_instruction
asks_or_executes image c = either (needs_fetch image c.core) (asking c) (after_execution image c)

-- a core that has executed an instruction has fetched none since
pub executed_unfetched : (image : MemoryImage) (c : TimedCore) → (after_execution image c).core.is_fetched ≡ false
executed_unfetched image c = (executed-executes image (unfetched c.core)).fetched

halted_free : (core : CoreState) → is_none core.halted ≡ false → is_free core ≡ false
halted_free core halted = rw halted refl

-- a halted core does not go on
halted_stops : (end : ℕ) (c : TimedCore) → is_none c.core.halted ≡ false → goes_on_alone end c ≡ false
halted_stops end c halted = rw halted refl

and_false : (free : Bool) → (free && false) ≡ false
and_false true = refl
and_false false = refl

or_true : (fetched : Bool) → (fetched || true) ≡ true
or_true true = refl
or_true false = refl

-- nor does one that waits for a reply
pub held_stops : (end : ℕ) (c : TimedCore) → is_free c.core ≡ false → goes_on_alone end c ≡ false
held_stops end c held = rw held refl

pub asking_held : (core : CoreState) → is_free (asks_for_instruction core) ≡ false
asking_held core = and_false (is_none core.halted)

-- a core at the end or past it does not go on, unless it has fetched an instruction
pub late_stops : (end : ℕ) (c : TimedCore) → c.core.is_fetched ≡ false → end ≤ c.clock → goes_on_alone end c ≡ false
late_stops end c unfetched late = let past : nat_lt c.clock end ≡ false = search rules in rw (unfetched, past) (and_false (is_free c.core))

pub goes_on_by : (end : ℕ) (c : TimedCore) → is_free c.core ≡ true → c.clock < end → goes_on_alone end c ≡ true
goes_on_by end c free early = let before : nat_lt c.clock end ≡ true = search rules in rw (free, before) (or_true c.core.is_fetched)

pub goes_on_fetched : (end : ℕ) (c : TimedCore) → is_free c.core ≡ true → c.core.is_fetched ≡ true → goes_on_alone end c ≡ true
goes_on_fetched end c free fetched = rw (free, fetched) refl

-- a core that stops before the end is not free
free_by : (end : ℕ) (c : TimedCore) (free : Bool) → is_free c.core ≡ free → goes_on_alone end c ≡ false → c.clock < end → is_free c.core ≡ false
free_by end c false e stops early = e
free_by end c true e stops early = let goes_on : goes_on_alone end c ≡ true = goes_on_by end c e early in cc

free_or_late : (end : ℕ) (c : TimedCore) → goes_on_alone end c ≡ false → c.clock < end → is_free c.core ≡ false
free_or_late end c stops early = free_by end c (is_free c.core) refl stops early

-- after an instruction a core stands a cycle later at least and has fetched none since, or it does not go on
pub cycle_or_stops : (image : MemoryImage) (end : ℕ) (c : TimedCore)
    → ((c.clock + 1 ≤ (after_instruction image c).clock) × ((after_instruction image c).core.is_fetched ≡ false))
    ⊎ (((after_instruction image c).clock ≡ c.clock) × (goes_on_alone end (after_instruction image c) ≡ false))
cycle_or_stops image end c =
    elim (asks_or_executes image c) [
      | inl asks ↦ inr (ap (λ (x : TimedCore). x.clock) asks, ap (goes_on_alone end) asks ∙ held_stops end (asking c) (asking_held c.core))
      | inr is ↦
          let next : TimedCore = after_execution image c in
          let clock : (after_instruction image c).clock ≡ next.clock = ap (λ (x : TimedCore). x.clock) is in
          (elim (costs_or_halts next.core.halted) [
            | inl one ↦ inl (omega (arith, clock, executed_grows image c one), ap (λ (x : TimedCore). x.core.is_fetched) is ∙ executed_unfetched image c)
            | inr halted ↦ inr (clock ∙ executed_stays image c halted.0, ap (goes_on_alone end) is ∙ halted_stops end next halted.1)
          ])
    ]

-- an instruction never takes a core back
pub not_earlier : (image : MemoryImage) (c : TimedCore) → c.clock ≤ (after_instruction image c).clock
not_earlier image c = elim (cycle_or_stops image 0 c) [ inl one ↦ omega (arith, one.0) | inr none ↦ omega (arith, none.0) ]

-- and not far
pub soon_at_most : (image : MemoryImage) (c : TimedCore) → IsSoon c → IsSoonBy (c.clock + 192) (after_instruction image c).clock (after_instruction image c).pace
soon_at_most image c soon =
    let By : TimedCore → Type 0 = λ next. IsSoonBy (c.clock + 192) next.clock next.pace in
    elim (asks_or_executes image c) [
      | inl asks ↦ subst By (sym asks) (record { within = omega arith; soon = soon })
      | inr is ↦ subst By (sym is) (executed_soon image c soon)
    ]

-- that of a core without a pipeline takes it a cycle on at most
pub cycle_at_most : (image : MemoryImage) (c : TimedCore) → c.pace ≡ None → (c.clock ≤ (after_instruction image c).clock) × ((after_instruction image c).clock ≤ c.clock + 1)
cycle_at_most image c none =
    let next : TimedCore = after_instruction image c in
    elim (asks_or_executes image c) [
      | inl asks ↦ let clock : next.clock ≡ c.clock = ap (λ (x : TimedCore). x.clock) asks in (omega (arith, clock), omega (arith, clock))
      | inr is ↦
          let clock : next.clock ≡ c.clock + cost (executed image (unfetched c.core)).halted = ap (λ (x : TimedCore). x.clock) (is ∙ plain_execution image c none) in
          let small = cost_small (executed image (unfetched c.core)).halted in
          (omega (arith, clock), omega (arith, clock, small))
    ]

-- a core that does not go on stays as it is
pub stays : (n : ℕ) (image : MemoryImage) (end : ℕ) (c : TimedCore) → goes_on_alone end c ≡ false → after_instructions n image end c ≡ c
stays zero image end c stops = refl
stays (suc n) image end c stops = rw stops refl

goes : (n : ℕ) (image : MemoryImage) (end : ℕ) (c : TimedCore) → goes_on_alone end c ≡ true → after_instructions (suc n) image end c ≡ after_instructions n image end (after_instruction image c)
goes n image end c goes_on = rw goes_on refl

-- a core that goes on past the end has fetched an instruction
fetched_by : (end : ℕ) (c : TimedCore) (fetched : Bool) → c.core.is_fetched ≡ fetched → goes_on_alone end c ≡ true → end ≤ c.clock → c.core.is_fetched ≡ true
fetched_by end c true e on late = e
fetched_by end c false e on late = let off : goes_on_alone end c ≡ false = late_stops end c e late in cc

pub late_fetched : (end : ℕ) (c : TimedCore) → goes_on_alone end c ≡ true → end ≤ c.clock → c.core.is_fetched ≡ true
late_fetched end c on late = fetched_by end c c.core.is_fetched refl on late

-- a core that an instruction takes to the end or past it stops there
past_stops : (image : MemoryImage) (end : ℕ) (c : TimedCore) → end ≤ (after_instruction image c).clock → goes_on_alone end (after_instruction image c) ≡ false
past_stops image end c past =
    elim (cycle_or_stops image end c) [
      | inl one ↦ late_stops end (after_instruction image c) one.1 past
      | inr stops ↦ stops.1
    ]

-- a core that goes on past the end stops after one instruction
late_by_one : (image : MemoryImage) (end : ℕ) (c : TimedCore) → end ≤ c.clock → goes_on_alone end (after_instruction image c) ≡ false
late_by_one image end c late = past_stops image end c (omega (arith, not_earlier image c, late))

-- two numbers of instructions that are more than the cycles that are left lead to the same end
same_by : (n m : ℕ) (image : MemoryImage) (end : ℕ) (c : TimedCore) (goes_on : Bool) → goes_on_alone end c ≡ goes_on → end - c.clock < suc n → end - c.clock < suc m
    → ((later : TimedCore) → end - later.clock < n → end - later.clock < m → after_instructions n image end later ≡ after_instructions m image end later)
    → after_instructions (suc n) image end c ≡ after_instructions (suc m) image end c
same_by n m image end c false e one other rest = stays (suc n) image end c e ∙ sym (stays (suc m) image end c e)
same_by n m image end c true e one other rest =
    let next = after_instruction image c in
    let stop : goes_on_alone end next ≡ false → after_instructions n image end next ≡ after_instructions m image end next =
    λ stops. stays n image end next stops ∙ sym (stays m image end next stops)
    in
    let both : after_instructions n image end next ≡ after_instructions m image end next = elim (cases_lt c.clock end) [
      | inl early ↦
          (elim (cycle_or_stops image end c) [
            | inl grows ↦ rest next (omega (arith, grows.0, one, early)) (omega (arith, grows.0, other, early))
            | inr stops ↦ stop stops.1
          ])
      | inr late ↦ stop (late_by_one image end c late)
    ] in
    goes n image end c e ∙ both ∙ sym (goes m image end c e)

enough : (n m : ℕ) (image : MemoryImage) (end : ℕ) (c : TimedCore) → end - c.clock < n → end - c.clock < m → after_instructions n image end c ≡ after_instructions m image end c
enough zero m image end c one other = absurd (omega (arith, one))
enough (suc n) zero image end c one other = absurd (omega (arith, other))
enough (suc n) (suc m) image end c one other =
    same_by n m image end c (goes_on_alone end c) refl one other (λ later more still. enough n m image end later more still)

-- after one instruction the rest of the interval leads to the same end
pub same_end : (image : MemoryImage) (end : ℕ) (c : TimedCore) → goes_on_alone end c ≡ true → ran_to image end (after_instruction image c) ≡ ran_to image end c
same_end image end c goes_on =
    let next = after_instruction image c in
    let whole : ran_to image end c ≡ after_instructions (end - c.clock) image end next = goes (end - c.clock) image end c goes_on in
    let stop : goes_on_alone end next ≡ false → ran_to image end next ≡ ran_to image end c =
    λ stops. stays (suc (end - next.clock)) image end next stops ∙ sym (whole ∙ stays (end - c.clock) image end next stops)
    in
    elim (cases_lt c.clock end) [
      | inl early ↦
          (elim (cycle_or_stops image end c) [
            | inl one ↦ enough (suc (end - next.clock)) (end - c.clock) image end next (omega arith) (omega (arith, one.0, early)) ∙ sym whole
            | inr stops ↦ stop stops.1
          ])
      | inr late ↦ stop (late_by_one image end c late)
    ]

pub going_small : (goes_on : Bool) → going goes_on ≤ 1
going_small true = omega arith
going_small false = omega arith

-- a core comes to a stop after so many instructions, if these are more than the cycles that are left
stop_by : (n : ℕ) (image : MemoryImage) (end : ℕ) (c : TimedCore) (goes_on : Bool) → goes_on_alone end c ≡ goes_on → end - c.clock < suc n
    → ((later : TimedCore) → end - later.clock < n → goes_on_alone end (after_instructions n image end later) ≡ false)
    → goes_on_alone end (after_instructions (suc n) image end c) ≡ false
stop_by n image end c false e enough rest = ap (goes_on_alone end) (stays (suc n) image end c e) ∙ e
stop_by n image end c true e enough rest =
    let next = after_instruction image c in
    let stop : goes_on_alone end next ≡ false → goes_on_alone end (after_instructions n image end next) ≡ false =
    λ stops. ap (goes_on_alone end) (stays n image end next stops) ∙ stops
    in
    ap (goes_on_alone end) (goes n image end c e) ∙ (elim (cases_lt c.clock end) [
      | inl early ↦
          (elim (cycle_or_stops image end c) [
            | inl one ↦ rest next (omega (arith, one.0, enough, early))
            | inr stops ↦ stop stops.1
          ])
      | inr late ↦ stop (late_by_one image end c late)
    ])

pub comes_to_stop : (n : ℕ) (image : MemoryImage) (end : ℕ) (c : TimedCore) → end - c.clock < n → goes_on_alone end (after_instructions n image end c) ≡ false
comes_to_stop zero image end c enough = absurd (omega (arith, enough))
comes_to_stop (suc n) image end c enough =
    stop_by n image end c (goes_on_alone end c) refl enough (λ later left. comes_to_stop n image end later left)

-- the core after its local instructions has none left
pub stopped : (image : MemoryImage) (end : ℕ) (c : TimedCore) → goes_on_alone end (ran_to image end c) ≡ false
stopped image end c = comes_to_stop (suc (end - c.clock)) image end c (omega arith)

pub ran_stays : (image : MemoryImage) (end : ℕ) (c : TimedCore) → goes_on_alone end c ≡ false → ran_to image end c ≡ c
ran_stays image end c stops = stays (suc (end - c.clock)) image end c stops

pub ran_again : (image : MemoryImage) (end : ℕ) (c : TimedCore) → ran_to image end (ran_to image end c) ≡ ran_to image end c
ran_again image end c = ran_stays image end (ran_to image end c) (stopped image end c)

-- ---- what stops a core

-- a free core that stops has fetched none
unfetched_by : (end : ℕ) (c : TimedCore) (fetched : Bool) → c.core.is_fetched ≡ fetched → is_free c.core ≡ true → goes_on_alone end c ≡ false → c.core.is_fetched ≡ false
unfetched_by end c false e free stops = e
unfetched_by end c true e free stops = let goes_on : goes_on_alone end c ≡ true = goes_on_fetched end c free e in cc

-- by what it waits for, and by what halted it
over_by : (end : ℕ) (c : TimedCore) (halted : Option Why) → c.core.halted ≡ halted → c.core.instruction ≡ None → goes_on_alone end c ≡ false
    → IsSome c.core.halted ⊎ ((c.core.is_fetched ≡ false) × (end ≤ c.clock))
over_by end c (Some why) is idle stops = inl (ap is_some is)
over_by end c None is idle stops =
    let free : is_free c.core ≡ true = rw (is, idle) refl in
    elim (cases_lt c.clock end) [
      | inl early ↦ absurd (let held : is_free c.core ≡ false = free_or_late end c stops early in cc)
      | inr late ↦ inr (unfetched_by end c c.core.is_fetched refl free stops, late)
    ]

stops_by : (end : ℕ) (c : TimedCore) (instruction : Option InProgress) → c.core.instruction ≡ instruction → goes_on_alone end c ≡ false → IsSome (asks c) ⊎ IsOver end c
stops_by end c (Some now) is stops = inl (ap (λ (i : Option InProgress). is_some (next_request i)) is)
stops_by end c None is stops = inr (record { idle = is; over = over_by end c c.core.halted refl is stops })

pub local_instructions_end : (image : MemoryImage) (end : ℕ) (c : TimedCore) → IsSome (asks (ran_to image end c)) ⊎ IsOver end (ran_to image end c)
local_instructions_end image end c =
    let ran : TimedCore = ran_to image end c in
    stops_by end ran ran.core.instruction refl (stopped image end c)

-- ---- how far a core comes by itself

-- it stands no earlier than before
ran_later_by : (n : ℕ) (image : MemoryImage) (end : ℕ) (c : TimedCore) → c.clock ≤ (after_instructions n image end c).clock
ran_later_by zero image end c = omega arith
ran_later_by (suc n) image end c =
    let Later : TimedCore → Type 0 = λ ran. c.clock ≤ ran.clock in
    elim (cases_Bool (goes_on_alone end c)) as (λ _. Later (after_instructions (suc n) image end c)) [
      | inl on ↦ let next : TimedCore = after_instruction image c in subst Later (sym (goes n image end c on)) (omega (arith, not_earlier image c, ran_later_by n image end next))
      | inr off ↦ subst Later (sym (stays (suc n) image end c off)) (omega arith)
    ]

pub ran_later : (image : MemoryImage) (end : ℕ) (c : TimedCore) → c.clock ≤ (ran_to image end c).clock
ran_later image end c = ran_later_by (suc (end - c.clock)) image end c

-- and an instruction past the end at most, unless it stood there
ran_within_by : (n : ℕ) (image : MemoryImage) (end : ℕ) (c : TimedCore) → IsSoon c → IsSoonBy (max c.clock end + 192) (after_instructions n image end c).clock (after_instructions n image end c).pace
ran_within_by zero image end c soon = record { within = omega arith; soon = soon }
ran_within_by (suc n) image end c soon =
    let By : TimedCore → Type 0 = λ ran. IsSoonBy (max c.clock end + 192) ran.clock ran.pace in
    elim (cases_Bool (goes_on_alone end c)) as (λ _. By (after_instructions (suc n) image end c)) [
      | inl on ↦
          let next : TimedCore = after_instruction image c in
          let one = soon_at_most image c soon in
          subst By (sym (goes n image end c on)) (elim (cases_lt next.clock end) [
            | inl early ↦ let rest = ran_within_by n image end next one.soon in record { within = omega (arith, rest.within, early); soon = rest.soon }
            | inr past ↦ subst By (sym (stays n image end next (past_stops image end c past))) (record { within = omega (arith, one.within); soon = one.soon })
          ])
      | inr off ↦ subst By (sym (stays (suc n) image end c off)) (record { within = omega arith; soon = soon })
    ]

pub ran_within : (image : MemoryImage) (end : ℕ) (c : TimedCore) → IsSoon c → IsSoonBy (max c.clock end + 192) (ran_to image end c).clock (ran_to image end c).pace
ran_within image end c soon = ran_within_by (suc (end - c.clock)) image end c soon

-- a core at the end or past it stays as it is, or it executes the one instruction that it has fetched
pub ran_late : (image : MemoryImage) (end : ℕ) (c : TimedCore) → end ≤ c.clock
    → (ran_to image end c ≡ c) ⊎ ((ran_to image end c ≡ after_instruction image c) × (is_free c.core ≡ true) × (c.core.is_fetched ≡ true))
ran_late image end c late =
    elim (cases_Bool (goes_on_alone end c)) [
      | inl on ↦
          let next : TimedCore = after_instruction image c in
          let both = and_parts (is_free c.core) (c.core.is_fetched || nat_lt c.clock end) on in
          inr (goes (end - c.clock) image end c on ∙ stays (end - c.clock) image end next (late_by_one image end c late), both.0, late_fetched end c on late)
      | inr off ↦ inl (ran_stays image end c off)
    ]

-- one instruction brings a core nearer to its stop
pub nearer : (image : MemoryImage) (end : ℕ) (c : TimedCore) → is_free c.core ≡ true → c.clock < end
    → 2 * (end - (after_instruction image c).clock) + going (is_free (after_instruction image c).core) < 2 * (end - c.clock) + 1
nearer image end c free early =
    let next = after_instruction image c in
    let small : going (is_free next.core) ≤ 1 = going_small (is_free next.core) in
    elim (cycle_or_stops image end c) [
      | inl one ↦ omega (arith, one.0, early, small)
      | inr stops ↦
          let none : is_free next.core ≡ false = free_or_late end next stops.1 (omega (arith, stops.0, early)) in
          let still : going (is_free next.core) ≡ 0 = ap going none in
          omega (arith, stops.0, early, still)
    ]

-- ---- a core that fetches

-- how late a core without a pipeline can be, which executes past this cycle only what it has fetched before
pub record IsWithin (most : ℕ) (c : TimedCore) : Type 0 where
  pub clock : c.clock ≤ most + 1
  pub fetched : IsTrue c.core.is_fetched → c.clock ≤ most

pub next_within : (image : MemoryImage) (end most : ℕ) (c : TimedCore) → c.pace ≡ None → end ≤ most → (c.core.is_fetched ≡ true) ⊎ (c.clock < end) → IsWithin most c → IsWithin most (after_instruction image c)
next_within image end most c none last on within =
    let next : TimedCore = after_instruction image c in
    let before : c.clock ≤ most = elim on [ inl fetched ↦ within.fetched fetched | inr early ↦ omega (arith, early, last) ] in
    elim (asks_or_executes image c) [
      | inl asks ↦
          let clock : next.clock ≡ c.clock = ap (λ (x : TimedCore). x.clock) asks in
          record { clock = omega (arith, clock, before); fetched = λ fetched. omega (arith, clock, before) }
      | inr is ↦
          let unfetched : next.core.is_fetched ≡ false = ap (λ (x : TimedCore). x.core.is_fetched) is ∙ executed_unfetched image c in
          record { clock = omega (arith, (cycle_at_most image c none).1, before); fetched = λ fetched. absurd (true≢false (sym fetched ∙ unfetched)) }
    ]

-- a step brings it nearer to its stop
pub nearer_fetching : (image : MemoryImage) (end : ℕ) (c : TimedCore) → is_free c.core ≡ true → (c.core.is_fetched ≡ true) ⊎ (c.clock < end)
    → 2 * (end - (after_instruction image c).clock) + (going (is_free (after_instruction image c).core) + going (after_instruction image c).core.is_fetched)
    < 2 * (end - c.clock) + (going (is_free c.core) + going c.core.is_fetched)
nearer_fetching image end c free on =
    let next : TimedCore = after_instruction image c in
    let was : going (is_free c.core) ≡ 1 = ap going free in
    elim (asks_or_executes image c) [
      | inl asks ↦
          let clock : next.clock ≡ c.clock = ap (λ (x : TimedCore). x.clock) asks in
          let held : going (is_free next.core) ≡ 0 = ap (λ (x : TimedCore). going (is_free x.core)) asks ∙ ap going (asking_held c.core) in
          let same : going next.core.is_fetched ≡ going c.core.is_fetched = ap (λ (x : TimedCore). going x.core.is_fetched) asks in
          omega (arith, clock, held, same, was)
      | inr is ↦
          let behind : TimedCore = after_execution image c in
          let clock : next.clock ≡ behind.clock = ap (λ (x : TimedCore). x.clock) is in
          let unfetched : going next.core.is_fetched ≡ 0 = ap (λ (x : TimedCore). going x.core.is_fetched) is ∙ ap going (executed_unfetched image c) in
          let small : going (is_free next.core) ≤ 1 = going_small (is_free next.core) in
          (elim (costs_or_halts behind.core.halted) [
            | inl one ↦
                (elim on [
                  | inl fetched ↦ let full : going c.core.is_fetched ≡ 1 = ap going fetched in omega (arith, clock, executed_grows image c one, unfetched, small, was, full)
                  | inr early ↦ omega (arith, clock, executed_grows image c one, unfetched, small, was, early)
                ])
            | inr halted ↦
                let still : is_free behind.core ≡ false = halted_free behind.core halted.1 in
                let none : going (is_free next.core) ≡ 0 = ap (λ (x : TimedCore). going (is_free x.core)) is ∙ ap going still in
                omega (arith, clock, executed_stays image c halted.0, unfetched, none, was)
          ])
    ]

-- one that goes on stands before the end, or has fetched an instruction
alone_on : (end : ℕ) (c : TimedCore) → goes_on_alone end c ≡ true → (c.core.is_fetched ≡ true) ⊎ (c.clock < end)
alone_on end c goes = elim (cases_lt c.clock end) [ inl early ↦ inr early | inr late ↦ inl (late_fetched end c goes late) ]

pub not_past : (end most : ℕ) (c : TimedCore) → end ≤ most → (IsTrue c.core.is_fetched → c.clock ≤ most) → goes_on_alone end c ≡ true → c.clock ≤ most
not_past end most c last fetched goes = elim (alone_on end c goes) [ inl is ↦ fetched is | inr early ↦ omega (arith, early, last) ]

pub nearer_alone : (image : MemoryImage) (end : ℕ) (c : TimedCore) → goes_on_alone end c ≡ true
    → 2 * (end - (after_instruction image c).clock) + (going (is_free (after_instruction image c).core) + going (after_instruction image c).core.is_fetched)
    < 2 * (end - c.clock) + (going (is_free c.core) + going c.core.is_fetched)
nearer_alone image end c goes =
    nearer_fetching image end c (and_parts (is_free c.core) (c.core.is_fetched || nat_lt c.clock end) goes).0 (alone_on end c goes)
