-- Instructions that follow each other, told at once.
use Rattle.std.proofs.Common.{◌≡◌, ℕ, zero, suc, ◌+◌, ◌*◌, ◌<◌, ◌≤◌, true, false, List, [], ◌∷◌, ◌++◌, append_assoc, Option, Some, None, refl, sym, ◌∙◌, ap, arith, max, subst, tests}
use Rattle.std.specs.Prelude.{is_none}
use Rattle.std.proofs.lemmas.Bool.{and_parts}
use Rattle.elf_load.specs.MemoryImage.{MemoryImage}
use Rattle.rv_core.specs.CoreState.{CoreState, InProgress}
use Rattle.rv_core.specs.Executions.{at, LeadsTo}
use Rattle.rv_core.specs.declared.why.Why.{Why}
use Rattle.rv_core.specs.Step.{cost, executed, is_free, needs_fetch, unfetched}
use Rattle.rv_core.proofs.Fetches.{never-needs}
use Rattle.rv_blocks.specs.Falling.{FallsThrough}
use Rattle.reference.specs.Ahead.{ahead}
use Rattle.reference.specs.TimedCore.{TimedCore, after_execution, after_instruction, goes_on_alone, ran_to}
use Rattle.reference.proofs.Instructions.{goes_on_by, plain_execution, same_end}
use Rattle.reference.specs.IntervalBounds.{latest_clock, left_behind_fetch, left_of_instruction, most_accesses, most_left, steps_left, to_execute}
use Rattle.reference.proofs.Accesses.{unfetched_left}
use Rattle.trace.specs.Trace.{Executed, Step, executed_by, steps_alone, stretch_steps}
use Rattle.trace.proofs.AloneTold.{one_alone, one_executed}

-- the core with these registers, at this address
abbrev pub timed_at : TimedCore → (registers : List ℕ) → (pc : ℕ) → TimedCore
timed_at c registers pc = record c { core = at c.core registers pc }

ahead_by_none : (c : TimedCore) → ahead 0 c ≡ c
ahead_by_none c =
    let At : ℕ → ℕ → TimedCore = λ k i. record c { clock = k; instructions = i } in
    let clock : c.clock + 0 ≡ c.clock = omega arith in
    let instructions : c.instructions + 0 ≡ c.instructions = omega arith in
    ap (λ k. At k (c.instructions + 0)) clock ∙ ap (λ i. At c.clock i) instructions

runs_on : (halted : Option Why) → is_none halted ≡ true → halted ≡ None
runs_on None e = refl
runs_on (Some why) e = cc

there : (image : MemoryImage) (c : TimedCore) → needs_fetch image c.core ≡ false → after_instruction image c ≡ after_execution image c
unfolding after_instruction
there image c is = rw is refl

-- a core that comes to another instruction of a stretch, which leads it on
module _ (image : MemoryImage) (c : TimedCore) (none : c.pace ≡ None) (fetches : c.core.fetching ≡ false) (free : is_free c.core ≡ true) (fetched : c.core.is_fetched ≡ false) where
  one_on : (n : ℕ) (between after : List ℕ) (pc_between pc_after : ℕ) → executed image (at c.core between pc_between) ≡ at c.core after pc_after
      → after_instruction image (ahead n (timed_at c between pc_between)) ≡ ahead (suc n) (timed_at c after pc_after)
  one_on n between after pc_between pc_after leads =
      let now : TimedCore = ahead n (timed_at c between pc_between) in
      let By : CoreState → TimedCore = λ core. record now { core = core; clock = now.clock + cost core.halted; instructions = now.instructions + cost core.halted } in
      let At : ℕ → ℕ → TimedCore = λ k i. record now { core = at c.core after pc_after; clock = k; instructions = i } in
      let same : executed image (unfetched now.core) ≡ at c.core after pc_after = ap (λ f. executed image (record now.core { is_fetched = f })) (sym fetched) ∙ leads in
      let costs : cost c.core.halted ≡ 1 = ap cost (runs_on c.core.halted (and_parts (is_none c.core.halted) (is_none c.core.instruction) free).0) in
      let clock : c.clock + n + 1 ≡ c.clock + suc n = omega arith in
      let instructions : c.instructions + n + 1 ≡ c.instructions + suc n = omega arith in
      there image now (never-needs image now.core fetches) ∙ plain_execution image now none ∙ ap By same
      ∙ ap (λ k. At (now.clock + k) (now.instructions + k)) costs
      ∙ ap (λ k. At k (c.instructions + n + 1)) clock ∙ ap (λ i. At (c.clock + suc n) i) instructions

-- one more of a stretch
pub stretch_more : (core pc n : ℕ) → stretch_steps core pc (suc n) ≡ stretch_steps core pc n ++ Executed core (pc + 4 * n) ∷ []
stretch_more core pc zero =
    let same : pc ≡ pc + 4 * 0 = omega arith in
    ap (λ (p : ℕ). Executed core p ∷ []) same
stretch_more core pc (suc n) =
    let same : pc + 4 + 4 * n ≡ pc + 4 * suc n = omega arith in
    ap (λ (steps : List Step). Executed core pc ∷ steps) (stretch_more core (pc + 4) n ∙ ap (λ (p : ℕ). stretch_steps core (pc + 4) n ++ Executed core p ∷ []) same)

-- what is told of a stretch, and where it leads if more is known to follow
record IsTold (image : MemoryImage) (end number known : ℕ) (c : TimedCore) (n : ℕ) (after : List ℕ) (pc_after : ℕ) : Type 0 where
  told : steps_alone image end number c ≡ stretch_steps number c.core.pc n ++ steps_alone image end number (ahead n (timed_at c after pc_after))
  leads : n < known → pc_after ≡ c.core.pc + 4 * n
  same_end : ran_to image end (ahead n (timed_at c after pc_after)) ≡ ran_to image end c

module _ (image : MemoryImage) (end number known : ℕ) (c : TimedCore) (none : c.pace ≡ None) (fetches : c.core.fetching ≡ false) (free : is_free c.core ≡ true) (fetched : c.core.is_fetched ≡ false)
    (falls : (i : ℕ) → i + 1 < known → FallsThrough image (c.core.pc + 4 * i)) where
  is_told : (n : ℕ) (after : List ℕ) (pc_after : ℕ) → c.clock + n ≤ end → n ≤ known → LeadsTo None n image c.core.registers c.core.pc after pc_after
      → IsTold image end number known c n after pc_after
  is_told zero after pc_after room few led =
      let At : List ℕ → ℕ → TimedCore = λ r p. timed_at c r p in
      let same : ahead 0 (timed_at c after pc_after) ≡ c = ahead_by_none (timed_at c after pc_after) ∙ ap (λ r. At r pc_after) led.0 ∙ ap (At c.core.registers) led.1 in
      record {
        told = ap (steps_alone image end number) (sym same);
        leads = λ more. omega (arith, led.1);
        same_end = ap (ran_to image end) same;
      }
  is_told (suc n) after pc_after room few (between, (pc_between, (led, lies, leads))) =
      let so_far = is_told n between pc_between (omega (arith, room)) (omega (arith, few)) led in
      let here : TimedCore = timed_at c between pc_between in
      let now : TimedCore = ahead n here in
      let next : TimedCore = ahead (suc n) (timed_at c after pc_after) in
      let early : now.clock < end = omega (arith, room) in
      let goes_on : goes_on_alone end now ≡ true = goes_on_by end now free early in
      let step : after_instruction image now ≡ next = one_on image c none fetches free fetched n between after pc_between pc_after (leads c.core) in
      let place : pc_between ≡ c.core.pc + 4 * n = so_far.leads (omega (arith, few)) in
      let more : next.instructions ≡ now.instructions + 1 = omega arith in
      let one : executed_by number now next ≡ Executed number (c.core.pc + 4 * n) ∷ [] =
      one_executed number 1 now next more refl ∙ ap (λ (p : ℕ). Executed number p ∷ []) place
      in
      let rest : steps_alone image end number now ≡ Executed number (c.core.pc + 4 * n) ∷ [] ++ steps_alone image end number next =
      one_alone image end number now goes_on
      ∙ ap (λ (t : TimedCore). executed_by number now t ++ steps_alone image end number t) step
      ∙ ap (λ (steps : List Step). steps ++ steps_alone image end number next) one
      in
      record {
        told =
            so_far.told ∙ ap (λ (steps : List Step). stretch_steps number c.core.pc n ++ steps) rest
            ∙ sym (append_assoc (stretch_steps number c.core.pc n) (Executed number (c.core.pc + 4 * n) ∷ []) (steps_alone image end number next))
            ∙ ap (λ (steps : List Step). steps ++ steps_alone image end number next) (sym (stretch_more number c.core.pc n));
        leads = λ several.
            let falls_to : pc_after ≡ c.core.pc + 4 * n + 4 =
            falls n (omega (arith, several)) between after pc_after (λ core. ap (λ (p : ℕ). executed image (at core between p)) (sym place) ∙ leads core)
            in
            omega (arith, falls_to);
        same_end = ap (ran_to image end) (sym step) ∙ same_end image end now goes_on ∙ so_far.same_end;
      }

  pub stretch_told : (n : ℕ) (after : List ℕ) (pc_after : ℕ) → c.clock + n ≤ end → n ≤ known → LeadsTo None n image c.core.registers c.core.pc after pc_after
      → steps_alone image end number c ≡ stretch_steps number c.core.pc n ++ steps_alone image end number (ahead n (timed_at c after pc_after))
  stretch_told n after pc_after room few led = (is_told n after pc_after room few led).told

  pub stretch_end : (n : ℕ) (after : List ℕ) (pc_after : ℕ) → c.clock + n ≤ end → n ≤ known → LeadsTo None n image c.core.registers c.core.pc after pc_after
      → ran_to image end (ahead n (timed_at c after pc_after)) ≡ ran_to image end c
  stretch_end n after pc_after room few led = (is_told n after pc_after room few led).same_end

-- a later core with as little left has no more accesses before the end
later_less : (end : ℕ) (c next : TimedCore) → c.clock ≤ next.clock → most_left next.core ≡ most_left c.core → most_left c.core ≡ 0 → most_accesses end next ≤ most_accesses end c
unfolding most_accesses
later_less end c next later same none = grind (arith, tests, later, same, none)

-- a stretch of none changes nothing
none_led : (image : MemoryImage) (c : TimedCore) (n : ℕ) (after : List ℕ) (pc_after : ℕ) → n ≡ 0 → LeadsTo None n image c.core.registers c.core.pc after pc_after
    → ahead n (timed_at c after pc_after) ≡ c
none_led image c zero after pc_after none led =
    ahead_by_none (timed_at c after pc_after) ∙ ap (λ r. timed_at c r pc_after) led.0 ∙ ap (timed_at c c.core.registers) led.1
none_led image c (suc n) after pc_after none led = absurd (omega (arith, none))

no_instruction : (instruction : Option InProgress) → is_none instruction ≡ true → instruction ≡ None
no_instruction None e = refl
no_instruction (Some now) e = cc

-- a core that comes to its next instruction, and has not fetched it, has no access left
free_left : (core : CoreState) → is_free core ≡ true → core.is_fetched ≡ false → most_left core ≡ 0
free_left core free fetched =
    let none : core.instruction ≡ None = no_instruction core.instruction (and_parts (is_none core.halted) (is_none core.instruction) free).1 in
    unfetched_left core fetched ∙ ap (λ i. left_of_instruction i + left_behind_fetch i) none

-- A core ran so many instructions of a stretch, of which so many are known.
pub record HasRun (image : MemoryImage) (end known n : ℕ) (c next : TimedCore) : Type 0 where
  pub few : n ≤ known
  pub early : c.clock + n ≤ max c.clock end
  pub ran : LeadsTo None n image c.core.registers c.core.pc next.core.registers next.core.pc
  pub value : next ≡ ahead n (timed_at c next.core.registers next.core.pc)
  pub free : 0 < n → is_free c.core ≡ true
  pub unfetched : 0 < n → c.core.is_fetched ≡ false
  pub fetching : 0 < n → c.core.fetching ≡ false
  pub pace : 0 < n → c.pace ≡ None

module _ (image : MemoryImage) (end known : ℕ) (c next : TimedCore) (pc : ℕ) (at_pc : pc ≡ c.core.pc) (falls_from : (i : ℕ) → i + 1 < known → FallsThrough image (pc + 4 * i)) where
  falls : (i : ℕ) → i + 1 < known → FallsThrough image (c.core.pc + 4 * i)
  falls i more = subst (λ p. FallsThrough image (p + 4 * i)) at_pc (falls_from i more)

  same_by : (n : ℕ) → HasRun image end known n c next → n ≡ 0 → next ≡ c
  same_by n h none = h.value ∙ none_led image c n next.core.registers next.core.pc none h.ran

  pub ran_same_end : (n : ℕ) → HasRun image end known n c next → ran_to image end next ≡ ran_to image end c
  ran_same_end zero h = ap (ran_to image end) (same_by 0 h refl)
  ran_same_end (suc n) h =
      ap (ran_to image end) h.value
      ∙ stretch_end image end 0 known c (h.pace (omega arith)) (h.fetching (omega arith)) (h.free (omega arith)) (h.unfetched (omega arith)) falls (suc n) next.core.registers next.core.pc (omega (arith, h.early)) h.few h.ran

  ran_told : (number n : ℕ) → HasRun image end known n c next
      → steps_alone image end number c ≡ stretch_steps number c.core.pc n ++ steps_alone image end number next
  ran_told number zero h = ap (steps_alone image end number) (sym (same_by 0 h refl))
  ran_told number (suc n) h =
      stretch_told image end number known c (h.pace (omega arith)) (h.fetching (omega arith)) (h.free (omega arith)) (h.unfetched (omega arith)) falls (suc n) next.core.registers next.core.pc (omega (arith, h.early)) h.few h.ran
      ∙ ap (λ (t : TimedCore). stretch_steps number c.core.pc (suc n) ++ steps_alone image end number t) (sym h.value)

  pub ran_not_later : (n : ℕ) → HasRun image end known n c next → latest_clock end next ≤ latest_clock end c
  unfolding latest_clock
  ran_not_later zero h = omega (arith, ap (latest_clock end) (same_by 0 h refl))
  ran_not_later (suc n) h =
      let none : most_left c.core ≡ 0 = free_left c.core (h.free (omega arith)) (h.unfetched (omega arith)) in
      let executed : to_execute c.core.is_fetched ≡ 0 = ap to_execute (h.unfetched (omega arith)) in
      let at_end : latest_clock end next ≡ latest_clock end (ahead (suc n) (timed_at c next.core.registers next.core.pc)) = ap (latest_clock end) h.value in
      omega (arith, at_end, none, executed, h.early)

  pub ran_no_more : (n : ℕ) → HasRun image end known n c next → most_accesses end next ≤ most_accesses end c
  ran_no_more zero h = omega (arith, ap (most_accesses end) (same_by 0 h refl))
  ran_no_more (suc n) h =
      let none : most_left c.core ≡ 0 = free_left c.core (h.free (omega arith)) (h.unfetched (omega arith)) in
      let at_end : most_accesses end next ≡ most_accesses end (ahead (suc n) (timed_at c next.core.registers next.core.pc)) = ap (most_accesses end) h.value in
      omega (arith, at_end, later_less end c (ahead (suc n) (timed_at c next.core.registers next.core.pc)) (omega arith) refl none)

  pub ran_nearer : (n : ℕ) → 0 < n → HasRun image end known n c next → steps_left end next < steps_left end c
  ran_nearer zero some h = absurd (omega (arith, some))
  ran_nearer (suc n) some h =
      let at_end : steps_left end next ≡ steps_left end (ahead (suc n) (timed_at c next.core.registers next.core.pc)) = ap (steps_left end) h.value in
      omega (arith, at_end, h.early)

  -- what was told of it, and what is still to be told
  pub told_on : (number n : ℕ) (told later : List Step) → HasRun image end known n c next → later ≡ told ++ stretch_steps number pc n
      → later ++ steps_alone image end number next ≡ told ++ steps_alone image end number c
  told_on number n told later h more =
      let all : steps_alone image end number c ≡ stretch_steps number pc n ++ steps_alone image end number next =
      ran_told number n h ∙ ap (λ p. stretch_steps number p n ++ steps_alone image end number next) (sym at_pc)
      in
      ap (λ (steps : List Step). steps ++ steps_alone image end number next) more
      ∙ append_assoc told (stretch_steps number pc n) (steps_alone image end number next)
      ∙ ap (λ (steps : List Step). told ++ steps) (sym all)
