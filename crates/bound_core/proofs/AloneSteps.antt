-- One step that a core takes by itself.
use Rattle.std.proofs.Common.{◌≡◌, inl, inr, ℕ, ◌+◌, ◌≤◌, ◌||◌, nat_lt, Bool, true, false, None, refl, ap, arith, ◌∙◌}
use Rattle.std.specs.Prelude.{is_none, [], ◌∷◌}
use Rattle.std.proofs.lemmas.Bool.{and_parts, cases_lt}
use Rattle.zs_num.specs.declared.request.Request.TheVariants as request
use Rattle.elf_load.specs.MemoryImage.{MemoryImage}
use Rattle.rv_core.specs.CoreState.{CoreState, ToExecution}
use Rattle.rv_core.specs.Step.{asks_for_instruction, cost, executed, is_free, unfetched}
use Rattle.reference.specs.IntervalBounds.{latest_clock, most_accesses, most_left, to_execute}
use Rattle.reference.specs.Pacing.{IsSoon}
use Rattle.reference.specs.TimedCore.{TimedCore, after_execution, after_instruction, goes_on_alone}
use Rattle.reference.proofs.Accesses.{executed_left, fetched_left, idle_by, left_through, most_before, most_past, to_execute_small}
use Rattle.reference.proofs.Instructions.{asks_or_executes, cost_small, executed_unfetched, late_fetched, not_earlier, soon_at_most}

-- what it counts
pub counts : (image : MemoryImage) (c : TimedCore)
    → (c.instructions ≤ (after_instruction image c).instructions) × ((after_instruction image c).instructions ≤ c.instructions + 1)
counts image c =
    elim (asks_or_executes image c) [
      | inl asks ↦
          let same : (after_instruction image c).instructions ≡ c.instructions = ap (λ (x : TimedCore). x.instructions) asks in
          (omega (arith, same), omega (arith, same))
      | inr is ↦
          let more : (after_instruction image c).instructions ≡ c.instructions + cost (executed image (unfetched c.core)).halted = ap (λ (x : TimedCore). x.instructions) is in
          let small = cost_small (executed image (unfetched c.core)).halted in
          (omega (arith, more), omega (arith, more, small))
    ]

free_core : (end : ℕ) (c : TimedCore) → goes_on_alone end c ≡ true → is_free c.core ≡ true
free_core end c goes = (and_parts (is_free c.core) (c.core.is_fetched || nat_lt c.clock end) goes).0

-- a core that asks for its next instruction has that fetch before it, and 256 accesses more
asking_by : (core : CoreState) (fetched : Bool) → core.is_fetched ≡ fetched → core.instruction ≡ None → most_left (asks_for_instruction core) ≤ 257
asking_by core true e idle = let full : most_left (asks_for_instruction core) ≡ 256 = fetched_left (asks_for_instruction core) e in omega (arith, full)
asking_by core false e idle = left_through (request.Fetch core.pc ∷ []) [] ToExecution core idle e

asking_left : (core : CoreState) → is_free core ≡ true → most_left (asks_for_instruction core) ≤ 257
asking_left core free = asking_by core core.is_fetched refl (idle_by core.instruction (and_parts (is_none core.halted) (is_none core.instruction) free).1)

-- the accesses that are left behind a step, and the fetched instruction that is
step_left : (image : MemoryImage) (end : ℕ) (c : TimedCore) → goes_on_alone end c ≡ true → most_left (after_instruction image c).core ≤ 257
step_left image end c goes =
    elim (asks_or_executes image c) [
      | inl asks ↦
          let left : most_left (after_instruction image c).core ≡ most_left (asks_for_instruction c.core) = ap (λ (x : TimedCore). most_left x.core) asks in
          omega (arith, left, asking_left c.core (free_core end c goes))
      | inr is ↦
          let left : most_left (after_instruction image c).core ≡ most_left (after_execution image c).core = ap (λ (x : TimedCore). most_left x.core) is in
          omega (arith, left, executed_left image c (free_core end c goes))
    ]

-- past the end it has fetched an instruction, and executes it or has it still
late_step : (image : MemoryImage) (end : ℕ) (c : TimedCore) → IsSoon c → goes_on_alone end c ≡ true → end ≤ c.clock
    → (most_left (after_instruction image c).core ≤ most_left c.core)
    × ((after_instruction image c).clock + to_execute (after_instruction image c).core.is_fetched ≤ c.clock + to_execute c.core.is_fetched)
late_step image end c soon goes late =
    let next : TimedCore = after_instruction image c in
    let fetched : c.core.is_fetched ≡ true = late_fetched end c goes late in
    let full : most_left c.core ≡ 256 = fetched_left c.core fetched in
    elim (asks_or_executes image c) [
      | inl asks ↦
          let still : next.core.is_fetched ≡ true = ap (λ (x : TimedCore). x.core.is_fetched) asks ∙ fetched in
          let left : most_left next.core ≡ 256 = fetched_left next.core still in
          let clock : next.clock ≡ c.clock = ap (λ (x : TimedCore). x.clock) asks in
          let same : to_execute next.core.is_fetched ≡ to_execute c.core.is_fetched = ap (λ (x : TimedCore). to_execute x.core.is_fetched) asks in
          (omega (arith, left, full), omega (arith, clock, same))
      | inr is ↦
          let left : most_left next.core ≡ most_left (after_execution image c).core = ap (λ (x : TimedCore). most_left x.core) is in
          let none : to_execute next.core.is_fetched ≡ 0 = ap (λ (x : TimedCore). to_execute x.core.is_fetched) is ∙ ap to_execute (executed_unfetched image c) in
          let one : to_execute c.core.is_fetched ≡ 192 = ap to_execute fetched in
          let within = (soon_at_most image c soon).within in
          (omega (arith, left, full, executed_left image c (free_core end c goes)), omega (arith, none, one, within))
    ]

pub step_not_later : (image : MemoryImage) (end : ℕ) (c : TimedCore) → IsSoon c → goes_on_alone end c ≡ true
    → latest_clock end (after_instruction image c) ≤ latest_clock end c
unfolding latest_clock
step_not_later image end c soon goes =
    elim (cases_lt c.clock end) [
      | inl early ↦
          omega (arith, early, (soon_at_most image c soon).within, to_execute_small (after_instruction image c).core.is_fetched, step_left image end c goes)
      | inr late ↦ let step = late_step image end c soon goes late in omega (arith, step.0, step.1)
    ]

pub step_no_more : (image : MemoryImage) (end : ℕ) (c : TimedCore) → IsSoon c → goes_on_alone end c ≡ true
    → most_accesses end (after_instruction image c) ≤ most_accesses end c
step_no_more image end c soon goes =
    let next : TimedCore = after_instruction image c in
    elim (cases_lt c.clock end) [
      | inl early ↦
          (elim (cases_lt next.clock end) [
            | inl still ↦ omega (arith, most_before end c early, most_before end next still, not_earlier image c)
            | inr past ↦ omega (arith, most_before end c early, most_past end next past, step_left image end c goes, early)
          ])
      | inr late ↦
          let step = late_step image end c soon goes late in
          omega (arith, most_past end c late, most_past end next (omega (arith, late, not_earlier image c)), step.0)
    ]
