-- What is told of a core that goes on by itself, instruction by instruction.
use Rattle.std.proofs.Common.{◌≡◌, inl, inr, ℕ, zero, suc, ◌+◌, ◌-◌, ◌<◌, ◌≤◌, Bool, true, false, true≢false, List, [], ◌∷◌, ◌++◌, append_assoc, Option, None, refl, sym, ◌∙◌, ap, arith}
use Rattle.std.specs.Prelude.{replicate}
use Rattle.std.proofs.lemmas.Bool.{cases_lt}
use Rattle.elf_load.specs.MemoryImage.{MemoryImage}
use Rattle.rv_core.specs.Executions.{at, LeadsTo}
use Rattle.rv_core.specs.Step.{is_free, needs_fetch}
use Rattle.rv_core.specs.Told.{leading_told, Ran, Told}
use Rattle.reference.specs.Ahead.{ahead}
use Rattle.reference.specs.TimedCore.{TimedCore, after_instruction, goes_on_alone}
use Rattle.reference.proofs.Instructions.{cycle_or_stops, goes_on_by, ran_late, stopped}
use Rattle.bound_core.specs.ToldTurns.{told_alone, told_next}
use Rattle.bound_core.proofs.FetchedNext.{taking, taking_next}
use Rattle.bound_core.proofs.LedOn.{at_itself, counted, one_on, timed_at, IsThere}

module _ (image : MemoryImage) (end : ℕ) where
  -- of one instruction: itself, if it is counted
  abbrev told_here : TimedCore → List Told
  told_here c = replicate ((after_instruction image c).instructions - c.instructions) (Ran c.core.pc)

  none_by : (n : ℕ) (c : TimedCore) → goes_on_alone end c ≡ false → told_next image end n c ≡ []
  none_by zero c stops = refl
  none_by (suc n) c stops = rw stops refl

  one_by : (n : ℕ) (c : TimedCore) → goes_on_alone end c ≡ true → told_next image end (suc n) c ≡ told_here c ++ told_next image end n (after_instruction image c)
  one_by n c on = rw on refl

  -- a core that goes on past the end stops after one instruction
  late_by_one : (c : TimedCore) → goes_on_alone end c ≡ true → end ≤ c.clock → goes_on_alone end (after_instruction image c) ≡ false
  late_by_one c on late =
      elim (ran_late image end c late) [
        | inl same ↦ absurd (true≢false (sym on ∙ ap (goes_on_alone end) (sym same) ∙ stopped image end c))
        | inr one ↦ ap (goes_on_alone end) (sym one.0) ∙ stopped image end c
      ]

  -- two numbers of instructions tell the same behind one of them, if they do where it takes a cycle
  behind_one : (n m : ℕ) (c : TimedCore) → goes_on_alone end c ≡ true
      → (c.clock < end → c.clock + 1 ≤ (after_instruction image c).clock → told_next image end n (after_instruction image c) ≡ told_next image end m (after_instruction image c))
      → told_next image end n (after_instruction image c) ≡ told_next image end m (after_instruction image c)
  behind_one n m c on grows =
      let next : TimedCore = after_instruction image c in
      let stop : goes_on_alone end next ≡ false → told_next image end n next ≡ told_next image end m next =
      λ stops. none_by n next stops ∙ sym (none_by m next stops)
      in
      elim (cases_lt c.clock end) [
        | inl early ↦ (elim (cycle_or_stops image end c) [ inl one ↦ grows early one.0 | inr stops ↦ stop stops.1 ])
        | inr late ↦ stop (late_by_one c on late)
      ]

  -- two numbers of instructions that are more than the cycles that are left tell the same
  same_by : (n m : ℕ) (c : TimedCore) (goes_on : Bool) → goes_on_alone end c ≡ goes_on → end - c.clock < suc n → end - c.clock < suc m
      → ((later : TimedCore) → end - later.clock < n → end - later.clock < m → told_next image end n later ≡ told_next image end m later)
      → told_next image end (suc n) c ≡ told_next image end (suc m) c
  same_by n m c false e one other rest = none_by (suc n) c e ∙ sym (none_by (suc m) c e)
  same_by n m c true e one other rest =
      let both = behind_one n m c e (λ early grows. rest (after_instruction image c) (omega (arith, grows, one, early)) (omega (arith, grows, other, early))) in
      one_by n c e ∙ ap (λ (told : List Told). told_here c ++ told) both ∙ sym (one_by m c e)

  enough : (n m : ℕ) (c : TimedCore) → end - c.clock < n → end - c.clock < m → told_next image end n c ≡ told_next image end m c
  enough zero m c one other = absurd (omega (arith, one))
  enough (suc n) zero c one other = absurd (omega (arith, other))
  enough (suc n) (suc m) c one other = same_by n m c (goes_on_alone end c) refl one other (λ later more still. enough n m later more still)

  -- ---- of all of them

  -- nothing is told of a core that stops
  pub none_told : (c : TimedCore) → goes_on_alone end c ≡ false → told_alone image end c ≡ []
  none_told c stops = none_by (suc (end - c.clock)) c stops

  one_alone : (c : TimedCore) → goes_on_alone end c ≡ true → told_alone image end c ≡ told_here c ++ told_alone image end (after_instruction image c)
  one_alone c on =
      let next : TimedCore = after_instruction image c in
      let both = behind_one (end - c.clock) (suc (end - next.clock)) c on (λ early grows. enough (end - c.clock) (suc (end - next.clock)) next (omega (arith, grows, early)) (omega arith)) in
      one_by (end - c.clock) c on ∙ ap (λ (told : List Told). told_here c ++ told) both

  -- of one that goes on its next instruction is told, if it is counted, and what is told behind it
  next_told : (c next : TimedCore) (count : ℕ) → goes_on_alone end c ≡ true → after_instruction image c ≡ next → next.instructions ≡ c.instructions + count
      → told_alone image end c ≡ replicate count (Ran c.core.pc) ++ told_alone image end next
  next_told c next count on is counts =
      let same : (after_instruction image c).instructions ≡ next.instructions = ap (λ (t : TimedCore). t.instructions) is in
      let many : (after_instruction image c).instructions - c.instructions ≡ count = omega (arith, same, counts) in
      one_alone c on ∙ ap (λ (k : ℕ). replicate k (Ran c.core.pc) ++ told_alone image end (after_instruction image c)) many
      ∙ ap (λ (t : TimedCore). replicate count (Ran c.core.pc) ++ told_alone image end t) is

  pub counted_told : (c next : TimedCore) → goes_on_alone end c ≡ true → after_instruction image c ≡ next → next.instructions ≡ c.instructions + 1
      → told_alone image end c ≡ Ran c.core.pc ∷ told_alone image end next
  counted_told c next on is one = next_told c next 1 on is one

  pub uncounted_told : (c next : TimedCore) → goes_on_alone end c ≡ true → after_instruction image c ≡ next → next.instructions ≡ c.instructions
      → told_alone image end c ≡ told_alone image end next
  uncounted_told c next on is same = next_told c next 0 on is (omega (arith, same))

  -- one that has fetched its instruction tells what it would tell in the line of that fetch
  pub taking_told : (c : TimedCore) → c.pace ≡ None → is_free c.core ≡ true → c.clock < end → needs_fetch image c.core ≡ false
      → told_alone image end (taking c) ≡ told_alone image end c
  taking_told c none free early there =
      let next : TimedCore = after_instruction image c in
      let is : after_instruction image (taking c) ≡ next = taking_next image c none there in
      one_alone (taking c) (goes_on_by end (taking c) free early)
      ∙ ap (λ (t : TimedCore). replicate (t.instructions - c.instructions) (Ran c.core.pc) ++ told_alone image end t) is
      ∙ sym (one_alone c (goes_on_by end c free early))

module _ (image : MemoryImage) (end : ℕ) (line : Option ℕ) (c : TimedCore) (none : c.pace ≡ None) (there : IsThere image c.core line) (free : is_free c.core ≡ true) (fetched : c.core.is_fetched ≡ false) where
  -- instructions alone, each in the line, are told, and what is told behind them
  pub led_told : (n : ℕ) (after : List ℕ) (pc_after : ℕ) → c.clock + n ≤ end → (led : LeadsTo line n image c.core.registers c.core.pc after pc_after)
      → leading_told line n image c.core.registers c.core.pc after pc_after led ++ told_alone image end (ahead n (timed_at c after pc_after)) ≡ told_alone image end c
  led_told zero after pc_after room led = ap (told_alone image end) (at_itself c after pc_after led.0 led.1)
  led_told (suc n) after pc_after room (between, (pc_between, (led, lies, leads))) =
      let here : TimedCore = timed_at c between pc_between in
      let now : TimedCore = ahead n here in
      let next : TimedCore = ahead (suc n) (timed_at c after pc_after) in
      let before : List Told = leading_told line n image c.core.registers c.core.pc between pc_between led in
      let step : after_instruction image now ≡ next = one_on image here (at c.core after pc_after) n none (there between pc_between lies) fetched (leads c.core) (counted c.core free) in
      append_assoc before (Ran pc_between ∷ []) (told_alone image end next)
      ∙ ap (λ (told : List Told). before ++ told) (sym (counted_told image end now next (goes_on_by end now free (omega (arith, room))) step (omega arith)))
      ∙ led_told n between pc_between (omega (arith, room)) led
