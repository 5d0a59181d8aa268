-- The steps that a core takes by itself, one by one.
use Rattle.std.proofs.Common.{◌≡◌, inl, inr, ℕ, zero, suc, ◌+◌, ◌-◌, ◌<◌, ◌≤◌, Bool, true, false, List, [], ◌∷◌, ◌++◌, append_assoc, refl, sym, ◌∙◌, ap, arith}
use Rattle.std.specs.Prelude.{replicate, if◌then◌else◌}
use Rattle.std.proofs.lemmas.Bool.{cases_lt}
use Rattle.std.proofs.lemmas.List.{append-nil}
use Rattle.elf_load.specs.MemoryImage.{MemoryImage}
use Rattle.bound_core.specs.TimedCore.{TimedCore, after_instruction, goes_on_alone, ran_to}
use Rattle.reference.proofs.Instructions.{cycle_or_stops, late_stops, not_earlier, same_end}
use Rattle.trace.specs.Trace.{Executed, Step, executed_by, local_steps, steps_alone}

-- an instruction that was counted is one step, and one that was not is none
pub one_executed : (number counted : ℕ) (before after : TimedCore) → after.instructions ≡ before.instructions + counted → counted ≡ 1
    → executed_by number before after ≡ Executed number before.core.pc ∷ []
one_executed number counted before after is one =
    let n : after.instructions - before.instructions ≡ 1 = omega (arith, is, one) in
    ap (λ (k : ℕ). replicate k (Executed number before.core.pc)) n

pub none_executed : (number counted : ℕ) (before after : TimedCore) → after.instructions ≡ before.instructions + counted → counted ≡ 0
    → executed_by number before after ≡ []
none_executed number counted before after is none =
    let n : after.instructions - before.instructions ≡ 0 = omega (arith, is, none) in
    ap (λ (k : ℕ). replicate k (Executed number before.core.pc)) n

module _ (image : MemoryImage) (end number : ℕ) where
  -- a core that does not go on takes no step
  none_by : (n : ℕ) (c : TimedCore) → goes_on_alone end c ≡ false → local_steps image end n number c ≡ []
  none_by zero c stops = refl
  none_by (suc n) c stops = rw stops refl

  one_by : (n : ℕ) (c : TimedCore) → goes_on_alone end c ≡ true
      → local_steps image end (suc n) number c ≡ executed_by number c (after_instruction image c) ++ local_steps image end n number (after_instruction image c)
  one_by n c on = rw on refl

  past_stops : (c : TimedCore) → end ≤ (after_instruction image c).clock → goes_on_alone end (after_instruction image c) ≡ false
  past_stops c past =
      elim (cycle_or_stops image end c) [
        | inl one ↦ late_stops end (after_instruction image c) one.1 past
        | inr stops ↦ stops.1
      ]

  late_by_one : (c : TimedCore) → end ≤ c.clock → goes_on_alone end (after_instruction image c) ≡ false
  late_by_one c late = past_stops c (omega (arith, not_earlier image c, late))

  -- two numbers of instructions that are more than the cycles that are left give the same steps
  same_by : (n m : ℕ) (c : TimedCore) (goes_on : Bool) → goes_on_alone end c ≡ goes_on → end - c.clock < suc n → end - c.clock < suc m
      → ((later : TimedCore) → end - later.clock < n → end - later.clock < m → local_steps image end n number later ≡ local_steps image end m number later)
      → local_steps image end (suc n) number c ≡ local_steps image end (suc m) number c
  same_by n m c false e one other rest = none_by (suc n) c e ∙ sym (none_by (suc m) c e)
  same_by n m c true e one other rest =
      let next : TimedCore = after_instruction image c in
      let stop : goes_on_alone end next ≡ false → local_steps image end n number next ≡ local_steps image end m number next =
      λ stops. none_by n next stops ∙ sym (none_by m next stops)
      in
      let both : local_steps image end n number next ≡ local_steps image end m number next = elim (cases_lt c.clock end) [
        | inl early ↦
            (elim (cycle_or_stops image end c) [
              | inl grows ↦ rest next (omega (arith, grows.0, one, early)) (omega (arith, grows.0, other, early))
              | inr stops ↦ stop stops.1
            ])
        | inr late ↦ stop (late_by_one c late)
      ] in
      one_by n c e ∙ ap (λ (steps : List Step). executed_by number c next ++ steps) both ∙ sym (one_by m c e)

  enough : (n m : ℕ) (c : TimedCore) → end - c.clock < n → end - c.clock < m → local_steps image end n number c ≡ local_steps image end m number c
  enough zero m c one other = absurd (omega (arith, one))
  enough (suc n) zero c one other = absurd (omega (arith, other))
  enough (suc n) (suc m) c one other = same_by n m c (goes_on_alone end c) refl one other (λ later more still. enough n m later more still)

  -- all steps of a core that stops
  pub none_alone : (c : TimedCore) → goes_on_alone end c ≡ false → steps_alone image end number c ≡ []
  none_alone c stops = none_by (suc (end - c.clock)) c stops

  -- those of one that goes on are that of its next instruction, and those behind it
  pub one_alone : (c : TimedCore) → goes_on_alone end c ≡ true
      → steps_alone image end number c ≡ executed_by number c (after_instruction image c) ++ steps_alone image end number (after_instruction image c)
  one_alone c on =
      let next : TimedCore = after_instruction image c in
      let whole : steps_alone image end number c ≡ executed_by number c next ++ local_steps image end (end - c.clock) number next = one_by (end - c.clock) c on in
      let stop : goes_on_alone end next ≡ false → local_steps image end (end - c.clock) number next ≡ steps_alone image end number next =
      λ stops. none_by (end - c.clock) next stops ∙ sym (none_alone next stops)
      in
      let both : local_steps image end (end - c.clock) number next ≡ steps_alone image end number next = elim (cases_lt c.clock end) [
        | inl early ↦
            (elim (cycle_or_stops image end c) [
              | inl one ↦ enough (end - c.clock) (suc (end - next.clock)) next (omega (arith, one.0, early)) (omega arith)
              | inr stops ↦ stop stops.1
            ])
        | inr late ↦ stop (late_by_one c late)
      ] in
      whole ∙ ap (λ (steps : List Step). executed_by number c next ++ steps) both

-- one step more of a core that is told step by step, with what was told before and behind it
module _ (image : MemoryImage) (end number : ℕ) (c next : TimedCore) (told later : List Step) where
  pub still_told : (on : Bool) → goes_on_alone end c ≡ on → (on ≡ true → next ≡ after_instruction image c) → (on ≡ false → next ≡ c)
      → later ≡ told ++ (if on then executed_by number c next else []) → later ++ steps_alone image end number next ≡ told ++ steps_alone image end number c
  still_told true is goes stays more =
      let at : next ≡ after_instruction image c = goes refl in
      ap (λ (steps : List Step). steps ++ steps_alone image end number next) more
      ∙ append_assoc told (executed_by number c next) (steps_alone image end number next)
      ∙ ap (λ (x : TimedCore). told ++ (executed_by number c x ++ steps_alone image end number x)) at
      ∙ ap (λ (steps : List Step). told ++ steps) (sym (one_alone image end number c is))
  still_told false is goes stays more =
      ap (λ (steps : List Step). steps ++ steps_alone image end number next) (more ∙ append-nil told)
      ∙ ap (λ (x : TimedCore). told ++ steps_alone image end number x) (stays refl)

  pub stopped_by : (on : Bool) → goes_on_alone end c ≡ on → (on ≡ false → next ≡ c) → on ≡ false → goes_on_alone end next ≡ false
  stopped_by on is stays off = ap (goes_on_alone end) (stays off) ∙ is ∙ off

  pub still_ran : (on : Bool) → goes_on_alone end c ≡ on → (on ≡ true → next ≡ after_instruction image c) → (on ≡ false → next ≡ c) → ran_to image end next ≡ ran_to image end c
  still_ran true is goes stays = ap (ran_to image end) (goes refl) ∙ same_end image end c is
  still_ran false is goes stays = ap (ran_to image end) (stays refl)
