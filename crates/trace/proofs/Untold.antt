-- What legs tell of whose accesses nothing is told.
use Rattle.std.proofs.Common.{◌≡◌, ◌-◌, ◌<◌, ◌≤◌, ℕ, false, true, List, [], ◌∷◌, ◌++◌, append_assoc, drop, length, take, Some, refl, sym, ◌∙◌, ap, arith}
use Rattle.std.specs.Prelude.{slice_get}
use Rattle.std.proofs.lemmas.Grind.{flat_map-append}
use Rattle.std.proofs.lemmas.List.{append-nil, drop_all, length-drop, take_all}
use Rattle.zs_num.specs.declared.entry.Entry.{Entry}
use Rattle.rv_core.specs.declared.leg.Leg.{Leg}
use Rattle.rv_core.specs.Told.{Made, Ran, Told, leg_told, told_of}
use Rattle.trace.specs.EachCore.{TellsUpTo, untold_steps}
use Rattle.trace.specs.Trace.{Executed, Step, stretch_steps}
use Rattle.trace.specs.Ways.{told_steps}
use Rattle.trace.proofs.WayTold.{leg_more, plain_leg}

module _ (number : ℕ) where
  bare_apart : (told more : List Told) → told_steps number (told ++ more) [] ≡ told_steps number told [] ++ told_steps number more []
  bare_apart [] more = refl
  bare_apart (Ran pc ∷ told) more = ap (λ (steps : List Step). Executed number pc ∷ steps) (bare_apart told more)
  bare_apart (Made pc ∷ told) more = bare_apart told more

  -- legs behind others
  pub untold_behind : (legs more : List Leg) → untold_steps number (legs ++ more) ≡ untold_steps number legs ++ untold_steps number more
  untold_behind legs more =
      ap (λ (told : List Told). told_steps number told []) (flat_map-append leg_told legs more)
      ∙ bare_apart (told_of legs) (told_of more)

  -- one leg, which made no access
  pub untold_leg : (leg : Leg) → leg.made ≡ false → untold_steps number (leg ∷ []) ≡ stretch_steps number leg.pc leg.count
  untold_leg leg none =
      ap (λ (told : List Told). told_steps number told []) (leg_more number leg [])
      ∙ (plain_leg number leg [] [] none ∙ append-nil (stretch_steps number leg.pc leg.count))

  -- one leg more, which made no access
  pub leg_behind : (legs : List Leg) (leg : Leg) → leg.made ≡ false
      → untold_steps number (legs ++ leg ∷ []) ≡ untold_steps number legs ++ stretch_steps number leg.pc leg.count
  leg_behind legs leg none = untold_behind legs (leg ∷ []) ∙ ap (λ (steps : List Step). untold_steps number legs ++ steps) (untold_leg leg none)

-- ---- a way up to its last access

-- where each leg of a list was put behind others, none is left
pub all_behind : (now was legs : List Leg) (k : ℕ) → now ++ drop k legs ≡ was ++ legs → length legs ≤ k → now ≡ was ++ legs
all_behind now was legs k so_far all = sym (append-nil now) ∙ (ap (λ (left : List Leg). now ++ left) (sym (drop_all k legs all)) ∙ so_far)

-- the legs from this one on are the last ones
pub last_legs : (way : List Leg) (made : ℕ) → take (length way - made) (drop made way) ≡ drop made way
last_legs way made = take_all (length way - made) (drop made way) (omega (arith, length-drop made way))

module _ (number : ℕ) (way : List Leg) (made : ℕ) (entries : List Entry) (untold untold_after : List Leg) (steps steps_after : List Step)
    (within : made ≤ length way)
    (last : 0 < made → (leg : Leg) → slice_get way (made - 1) ≡ Some leg → leg.made ≡ true)
    (behind : (i : ℕ) (leg : Leg) → made ≤ i → slice_get way i ≡ Some leg → leg.made ≡ false) where
  -- a way without an access stays untold
  pub none_made : made ≤ 0 → steps_after ≡ steps → untold_after ≡ untold ++ drop made way → TellsUpTo number way made entries untold untold_after steps steps_after
  none_made few same left =
      let zero : made ≡ 0 = omega (arith, few) in
      record {
        within = within;
        last = last;
        behind = behind;
        none = λ is. (same, left ∙ ap (λ (n : ℕ). untold ++ drop n way) zero);
        some = λ more. absurd (omega (arith, more, few));
      }

  -- One with an access was told up to there, and before it what was untold. What comes behind is untold.
  pub some_made : (between : List Step) → 0 < made → between ≡ steps ++ untold_steps number untold → steps_after ≡ between ++ told_steps number (told_of (take made way)) entries
      → untold_after ≡ drop made way → TellsUpTo number way made entries untold untold_after steps steps_after
  some_made between more before told left = record {
    within = within;
    last = last;
    behind = behind;
    none = λ is. absurd (omega (arith, more, is));
    some = λ is.
        let own = told_steps number (told_of (take made way)) entries in
        (told ∙ (ap (λ (so_far : List Step). so_far ++ own) before ∙ append_assoc steps (untold_steps number untold) own), left);
  }
