-- What one step more adds, and what there is after it.
use Rattle.std.proofs.Common.{◌≡◌, ℕ, Bool, List, [], ◌∷◌, ◌++◌, refl, sym, ◌∙◌, ap, append-nil, append_assoc}
use Rattle.zs_num.specs.declared.entry.Entry.{Entry}
use Rattle.trace.specs.Trace.{Step}
use Rattle.profile.specs.declared.contribution.Contribution.{Contribution}
use Rattle.profile.specs.Contributions.{Before, after_step, after_steps, step_adds, steps_add}
use Rattle.profile.specs.Copies.{Copies}
use Rattle.profile.specs.Series.{Series, series_after, series_from}

-- copies that are the same one by one are the same
pub same_copies : (a b : Copies) → ((f : Bool) (c n : ℕ) → a f c n ≡ b f c n) → a ≡ b
same_copies a b same = λ i f c n. same f c n i

pub after_more : (before : Before) (steps : List Step) (step : Step) → after_steps before (steps ++ step ∷ []) ≡ after_step (after_steps before steps) step
after_more before [] step = refl
after_more before (first ∷ steps) step = after_more (after_step before first) steps step

module _ (time : Entry → ℕ) (cores : ℕ) where
  pub adds_more : (before : Before) (steps : List Step) (step : Step)
      → steps_add time cores before (steps ++ step ∷ []) ≡ steps_add time cores before steps ++ step_adds time cores (after_steps before steps) step
  adds_more before [] step = append-nil (step_adds time cores before step)
  adds_more before (first ∷ steps) step =
      ap (λ (cs : List Contribution). step_adds time cores before first ++ cs) (adds_more (after_step before first) steps step)
      ∙ sym (append_assoc (step_adds time cores before first) (steps_add time cores (after_step before first) steps) (step_adds time cores (after_steps (after_step before first) steps) step))

  module _ (comps every : ℕ) where
    pub series_more : (before : Before) (s : Series) (steps : List Step) (step : Step)
        → series_from time cores comps every before s (steps ++ step ∷ []) ≡ series_after time cores comps every (after_steps before steps) (series_from time cores comps every before s steps) step
    series_more before s [] step = refl
    series_more before s (first ∷ steps) step = series_more (after_step before first) (series_after time cores comps every before s first) steps step
