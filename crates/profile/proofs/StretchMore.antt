-- The parts and the series of a profile after instructions that follow each other.
use Rattle.std.proofs.Common.{◌≡◌, ℕ, zero, suc, ◌+◌, List, [], ◌∷◌, ◌++◌, sym, ◌∙◌, ap, subst, append-nil, append_assoc, arith}
use Rattle.zs_num.specs.declared.entry.Entry.{Entry}
use Rattle.trace.specs.Trace.{Executed, Step, stretch_steps}
use Rattle.profile.specs.declared.parts.Parts.{Parts}
use Rattle.profile.specs.Contributions.{Before}
use Rattle.profile.specs.Parts.{AreParts}
use Rattle.profile.specs.Series.{Series, series_from}
use Rattle.profile.proofs.PartsMore.{executed_more}
use Rattle.profile.proofs.StepsMore.{series_more}

module _ (time : Entry → ℕ) (cores : ℕ) where
  pub parts_stretch : (steps : List Step) (parts : Parts) (core pc count : ℕ) → AreParts time cores steps parts → AreParts time cores (steps ++ stretch_steps core pc count) parts
  parts_stretch steps parts core pc zero are = subst (λ (all : List Step). AreParts time cores all parts) (sym (append-nil steps)) are
  parts_stretch steps parts core pc (suc n) are =
      subst (λ (all : List Step). AreParts time cores all parts) (append_assoc steps (Executed core pc ∷ []) (stretch_steps core (pc + 4) n))
      (parts_stretch (steps ++ Executed core pc ∷ []) parts core (pc + 4) n (executed_more time cores steps parts parts are core pc))

  -- the interval that began has so many instructions more
  abbrev with_more : Series → (count : ℕ) → Series
  with_more s count = record s { begun = record s.begun { instructions = s.begun.instructions + count } }

  module _ (comps every : ℕ) (before : Before) (s : Series) where
    abbrev after : List Step → Series
    after steps = series_from time cores comps every before s steps

    pub series_stretch : (steps : List Step) (core pc count : ℕ) → after (steps ++ stretch_steps core pc count) ≡ with_more (after steps) count
    series_stretch steps core pc zero =
        ap after (append-nil steps) ∙ ap (λ (n : ℕ). let t : Series = record (after steps) { begun = record (after steps).begun { instructions = n } } in t) (omega arith)
    series_stretch steps core pc (suc n) =
        ap after (sym (append_assoc steps (Executed core pc ∷ []) (stretch_steps core (pc + 4) n)))
        ∙ series_stretch (steps ++ Executed core pc ∷ []) core (pc + 4) n
        ∙ ap (λ (t : Series). with_more t n) (series_more time cores comps every before s steps (Executed core pc))
        ∙ ap (λ (k : ℕ). let t : Series = record (after steps) { begun = record (after steps).begun { instructions = k } } in t) (omega arith)
