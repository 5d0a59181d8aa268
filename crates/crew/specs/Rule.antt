-- The rule of a post: what holds of its words, its slot and of what the two know between any two steps.
use Rattle.std.specs.Prelude.{◌≡◌, ◌⊎◌, ℕ, [], ◌∷◌, length, slice_index, Option, Some, None}
use mathlib.Core.Option as at_home
use Rattle.atomic_table.specs.Table.{State}
use Rattle.crew.specs.declared.view.Stage.{Stage}
use Rattle.crew.specs.declared.view.Stage.TheVariants.{Free, Busy, Ended}
use Rattle.crew.specs.declared.view.View.{View}
use Rattle.crew.specs.declared.view.View.TheVariants.{Begun, Alone, Asks, Works}

-- what the slot has, where nobody has it in hand
abbrev pub Home : Type 0 → Type 0
Home J = at_home.Option (Option J)

module _ {J : Type 0} (can : J → Type 0) (done : J → J → Type 0) where
  -- A job that may be asked for lies in the slot.
  pub record LiesSent (n : ℕ) (home : Home J) (sent : J) : Type 0 where
    pub word : n ≡ 1
    pub there : home ≡ at_home.some (Some sent)
    pub may : can sent

  -- An answer to it lies in the slot.
  pub record LiesAnswered (n : ℕ) (home : Home J) (sent : J) : Type 0 where
    pub word : n ≡ 3
    pub answer : J
    pub there : home ≡ at_home.some (Some answer)
    pub is_done : done sent answer

  -- What the word n and the slot are, by how far the asker and the worker are.
  abbrev pub Fits : (n : ℕ) → Home J → (asker worker : Stage J) → Type 0
  Fits n home Free Free = (n ≡ 0) × (home ≡ at_home.none)
  Fits n home Free (Busy had) = ⊥
  Fits n home Free Ended = ⊥
  Fits n home (Busy sent) Free = LiesSent n home sent ⊎ LiesAnswered n home sent
  Fits n home (Busy sent) (Busy had) = (n ≡ 2) × (home ≡ at_home.none) × (had ≡ sent)
  Fits n home (Busy sent) Ended = ⊥
  Fits n home Ended Free = (n ≡ 4) × (home ≡ at_home.none)
  Fits n home Ended (Busy had) = ⊥
  Fits n home Ended Ended = (n ≡ 4) × (home ≡ at_home.none)

  -- Nothing was done yet, and the slot is empty.
  pub record IsBegun (s : State (Option J) (View J)) : Type 0 where
    pub views : s.views ≡ Begun ∷ []
    pub homes : s.homes ≡ at_home.some None ∷ []
    pub word : slice_index s.words 16 ≡ 0

  -- One seat has the slot in hand.
  pub record IsAlone (s : State (Option J) (View J)) : Type 0 where
    pub views : s.views ≡ Alone ∷ []
    pub homes : s.homes ≡ at_home.none ∷ []
    pub word : slice_index s.words 16 ≡ 0

  -- There are the asker and the worker.
  pub record IsManned (s : State (Option J) (View J)) : Type 0 where
    pub asker : Stage J
    pub worker : Stage J
    pub home : Home J
    pub views : s.views ≡ Asks asker ∷ Works worker ∷ []
    pub homes : s.homes ≡ home ∷ []
    pub fits : Fits (slice_index s.words 16) home asker worker

  pub record IsPost (s : State (Option J) (View J)) : Type 0 where
    pub words : length s.words ≡ 32
    pub manned : IsBegun s ⊎ IsAlone s ⊎ IsManned s
