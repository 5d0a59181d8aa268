-- The accesses that wait for their events, core by core.
use Rattle.std.specs.Prelude.{◌≡◌, ℕ, ◌==◌, List, [], ◌∷◌, slice_index_or, Option, Some, None}
use Rattle.std.specs.List.{filter}
use Rattle.profile.specs.declared.contribution.Maker.{Maker}

-- those of a core; a core that is not there has none
abbrev pub queue_at : List (List Maker) → (core : ℕ) → List Maker
queue_at queues core = slice_index_or queues core []

abbrev pub of_core : (core : ℕ) → List Maker → List Maker
of_core core makers = filter (λ m. m.core == core) makers

-- the queues have these accesses, each that of its core, in order
abbrev pub HaveMakers : List (List Maker) → List Maker → Type 0
HaveMakers queues makers = (core : ℕ) → queue_at queues core ≡ of_core core makers

abbrev pub head : List Maker → Option Maker
head [] = None
head (m ∷ makers) = Some m

abbrev pub tail : List Maker → List Maker
tail [] = []
tail (m ∷ makers) = makers
