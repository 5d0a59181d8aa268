-- What holds between any two steps on the table. There is one history of accesses, in the order in which they were
-- published, which nothing stores: it is a run of the parts. What a seat has published are those of its core, what a part
-- has become is what they have made of it, and what a seat knows of the parts that it holds is that too.
use Rattle.std.specs.Prelude.{◌≡◌, ℕ, ◌+◌, ◌*◌, ◌<◌, ◌≤◌, ◌⊎◌, List, [], ◌∷◌, length, slice_get, slice_index, All, Option, Some}
use mathlib.Core.Option.{some}
use lib.ListN.{get_elem?}
use Rattle.atomic_table.specs.Table.{State}
use Rattle.parts_table.specs.TurnOrder.{by_core}
use Rattle.parts_table.specs.World.{AreRight, IsSound, MayAsk, lived, world_of}
use Rattle.parts_table.specs.declared.part.TimedPart.{TimedPart}
use Rattle.parts_table.specs.declared.view.CoreAccesses.{CoreAccesses}
use Rattle.parts_table.specs.declared.view.Hold.{Hold}
use Rattle.parts_table.specs.declared.view.Made.{Made}
use Rattle.parts_table.specs.declared.view.View.{View}

-- the word of a part
abbrev pub word_index : (part : ℕ) → ℕ
word_index part = 16 * part

-- the word that tells that a core's L1 is wanted
abbrev pub want_index : (cores banks core : ℕ) → ℕ
want_index cores banks core = 16 * (cores + banks + core)

-- among these are the accesses of the core
abbrev pub Has : (core : ℕ) → List CoreAccesses → Type 0
Has core [] = ⊥
Has core (log ∷ logs) = (log.core ≡ core) ⊎ Has core logs

-- no core twice
abbrev pub AreDistinct : List CoreAccesses → Type 0
AreDistinct [] = Unit {0}
AreDistinct (log ∷ logs) = (Has log.core logs → ⊥) × AreDistinct logs

-- the part is among these
abbrev pub Holds : (part : ℕ) → List Hold → Type 0
Holds part [] = ⊥
Holds part (h ∷ holds) = (h.part ≡ part) ⊎ Holds part holds

-- no two seats have the same core
abbrev pub HaveOwnCores : List View → Type 0
HaveOwnCores views = (place other core : ℕ) (v w : View) → get_elem? views place ≡ some v → get_elem? views other ≡ some w
    → Has core v.logs → Has core w.logs → place ≡ other

-- the first seat knows that no core has a seat or accesses from the number of seats made on
abbrev pub AreBelowMade : List Made → List View → Type 0
AreBelowMade history views = (place : ℕ) (v : View) → get_elem? views place ≡ some v → 0 < v.made
    → All (λ a. a.entry.core < v.made) history
    × ((other core : ℕ) (w : View) → get_elem? views other ≡ some w → Has core w.logs → core < v.made)

module _ (opening : List (Option TimedPart)) (cores banks room : ℕ) where
  -- The accesses of cores to these parts, in the order in which they were published. A time counts shared accesses.
  pub record AreAccesses (history : List Made) : Type 0 where
    pub asked : All (λ a. MayAsk cores banks (world_of opening) a.entry.core a.entry.request) history
    pub right : AreRight cores banks (world_of opening) history
    pub low : (part : ℕ) → (lived cores banks (world_of opening) history part).time ≤ length history
    pub fits : (core : ℕ) → length (by_core core history) ≤ room

  -- The core has these parts, each once, as the history leaves them.
  abbrev pub AreHeld : List Made → (words : List ℕ) → (core : ℕ) → List Hold → Type 0
  AreHeld history words core [] = Unit {0}
  AreHeld history words core (h ∷ holds) =
      (h.part < cores + banks) × (slice_index words (word_index h.part) ≡ core + 1) × (h.value ≡ lived cores banks (world_of opening) history h.part)
      × (Holds h.part holds → ⊥) × AreHeld history words core holds

  -- what a seat knows is true of the history and the words
  pub record IsTrueOfHistory (history : List Made) (words : List ℕ) (v : View) : Type 0 where
    pub begins : 0 < length v.logs → (v.opening ≡ opening) × (v.cores ≡ cores) × (v.banks ≡ banks) × (v.room ≡ room)
    pub logs : All (λ log. (log.core < cores) × (log.list ≡ by_core log.core history)) v.logs
    pub distinct : AreDistinct v.logs
    pub holds : 0 < length v.holds → (log : CoreAccesses) × (v.logs ≡ log ∷ []) × AreHeld history words log.core v.holds
    pub first : 0 < v.made → Has 0 v.logs

  -- The parts before the first access: all times are 0.
  pub record HasOpened : Type 0 where
    pub count : length opening ≡ cores + banks
    pub there : (part : ℕ) → part < cores + banks → (value : TimedPart) × (slice_get opening part ≡ Some (Some value)) × (value.time ≡ 0)
    pub sound : IsSound cores banks (world_of opening)

  pub record AreHoldsAtTable (s : State (Option TimedPart) View) : Type 0 where
    pub history : List Made
    pub opened : HasOpened
    pub accesses : AreAccesses history
    -- a word for each part, and one for each core whose L1 another core wants: of those nothing is said
    pub words : length s.words ≡ 16 * (cores + banks + cores)
    pub homes : length s.homes ≡ cores + banks
    -- where nobody holds it, a part is at home as the accesses have left it
    pub home : (part : ℕ) → part < cores + banks → slice_index s.words (word_index part) ≡ 0
        → get_elem? s.homes part ≡ some (some (Some (lived cores banks (world_of opening) history part)))
    -- else some seat has it
    pub busy : (part : ℕ) → part < cores + banks → 0 < slice_index s.words (word_index part)
        → (place : ℕ) × (v : View) × (get_elem? s.views place ≡ some v) × Holds part v.holds
    pub seats : (place : ℕ) (v : View) → get_elem? s.views place ≡ some v → IsTrueOfHistory history s.words v
    pub apart : HaveOwnCores s.views
    pub fresh : AreBelowMade history s.views
