-- What holds between any two steps on the table. There is one history of accesses, in the order in which their holds
-- ended, which nothing stores. What a seat logs are those of its core, what a shard has become is what its own have
-- made of it, and what a seat noted of a shard are the first of these.
use Rattle.std.specs.Prelude.{◌≡◌, ℕ, ◌+◌, ◌*◌, ◌<◌, ◌⊎◌, List, [], ◌∷◌, length, slice_get, slice_index, All, Some}
use mathlib.Core.Option.{some}
use lib.ListN.{get_elem?}
use Rattle.zs_num.specs.declared.entry.Entry.{Entry}
use Rattle.access_log.specs.History.{of_bank, of_core}
use Rattle.atomic_table.specs.Table.{State}
use Rattle.shard.specs.Served.{ShardState}
use Rattle.shard_table.specs.declared.view.View.{View}
use Rattle.shard_table.specs.declared.view.CoreAccesses.{CoreAccesses}
use Rattle.shard_table.specs.declared.view.ShardAccesses.{ShardAccesses}
use Rattle.shard_table.specs.Lives.{AreAccesses, AreNew, IsPrefix, after_all}

-- the word of a shard
abbrev pub word_index : (shard : ℕ) → ℕ
word_index shard = 16 * shard

-- among these are the accesses of the core
abbrev pub Has : (core : ℕ) → List CoreAccesses → Type 0
Has core [] = ⊥
Has core (part ∷ parts) = (part.core ≡ core) ⊎ Has core parts

-- no core twice
abbrev pub AreDistinct : List CoreAccesses → Type 0
AreDistinct [] = Unit {0}
AreDistinct (part ∷ parts) = (Has part.core parts → ⊥) × AreDistinct parts

-- no two seats have the same core
abbrev pub HaveOwnCores : List View → Type 0
HaveOwnCores views = (place other core : ℕ) (v w : View) → get_elem? views place ≡ some v → get_elem? views other ≡ some w
    → Has core v.parts → Has core w.parts → place ≡ other

-- the first seat knows that no core has a seat or accesses from the number of seats made on
abbrev pub AreBelowMade : List Entry → List View → Type 0
AreBelowMade history views = (place : ℕ) (v : View) → get_elem? views place ≡ some v → 0 < v.made
    → All (λ e. e.core < v.made) history
    × ((other core : ℕ) (w : View) → get_elem? views other ≡ some w → Has core w.parts → core < v.made)

-- each of these notes has the first accesses of the history to its shard, which is one of so many
abbrev pub AreTrueNotes : (shards : ℕ) → (history : List Entry) → List ShardAccesses → Type 0
AreTrueNotes shards history notes = All (λ note. IsPrefix note.list (of_bank shards note.shard history)) notes

module _ (shards : List ShardState) (cores room : ℕ) where
  -- what a seat knows is true of the history and the words
  pub record IsTrueOfHistory (history : List Entry) (words : List ℕ) (v : View) : Type 0 where
    pub opening : 0 < length v.parts → (v.shards ≡ shards) × (v.cores ≡ cores) × (v.room ≡ room)
    pub parts : All (λ part. (part.core < cores) × (part.list ≡ of_core part.core history)) v.parts
    pub distinct : AreDistinct v.parts
    pub hold : (served : ShardAccesses) → v.hold ≡ Some served
        → (part : CoreAccesses) × (v.parts ≡ part ∷ []) × (served.shard < length shards)
        × (slice_index words (word_index served.shard) ≡ part.core + 1) × (served.list ≡ of_bank (length shards) served.shard history)
    pub notes : AreTrueNotes (length shards) history v.notes
    pub first : 0 < v.made → Has 0 v.parts

  pub record AreHoldsAtTable (s : State ShardState View) : Type 0 where
    pub history : List Entry
    pub begins : AreNew shards
    pub accesses : AreAccesses shards cores room history
    pub words : length s.words ≡ 16 * length shards
    pub homes : length s.homes ≡ length shards
    -- where nobody holds it, a shard is at home as its accesses have left it
    pub home : (number : ℕ) (shard : ShardState) → slice_get shards number ≡ Some shard → slice_index s.words (word_index number) ≡ 0
        → get_elem? s.homes number ≡ some (some (after_all shard (of_bank (length shards) number history)))
    -- else some seat has it
    pub busy : (number : ℕ) → number < length shards → 0 < slice_index s.words (word_index number)
        → (place : ℕ) × (v : View) × (served : ShardAccesses) × (get_elem? s.views place ≡ some v) × (v.hold ≡ Some served) × (served.shard ≡ number)
    pub seats : (place : ℕ) (v : View) → get_elem? s.views place ≡ some v → IsTrueOfHistory history s.words v
    pub apart : HaveOwnCores s.views
    pub fresh : AreBelowMade history s.views
