-- Where a line lies. Lines are dealt to the banks in turn, and each bank has a shard; in each shard they are dealt to
-- its sets in turn. So the bank of a line is its number modulo the banks, and with as many sets in each shard the set
-- of a line among all sets is its number modulo these.
use Rattle.std.specs.Prelude.{ℕ, ◌/◌, ◌%◌, List, [], length, slice_index_or, slice_set}

module _ {X : Type 0} where
  -- the number of a line's set among the sets of its shard
  abbrev pub set_number : (shards line : ℕ) → (sets : List (List X)) → ℕ
  set_number shards line sets = line / shards % length sets

  -- the set of a line
  abbrev pub set_of : (shards line : ℕ) → (sets : List (List X)) → List X
  set_of shards line sets = slice_index_or sets (set_number shards line sets) []

  -- the sets after a change of this line's
  abbrev pub in_set_of : (shards line : ℕ) → (List X → List X) → (sets : List (List X)) → List (List X)
  in_set_of shards line change sets = slice_set sets (set_number shards line sets) (change (set_of shards line sets))
