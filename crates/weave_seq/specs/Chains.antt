-- The children of each event, as a chain from the last of them to the one before, and so on. 0 ends a chain: event 0
-- has no parents.
use Rattle.std.specs.Prelude.{◌≡◌, ◌<◌, ◌≤◌, ℕ, List, map, length, slice_index, slice_index_or, slice_set, Option, Some, None}
use Rattle.event_graph.specs.declared.event.Event.{Event}
use Rattle.event_graph.specs.declared.event.Parent.{Parent}
use Rattle.weave_seq.specs.declared.children.ParentSlot.{ParentSlot}
use Rattle.weave_seq.specs.declared.children.ParentSlot.TheVariants.{First, Second}

abbrev pub parent_in : ParentSlot → Event → Option Parent
parent_in First e = e.first
parent_in Second e = e.second

-- each event's parent in this slot
abbrev pub parents_in : ParentSlot → List Event → List (Option Parent)
parents_in slot events = map (parent_in slot) events

-- p is the parent of the event c
abbrev pub IsParent : List (Option Parent) → ℕ → Parent → Type 0
IsParent parents c p = slice_index_or parents c None ≡ Some p

-- the chains of the children below `upto`: no child is left out
pub record AreChains (parents : List (Option Parent)) (last before : List ℕ) (upto : ℕ) : Type 0 where
  pub last_size : length last ≡ length parents
  pub before_size : length before ≡ upto
  pub last_below : (n : ℕ) → 0 < slice_index last n → slice_index last n < upto
  pub last_covers : (c : ℕ) (p : Parent) → c < upto → IsParent parents c p → c ≤ slice_index last p.number
  pub last_is : (n c : ℕ) → 0 < c → slice_index last n ≡ c → (p : Parent) × (IsParent parents c p × (p.number ≡ n))
  pub before_below : (d : ℕ) → 0 < slice_index before d → slice_index before d < d
  pub before_covers : (c d : ℕ) (p q : Parent) → c < d → d < upto → IsParent parents c p → IsParent parents d q → p.number ≡ q.number → c ≤ slice_index before d
  pub before_is : (d c : ℕ) (q : Parent) → IsParent parents d q → 0 < c → slice_index before d ≡ c → (p : Parent) × (IsParent parents c p × (p.number ≡ q.number))

-- the last child of an event's parent
abbrev pub last_child : List ℕ → Option Parent → ℕ
last_child last None = 0
last_child last (Some p) = slice_index last p.number

-- after this child is the last
abbrev pub with_last_child : List ℕ → Option Parent → ℕ → List ℕ
with_last_child last None child = last
with_last_child last (Some p) child = slice_set last p.number child
