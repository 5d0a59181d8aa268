-- What chains know of the events that fire next.
use Rattle.std.specs.Prelude.{◌≡◌, ◌+◌, ◌<◌, ◌≤◌, ℕ, List, length, None, Some, slice_get}
use Rattle.zs_num.specs.declared.entry.Entry.{Entry}
use Rattle.event_graph.specs.declared.piece.Piece.{Piece}
use Rattle.weave_chains.specs.declared.chain.Chain.{Chain}
use Rattle.weave_chains.specs.declared.chain.Next.{Next}
use Rattle.weave_chains.specs.Chains.{start_by}
use Rattle.weave_chains.specs.Listed.{list_of}
use Rattle.weave_chains.specs.States.{state_of}

module _ (pieces : Entry → List Piece) where
  -- the access is that at which a chain stands, in this list of its core's, and it has so many events
  pub record IsAtAccess (list : List Entry) (c : Chain) (entry : Entry) (count : ℕ) : Type 0 where
    pub goes_on : c.access < c.end
    pub there : slice_get list c.access ≡ Some entry
    pub count_is : count ≡ length (pieces entry)

  -- amid an access a chain knows how many events that has
  abbrev pub KnowsAccess : List Entry → Chain → Type 0
  KnowsAccess list c = 0 < c.place → (n : Next) × (e : Entry) × (c.next ≡ Some n) × IsAtAccess list c e n.count

  -- it is the chain's next event
  pub record IsNext (list : List Entry) (c : Chain) (n : Next) : Type 0 where
    pub entry : Entry
    pub piece : Piece
    pub access : IsAtAccess list c entry n.count
    pub made : slice_get (pieces entry) c.place ≡ Some piece
    pub core : n.core ≡ entry.core
    pub component : n.component ≡ piece.component
    pub kind : n.kind ≡ piece.kind
    pub time : n.time ≡ piece.time
    pub finish : n.finish ≡ entry.start + piece.offset + piece.time

  -- the chain's next event starts at this cycle
  pub record StartsAt (list : List Entry) (c : Chain) (start : ℕ) : Type 0 where
    pub entry : Entry
    pub piece : Piece
    pub there : slice_get list c.access ≡ Some entry
    pub made : slice_get (pieces entry) c.place ≡ Some piece
    pub start_is : start ≡ start_by (state_of 0 c) (entry.start + piece.offset) piece

  -- a chain with the accesses of this list, which knows its next event
  pub record IsAhead (list : List Entry) (c : Chain) : Type 0 where
    pub end : c.end ≡ length list
    pub next : (n : Next) → c.next ≡ Some n → IsNext list c n
    pub over : c.next ≡ None → c.end ≤ c.access

  abbrev pub AreAhead : List (List Entry) → List Chain → Type 0
  AreAhead lists chains = (core : ℕ) (c : Chain) → slice_get chains core ≡ Some c → IsAhead (list_of lists core) c

-- each is over at the end of its core's list
abbrev pub AreOfLists : List (List Entry) → List Chain → Type 0
AreOfLists lists chains = (core : ℕ) (c : Chain) → slice_get chains core ≡ Some c → c.end ≡ length (list_of lists core)
