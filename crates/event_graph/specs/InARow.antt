-- Events of an access that stand in the order in which they can start.
use Rattle.std.specs.Prelude.{◌≡◌, ◌+◌, ◌⊎◌, ℕ, List, Some, slice_get}
use Rattle.event_graph.specs.declared.piece.Piece.{Piece}

-- the one at this place is waited for
abbrev pub WaitsFor : (place : ℕ) → Piece → Type 0
WaitsFor place p = (p.first ≡ Some place) ⊎ (p.second ≡ Some place)

-- they begin together: they wait for the same ones, and start in the same cycle where nothing else runs
abbrev pub BeginTogether : Piece → Piece → Type 0
BeginTogether p q = (q.first ≡ p.first) × ((q.second ≡ p.second) × (q.offset ≡ p.offset))

-- one of the events, which begins with this one or is this one, is waited for
pub record WaitsForOneWith (pieces : List Piece) (p q : Piece) : Type 0 where
  pub place : ℕ
  pub one : Piece
  pub there : slice_get pieces place ≡ Some one
  pub together : BeginTogether p one
  pub waits : WaitsFor place q

-- each event after the first begins with the one before it, or waits for it or for one that began with it
abbrev pub AreInARow : List Piece → Type 0
AreInARow pieces = (k : ℕ) (p q : Piece) → slice_get pieces k ≡ Some p → slice_get pieces (k + 1) ≡ Some q
    → BeginTogether p q ⊎ WaitsForOneWith pieces p q
