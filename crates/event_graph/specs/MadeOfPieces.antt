-- What of an access its events are made of.
use Rattle.std.specs.Prelude.{◌≡◌, Bool, true, false, List, [], ◌∷◌, filter}
use Rattle.zs_num.specs.declared.entry.Entry.{Entry}
use Rattle.event_graph.specs.declared.piece.Piece.{Piece}

-- an access that makes events
abbrev pub is_some_piece : List Piece → Bool
is_some_piece [] = false
is_some_piece (p ∷ pieces) = true

abbrev pub with_events : (pieces : Entry → List Piece) → List Entry → List Entry
with_events pieces entries = filter (λ e. is_some_piece (pieces e)) entries

-- whether or not it says the same of anything else, the entry has the core, the start and the pieces of the other
pub record IsMadeAlike (pieces : Entry → List Piece) (e other : Entry) : Type 0 where
  pub core : other.core ≡ e.core
  pub start : other.start ≡ e.start
  pub made : pieces other ≡ pieces e
