-- An access on its way through a machine, from component to component.
use Rattle.std.specs.Prelude.{◌+◌, ℕ, max, List, [], ◌∷◌, ◌++◌, length, fold, Option, Some, None}
use Rattle.event_graph.specs.declared.piece.Piece.{Piece}
use Rattle.noc_mesh.specs.declared.stage.Stage.{Stage}

-- The events so far, the place of the one for which the next waits, and how long after its start the access can go on.
pub record Passage : Type 0 where
  pub pieces : List Piece
  pub last : Option ℕ
  pub end : ℕ

-- the event of a stage that begins then, with its parents
abbrev pub piece_of : Stage → (offset : ℕ) → (first second : Option ℕ) → Piece
piece_of s offset first second = record {
  component = s.component;
  kind = s.kind;
  offset = offset;
  time = s.time;
  first = first;
  second = second;
}

-- before the first event
abbrev pub begun : (head : ℕ) → Passage
begun head = record { pieces = []; last = None; end = head }

-- a stage more, which waits for the last one
abbrev pub goes : Passage → Stage → Passage
goes p s = record {
  pieces = p.pieces ++ piece_of s p.end p.last None ∷ [];
  last = Some (length p.pieces);
  end = p.end + s.time;
}

-- stages, one after the other
abbrev pub passes : Passage → List Stage → Passage
passes p stages = fold goes p stages

-- A write beside the last stage, before which the access was there: it waits for what that stage waits for. The access
-- goes on behind that stage.
abbrev pub writes_beside : (before : Passage) → Passage → Stage → Passage
writes_beside before p s = record {
  pieces = p.pieces ++ piece_of s before.end before.last None ∷ [];
  last = p.last;
  end = p.end;
}

-- a stage that waits for the last one, and for the write beside it, which has a place and ends then
abbrev pub meets : Passage → (place ends : ℕ) → Stage → Passage
meets p place ends s = record {
  pieces = p.pieces ++ piece_of s (max p.end ends) p.last (Some place) ∷ [];
  last = Some (length p.pieces);
  end = max p.end ends + s.time;
}
