-- What a read takes of the bytes that a reader has left, where those are known.
use Rattle.std.specs.Prelude.{◌≡◌, ◌≤◌, ◌++◌, ℕ, List, Option, length}
use Rattle.std.specs.Io.KnownBytes.{Consumes}

-- the next bytes of the reader, n of them and at most `room`, came behind the others
pub record ReadsBehind (left_before left_after : Option (List ℕ)) (before after : List ℕ) (n room : ℕ) : Type 0 where
  pub piece : List ℕ
  pub taken : Consumes left_before left_after piece
  pub behind : after ≡ before ++ piece
  pub count : length piece ≡ n
  pub within : n ≤ room
