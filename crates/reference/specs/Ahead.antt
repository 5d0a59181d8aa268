-- A core whose local instructions are counted behind it.
use Rattle.std.specs.Prelude.{ℕ, ◌+◌, Bool, true, false}
use Rattle.reference.specs.TimedCore.{TimedCore}

-- the core with so many instructions more on its count, of a cycle each
abbrev pub ahead : (counted : ℕ) → TimedCore → TimedCore
ahead counted c = record c { clock = c.clock + counted; instructions = c.instructions + counted }

-- whether the core still goes on, as a number
abbrev pub going : Bool → ℕ
going true = 1
going false = 0
