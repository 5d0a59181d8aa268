-- Cores as the program has them.
use Rattle.std.specs.Prelude.{ℕ, List, map}
use Rattle.reference.specs.TimedCore.{TimedCore}

-- a core with its number, and the room on its console
pub record NumberedCore : Type 0 where
  pub number : ℕ
  pub timed : TimedCore
  -- for how many bytes there is room on the console
  pub spare : ℕ

-- cores with their numbers, in time
abbrev pub timed_of : List NumberedCore → List TimedCore
timed_of cores = map (λ c. c.timed) cores
