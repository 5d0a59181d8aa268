-- What the home keeps of a line that came into a core's L1.
use Rattle.std.specs.Prelude.{ℕ, Bool, Option, Some, None}
use Rattle.home.specs.HomeState.{HomeState, granted_in, owned_in}

-- the core alone has it, or else it has it too, alone or not
abbrev pub taken_part : (line core : ℕ) → Option Bool → HomeState → HomeState
taken_part line core None home = owned_in line core home
taken_part line core (Some alone) home = granted_in line core alone home
