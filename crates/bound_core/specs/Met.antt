-- A core that came to an instruction of one access, and has not begun it.
use Rattle.std.specs.Prelude.{ℕ, ◌++◌, option_to_list, Option, Some, None}
use Rattle.rv_core.specs.declared.single.Single.{Single}
use Rattle.rv_core.specs.Single.{begun_if}
use Rattle.rv_core.specs.Step.{answered, console_byte}
use Rattle.reference.specs.TimedCore.{TimedCore}

-- the core in time once it has begun the instruction that it met, if it met one
abbrev pub begun_in_time : Option Single → TimedCore → TimedCore
begun_in_time met c = record c { core = begun_if met c.core }

-- how many instructions are counted of one that it met, if it met one
abbrev pub met_count : Option Single → ℕ
met_count None = 0
met_count (Some single) = 1

-- the core in time once its access has this reply, before the time of the access
abbrev pub answered_in_time : (reply : ℕ) → TimedCore → TimedCore
answered_in_time reply c =
    record c { core = answered reply c.core; console = c.console ++ option_to_list (console_byte c.core.instruction reply) }
