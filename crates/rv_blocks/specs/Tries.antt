-- What came of an access that was tried at once.
use Rattle.std.specs.Prelude.{Bool, true, false, Option, Some, None}
use Rattle.rv_core.specs.declared.single.Single.{Single}
use Rattle.rv_blocks.specs.declared.tried.Tried.{Tried}
use Rattle.rv_blocks.specs.declared.tried.Tried.TheVariants.{Served, Meets, Not}

-- it is made
abbrev pub is_served : Tried → Bool
is_served Served = true
is_served (Meets single) = false
is_served Not = false

-- the access, where it is known and not made
abbrev pub met_in : Tried → Option Single
met_in Served = None
met_in (Meets single) = Some single
met_in Not = None
