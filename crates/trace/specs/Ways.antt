-- What is told of the way of a core whose accesses are hits.
use Rattle.std.specs.Prelude.{ℕ, ◌+◌, ◌-◌, ◌*◌, ◌^◌, ◌<◌, List, [], ◌∷◌, None}
use Rattle.zs_num.specs.declared.entry.Entry.{Entry}
use Rattle.rv_core.specs.declared.leg.Leg.{Leg}
use Rattle.rv_core.specs.Told.{Made, Ran, Told}
use Rattle.shard.specs.declared.leaving.Leaving.{Leaving}
use Rattle.trace.specs.Trace.{Accessed, Executed, Step}

-- no line leaves a cache
abbrev pub nothing_leaves : Leaving
nothing_leaves = record { own = None; shared = None }

-- The steps of the core of this number on its way, whose accesses had these entries, one after the other. There is none
-- of an access without an entry.
abbrev pub told_steps : (number : ℕ) → List Told → List Entry → List Step
told_steps number [] entries = []
told_steps number (Ran pc ∷ told) entries = Executed number pc ∷ told_steps number told entries
told_steps number (Made pc ∷ told) [] = told_steps number told []
told_steps number (Made pc ∷ told) (e ∷ entries) = Accessed pc e nothing_leaves ∷ told_steps number told entries

-- the last instruction of a leg, if it has one, is at an address of 64 bits
abbrev pub FitsLeg : Leg → Type 0
FitsLeg leg = 0 < leg.count → leg.pc + 4 * (leg.count - 1) < 2 ^ 64
