-- Accesses of several cores to the caches, one after the other.
use Rattle.std.specs.Prelude.{ℕ, List, [], ◌∷◌}
use Rattle.zs_num.specs.declared.entry.Outcome.{Outcome}
use Rattle.zs_num.specs.declared.request.Request.{Request}
use Rattle.shard.specs.Coherence.{Caches, outcome_of, caches_after}

-- the caches after accesses, each with its core
abbrev pub caches_after_all : Caches → List (ℕ × Request) → Caches
caches_after_all c [] = c
caches_after_all c (access ∷ accesses) = caches_after_all (caches_after c access.0 access.1) accesses

-- how the caches meet each
abbrev pub outcomes_of : Caches → List (ℕ × Request) → List Outcome
outcomes_of c [] = []
outcomes_of c (access ∷ accesses) = outcome_of c access.0 access.1 ∷ outcomes_of (caches_after c access.0 access.1) accesses
