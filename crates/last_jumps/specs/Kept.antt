-- What is kept of each core.
use Rattle.std.specs.Prelude.{◌≡◌, ℕ, zero, suc, ◌+◌, ◌*◌, List, [], ◌∷◌, ◌++◌, slice_index_or, Option, Some, None}
use Rattle.trace.specs.Trace.{Step}
use Rattle.profile_rows.specs.declared.halt_row.Jump.{Jump}
use Rattle.last_jumps.specs.Jumps.{executed_by, jump_between, jumps_of, last_of}

-- the instruction that the core executed last, and its last jumps
pub record Kept : Type 0 where
  pub latest : Option ℕ
  pub jumps : List Jump

-- it executed none
abbrev pub nothing_kept : Kept
nothing_kept = record { latest = None; jumps = [] }

-- the jump to an instruction from the one before, if there is one
abbrev pub jump_to : (latest : Option ℕ) → (to : ℕ) → List Jump
jump_to None to = []
jump_to (Some from) to = jump_between from to

-- once it executed one more
abbrev pub with_one_more : (pc : ℕ) → Kept → Kept
with_one_more pc kept = record { latest = Some pc; jumps = last_of 16 (kept.jumps ++ jump_to kept.latest pc) }

-- Once it executed so many that follow each other: only to the first of them it may have jumped.
abbrev pub with_stretch : (pc count : ℕ) → Kept → Kept
with_stretch pc zero kept = kept
with_stretch pc (suc n) kept = record { latest = Some (pc + 4 * n); jumps = (with_one_more pc kept).jumps }

-- the last jumps of a core that is to go on there, or nowhere
abbrev pub jumps_with : (next : Option ℕ) → Kept → List Jump
jumps_with None kept = kept.jumps
jumps_with (Some pc) kept = (with_one_more pc kept).jumps

-- what is kept of a core; of one that is not there, nothing
abbrev pub kept_at : List Kept → (core : ℕ) → Kept
kept_at cores core = slice_index_or cores core nothing_kept

-- the last of an instruction and those that follow
abbrev pub latest_from : ℕ → List ℕ → ℕ
latest_from pc [] = pc
latest_from pc (next ∷ rest) = latest_from next rest

-- the last one
abbrev pub latest_of : List ℕ → Option ℕ
latest_of [] = None
latest_of (first ∷ rest) = Some (latest_from first rest)

-- what is to be kept of a core that executed these
abbrev pub kept_of : List ℕ → Kept
kept_of pcs = record { latest = latest_of pcs; jumps = last_of 16 (jumps_of pcs) }

-- of each core this is kept
abbrev pub AreKept : List Step → List Kept → Type 0
AreKept steps cores = (core : ℕ) → kept_at cores core ≡ kept_of (executed_by core steps)
