-- What a controller with open rows is before its first request, and what its calls ask for.
use Rattle.std.specs.Prelude.{◌≡◌, ◌≤◌, ℕ, None, replicate}
use Rattle.dram_rows.specs.declared.rows.Rows.{Rows}

-- a time that a controller may have, in cycles
abbrev pub IsTime : ℕ → Type 0
IsTime n = (1 ≤ n) × (n ≤ 65536)

-- a controller before its first request
pub record IsNew (r : Rows) : Type 0 where
  pub free : r.free ≡ 0
  pub closed : r.open_rows ≡ replicate 16 None

-- neither the finish of a step nor the cycle from which on the controller is free then is past the limit
abbrev pub NoSumPasses : (limit : ℕ) → Rows × ℕ → Type 0
NoSumPasses limit step = (step.0.free ≤ limit) × (step.1 ≤ limit)
