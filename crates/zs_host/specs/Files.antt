-- What a name holds.
use Rattle.std.specs.Prelude.{◌≡◌, ◌⊎◌, ℕ, List, take, Option, Some}

-- after a write that was cut short: what the name held before, or the first bytes of what was to be written
abbrev pub HoldsOrCut : Option (List ℕ) → List ℕ → Option (List ℕ) → Type 0
HoldsOrCut old bytes new = (new ≡ old) ⊎ ((n : ℕ) × (new ≡ Some (take n bytes)))
