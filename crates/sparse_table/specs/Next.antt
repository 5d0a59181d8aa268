-- The next number of which something may hold.
use Rattle.std.specs.Prelude.{◌≡◌, ℕ, ◌<◌, ◌≤◌, Option, None, Some, min}

-- the next number, from this one on, that may have another value than this one: those before it have this one
abbrev pub IsNextIn : {T : Type 0} → (none : T) → (values : ℕ → T) → (from : ℕ) → Option ℕ → Type 0
IsNextIn none values from None = (n : ℕ) → from ≤ n → values n ≡ none
IsNextIn none values from (Some next) = (n : ℕ) → from ≤ n → n < next → values n ≡ none

-- the lesser one, of those that are there
abbrev pub earlier : Option ℕ → Option ℕ → Option ℕ
earlier None other = other
earlier (Some one) None = Some one
earlier (Some one) (Some other) = Some (min one other)
