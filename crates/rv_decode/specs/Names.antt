-- How the decoder finds a name.
use Rattle.std.specs.Prelude.{ℕ, ◌==◌, List, find, Option, option_map}
use Rattle.rv_decode.specs.declared.name.Name.{Name}

-- the name with this number
abbrev pub named : List (ℕ × Name) → ℕ → Option Name
named names number = option_map (λ entry. entry.1) (find (λ entry. entry.0 == number) names)
