-- The least of some words. Their first place is std's `position`.
use Rattle.std.specs.Prelude.{ℕ, min, List, [], ◌∷◌, Option, Some, None}

-- the least of a word and some others
abbrev pub least_from : ℕ → List ℕ → ℕ
least_from least [] = least
least_from least (word ∷ words) = least_from (min least word) words

-- the least of some words: none of no words
abbrev pub least_of : List ℕ → Option ℕ
least_of [] = None
least_of (word ∷ words) = Some (least_from word words)
