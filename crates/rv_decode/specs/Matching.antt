-- Which rows of the instruction table match a word.
use Rattle.std.specs.Prelude.{◌≡◌, ℕ, Contains, AllPairs, IsTrue, IsFalse}
use Rattle.rv_decode.specs.InstructionTable.{Row, table, matches, by_row}
use Rattle.rv_decode.specs.declared.inst.Inst.{Inst}

-- a row of the table matches the word, and the instruction is the one that the word is by it
pub record IsByRow (word : ℕ) (i : Inst) : Type 0 where
  pub row : Row
  pub listed : Contains table row
  pub matched : IsTrue (matches row word)
  pub fields : i ≡ by_row row word

-- no row of the table matches the word
abbrev pub NoRowMatches : ℕ → Type 0
NoRowMatches word = (row : Row) → Contains table row → IsFalse (matches row word)

-- of any two places of the table, at most one has a row that matches the word
abbrev pub OneRowMatches : ℕ → Type 0
OneRowMatches word = AllPairs (λ row other. IsTrue (matches row word) → IsFalse (matches other word)) table
