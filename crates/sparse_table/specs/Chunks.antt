-- The chunks that stand for the entries: 64 numbers each, of which some were set.
use Rattle.std.specs.Prelude.{◌≡◌, ℕ, suc, ◌*◌, ◌<◌, ◌≤◌, ◌^◌, List, [], ◌∷◌, ◌++◌, length, slice_index_or, slice_set, Option, Some, None}
use Rattle.std.specs.Option.{unwrap_or}

module _ {T : Type 0} where
  -- the entries of values that stand in a row, the first of this number
  abbrev pub entries_at : (number : ℕ) → List (Option T) → List (ℕ × T)
  entries_at number [] = []
  entries_at number (None ∷ rest) = entries_at (suc number) rest
  entries_at number (Some value ∷ rest) = (number, value) ∷ entries_at (suc number) rest

  -- the entries of chunks, each with its number
  abbrev pub entries_of : List (ℕ × List (Option T)) → List (ℕ × T)
  entries_of [] = []
  entries_of (chunk ∷ rest) = entries_at (chunk.0 * 64) chunk.1 ++ entries_of rest

  -- the numbers of the chunks rise, the first no less than this one, and each has 64 values, of numbers that fit
  abbrev pub AreChunks : (least : ℕ) → List (ℕ × List (Option T)) → Type 0
  AreChunks least [] = Unit {0}
  AreChunks least (chunk ∷ rest) =
      (least ≤ chunk.0) × (chunk.0 < 2 ^ 58) × (length chunk.1 ≡ 64) × AreChunks (suc chunk.0) rest

  -- the chunk at a place
  abbrev pub chunk_at : List (ℕ × List (Option T)) → (at : ℕ) → ℕ × List (Option T)
  chunk_at chunks at = slice_index_or chunks at (0, [])

  -- the chunk at a place has this number
  pub record IsAt (chunks : List (ℕ × List (Option T))) (number at : ℕ) : Type 0 where
    pub within : at < length chunks
    pub number_is : (chunk_at chunks at).0 ≡ number

  -- what the chunk at a place keeps, or the value of what was not set
  abbrev pub kept_at : (none : T) (at place : ℕ) → List (ℕ × List (Option T)) → T
  kept_at none at place chunks = unwrap_or (slice_index_or (chunk_at chunks at).1 place None) none

  -- the place where a chunk is, or would go: those before it have smaller numbers, and those from it on have not
  pub record IsPlace (chunks : List (ℕ × List (Option T))) (number at : ℕ) : Type 0 where
    pub within : at ≤ length chunks
    pub before : (j : ℕ) → j < at → (chunk_at chunks j).0 < number
    pub after : (j : ℕ) → at ≤ j → j < length chunks → number ≤ (chunk_at chunks j).0

  -- a chunk with one more value
  abbrev pub with_place : (place : ℕ) (value : T) → ℕ × List (Option T) → ℕ × List (Option T)
  with_place place value chunk = (chunk.0, slice_set chunk.1 place (Some value))

  -- the chunks where that at a place has one more
  abbrev pub put_at : (at place : ℕ) (value : T) → List (ℕ × List (Option T)) → List (ℕ × List (Option T))
  put_at at place value chunks = slice_set chunks at (with_place place value (chunk_at chunks at))
