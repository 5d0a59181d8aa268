-- The entries of all chunks.
use Rattle.std.proofs.Common.{◌≡◌, ◌≢◌, ℕ, zero, suc, ◌+◌, ◌*◌, ◌<◌, ◌≤◌, ◌^◌, List, [], ◌∷◌, ◌++◌, Option, Some, None, drop, length, get_or, replicate, set, refl, sym, ◌∙◌, ap, arith, length-set}
use Rattle.std.specs.List.{insert}
use Rattle.std.specs.Option.{unwrap_or}
use Rattle.sparse_table.specs.Sparse.{value_in, with_entry, entries_from, RiseFrom}
use Rattle.sparse_table.specs.Chunks.{entries_at, entries_of, AreChunks, IsPlace, chunk_at, put_at}
use Rattle.sparse_table.proofs.Entries.{AreBelow, below-append, rise_less, rise-append, value_past, value_first, value_before, with_past, with_first, with_before, from_past}
use Rattle.sparse_table.proofs.InChunk.{rise_at, below_at, value_at, with_at, one_at}

module _ {T : Type 0} where
  pub rise_of : (least : ℕ) (chunks : List (ℕ × List (Option T))) → AreChunks least chunks → RiseFrom (least * 64) (entries_of chunks)
  rise_of least [] are = tt
  rise_of least (chunk ∷ rest) are =
      rise-append (least * 64) (suc chunk.0 * 64) (entries_at (chunk.0 * 64) chunk.1) (entries_of rest) (omega (arith, are.0))
      (rise_less (chunk.0 * 64) (least * 64) (entries_at (chunk.0 * 64) chunk.1) (omega (arith, are.0)) (rise_at (chunk.0 * 64) chunk.1))
      (below_at (chunk.0 * 64) (suc chunk.0 * 64) chunk.1 (omega (arith, are.2)))
      (rise_of (suc chunk.0) rest are.3)

  pub below_of : (least : ℕ) (chunks : List (ℕ × List (Option T))) → AreChunks least chunks → AreBelow (2 ^ 64) (entries_of chunks)
  below_of least [] are = tt
  below_of least (chunk ∷ rest) are =
      below-append (2 ^ 64) (entries_at (chunk.0 * 64) chunk.1) (entries_of rest)
      (below_at (chunk.0 * 64) (2 ^ 64) chunk.1 (omega (arith, are.1, are.2)))
      (below_of (suc chunk.0) rest are.3)

  -- no chunk has a smaller number
  pub least_at : (least : ℕ) (chunks : List (ℕ × List (Option T))) (at : ℕ) → AreChunks least chunks → at < length chunks → least ≤ (chunk_at chunks at).0
  least_at least [] at are lt = absurd (omega arith)
  least_at least (chunk ∷ rest) zero are lt = are.0
  least_at least (chunk ∷ rest) (suc at) are lt = omega (arith, are.0, least_at (suc chunk.0) rest at are.3 (omega arith))

  pub fits_at : (least : ℕ) (chunks : List (ℕ × List (Option T))) (at : ℕ) → AreChunks least chunks → at < length chunks → ((chunk_at chunks at).0 < 2 ^ 58) × (length (chunk_at chunks at).1 ≡ 64)
  fits_at least [] at are lt = absurd (omega arith)
  fits_at least (chunk ∷ rest) zero are lt = (are.1, are.2)
  fits_at least (chunk ∷ rest) (suc at) are lt = fits_at (suc chunk.0) rest at are.3 (omega arith)

  -- the numbers rise
  pub rises : (least : ℕ) (chunks : List (ℕ × List (Option T))) (i j : ℕ) → AreChunks least chunks → i < j → j < length chunks → (chunk_at chunks i).0 < (chunk_at chunks j).0
  rises least [] i j are lt within = absurd (omega arith)
  rises least (chunk ∷ rest) zero zero are lt within = absurd (omega arith)
  rises least (chunk ∷ rest) (suc i) zero are lt within = absurd (omega arith)
  rises least (chunk ∷ rest) zero (suc j) are lt within = least_at (suc chunk.0) rest j are.3 (omega arith)
  rises least (chunk ∷ rest) (suc i) (suc j) are lt within = rises (suc chunk.0) rest i j are.3 (omega arith) (omega arith)

  -- the place of a chunk among those behind the first
  place_behind : (chunk : ℕ × List (Option T)) (rest : List (ℕ × List (Option T))) (number at : ℕ) → IsPlace (chunk ∷ rest) number (suc at) → IsPlace rest number at
  place_behind chunk rest number at place = record {
    within = omega (arith, place.within);
    before = λ j lt. place.before (suc j) (omega arith);
    after = λ j le lt. place.after (suc j) (omega arith) (omega arith);
  }

  -- all entries of a chunk are before the numbers of a later one
  below_later : (chunk : ℕ × List (Option T)) (m place n : ℕ) → length chunk.1 ≡ 64 → chunk.0 < m → n ≡ m * 64 + place → AreBelow n (entries_at (chunk.0 * 64) chunk.1)
  below_later chunk m place n full lt is = below_at (chunk.0 * 64) n chunk.1 (omega arith)

  module _ (m place n : ℕ) (is : n ≡ m * 64 + place) (in_chunk : place < 64) where
    -- a number whose chunk is there has the value that is kept for it
    pub found_value : (none : T) (least : ℕ) (chunks : List (ℕ × List (Option T))) (at : ℕ) → AreChunks least chunks → at < length chunks → (chunk_at chunks at).0 ≡ m → value_in none (entries_of chunks) n ≡ unwrap_or (get_or (chunk_at chunks at).1 place None) none
    found_value none least [] at are lt here = absurd (omega arith)
    found_value none least (chunk ∷ rest) zero are lt here =
        value_first none n (suc chunk.0 * 64) (entries_at (chunk.0 * 64) chunk.1) (entries_of rest) (omega arith) (rise_of (suc chunk.0) rest are.3)
        ∙ value_at none (chunk.0 * 64) place n chunk.1 (omega arith) (omega (arith, are.2))
    found_value none least (chunk ∷ rest) (suc at) are lt here =
        value_past none n (entries_at (chunk.0 * 64) chunk.1) (entries_of rest) (below_later chunk m place n are.2 (omega (arith, least_at (suc chunk.0) rest at are.3 (omega arith))) is)
        ∙ found_value none (suc chunk.0) rest at are.3 (omega arith) here

    -- and if it is set, its entry is added
    pub found_with : (value : T) (least : ℕ) (chunks : List (ℕ × List (Option T))) (at : ℕ) → AreChunks least chunks → at < length chunks → (chunk_at chunks at).0 ≡ m → with_entry n value (entries_of chunks) ≡ entries_of (put_at at place value chunks)
    found_with value least [] at are lt here = absurd (omega arith)
    found_with value least (chunk ∷ rest) zero are lt here =
        with_first n value (suc chunk.0 * 64) (entries_at (chunk.0 * 64) chunk.1) (entries_of rest) (omega arith) (rise_of (suc chunk.0) rest are.3)
        ∙ ap (λ es. es ++ entries_of rest) (with_at (chunk.0 * 64) place n value chunk.1 (omega arith) (omega (arith, are.2)))
    found_with value least (chunk ∷ rest) (suc at) are lt here =
        with_past n value (entries_at (chunk.0 * 64) chunk.1) (entries_of rest) (below_later chunk m place n are.2 (omega (arith, least_at (suc chunk.0) rest at are.3 (omega arith))) is)
        ∙ ap (λ es. entries_at (chunk.0 * 64) chunk.1 ++ es) (found_with value (suc chunk.0) rest at are.3 (omega arith) here)

    -- a number whose chunk is not there has no value
    pub absent_value : (none : T) (least : ℕ) (chunks : List (ℕ × List (Option T))) (at : ℕ) → AreChunks least chunks → IsPlace chunks m at → (at < length chunks → (chunk_at chunks at).0 ≢ m) → value_in none (entries_of chunks) n ≡ none
    absent_value none least [] at are is_place absent = refl
    absent_value none least (chunk ∷ rest) zero are is_place absent =
        value_before none n (chunk.0 * 64) (entries_of (chunk ∷ rest)) (omega (arith, is_place.after 0 (omega arith) (omega arith), absent (omega arith))) (rise_of chunk.0 (chunk ∷ rest) (omega arith, are.1, are.2, are.3))
    absent_value none least (chunk ∷ rest) (suc at) are is_place absent =
        value_past none n (entries_at (chunk.0 * 64) chunk.1) (entries_of rest) (below_later chunk m place n are.2 (is_place.before 0 (omega arith)) is)
        ∙ absent_value none (suc chunk.0) rest at are.3 (place_behind chunk rest m at is_place) (λ lt. absent (omega arith))

    -- and if it is set, a chunk with its entry is added
    pub absent_with : (value : T) (least : ℕ) (chunks : List (ℕ × List (Option T))) (at : ℕ) → AreChunks least chunks → IsPlace chunks m at → (at < length chunks → (chunk_at chunks at).0 ≢ m) → with_entry n value (entries_of chunks) ≡ entries_of (insert chunks at (m, set (replicate 64 None) place (Some value)))
    absent_with value least [] zero are is_place absent = sym (ap (λ es. es ++ []) (one_at (m * 64) place n 64 value is in_chunk))
    absent_with value least [] (suc at) are is_place absent = absurd (omega (arith, is_place.within))
    absent_with value least (chunk ∷ rest) zero are is_place absent =
        with_before n value (chunk.0 * 64) (entries_of (chunk ∷ rest)) (omega (arith, is_place.after 0 (omega arith) (omega arith), absent (omega arith))) (rise_of chunk.0 (chunk ∷ rest) (omega arith, are.1, are.2, are.3))
        ∙ sym (ap (λ es. es ++ entries_of (chunk ∷ rest)) (one_at (m * 64) place n 64 value is in_chunk))
    absent_with value least (chunk ∷ rest) (suc at) are is_place absent =
        with_past n value (entries_at (chunk.0 * 64) chunk.1) (entries_of rest) (below_later chunk m place n are.2 (is_place.before 0 (omega arith)) is)
        ∙ ap (λ es. entries_at (chunk.0 * 64) chunk.1 ++ es) (absent_with value (suc chunk.0) rest at are.3 (place_behind chunk rest m at is_place) (λ lt. absent (omega arith)))

  -- entries from a number on are of the chunks from its place on
  pub from_place : (n m place : ℕ) (least : ℕ) (chunks : List (ℕ × List (Option T))) (at : ℕ) → n ≡ m * 64 + place → AreChunks least chunks → IsPlace chunks m at → entries_from n (entries_of chunks) ≡ entries_from n (entries_of (drop at chunks))
  from_place n m place least chunks zero is are is_place = refl
  from_place n m place least [] (suc at) is are is_place = refl
  from_place n m place least (chunk ∷ rest) (suc at) is are is_place =
      from_past n (entries_at (chunk.0 * 64) chunk.1) (entries_of rest) (below_later chunk m place n are.2 (is_place.before 0 (omega arith)) is)
      ∙ from_place n m place (suc chunk.0) rest at is are.3 (place_behind chunk rest m at is_place)

  -- the chunks stay in order
  pub chunks_put : (least : ℕ) (chunks : List (ℕ × List (Option T))) (at place : ℕ) (value : T) → AreChunks least chunks → AreChunks least (put_at at place value chunks)
  chunks_put least [] at place value are = tt
  chunks_put least (chunk ∷ rest) zero place value are = (are.0, are.1, length-set chunk.1 place (Some value) ∙ are.2, are.3)
  chunks_put least (chunk ∷ rest) (suc at) place value are = (are.0, are.1, are.2, chunks_put (suc chunk.0) rest at place value are.3)

  pub chunks_insert : (m least : ℕ) (chunks : List (ℕ × List (Option T))) (at : ℕ) (values : List (Option T)) → least ≤ m → m < 2 ^ 58 → length values ≡ 64 → AreChunks least chunks → IsPlace chunks m at → (at < length chunks → (chunk_at chunks at).0 ≢ m) → AreChunks least (insert chunks at (m, values))
  chunks_insert m least [] zero values le fits full are is_place absent = (le, fits, full, tt)
  chunks_insert m least [] (suc at) values le fits full are is_place absent = absurd (omega (arith, is_place.within))
  chunks_insert m least (chunk ∷ rest) zero values le fits full are is_place absent =
      (le, fits, full, (omega (arith, is_place.after 0 (omega arith) (omega arith), absent (omega arith)), are.1, are.2, are.3))
  chunks_insert m least (chunk ∷ rest) (suc at) values le fits full are is_place absent =
      (are.0, are.1, are.2, chunks_insert m (suc chunk.0) rest at values (is_place.before 0 (omega arith)) fits full are.3 (place_behind chunk rest m at is_place) (λ lt. absent (omega arith)))
