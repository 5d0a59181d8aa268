-- How many entries there are, counted chunk by chunk.
use Rattle.std.proofs.Common.{◌≡◌, ℕ, suc, ◌+◌, ◌*◌, ◌≤◌, List, ◌∷◌, Option, is_some, count_by, ap, arith, drop, length, length-append, subst}
use Rattle.std.proofs.lemmas.List.Sums.{count_by-le-length}
use Rattle.sparse_table.specs.Chunks.{entries_at, entries_of}
use Rattle.sparse_table.proofs.InChunk.{count_at}

module _ {T : Type 0} where
  -- those of the first chunks are counted, and the others are left
  pub record IsCounted (chunks : List (ℕ × List (Option T))) (count place : ℕ) : Type 0 where
    pub few : count ≤ 64 * place
    pub rest : count + length (entries_of (drop place chunks)) ≡ length (entries_of chunks)

  -- one chunk more is counted
  pub one_more : (chunks : List (ℕ × List (Option T))) (count place : ℕ) (chunk : ℕ × List (Option T)) → IsCounted chunks count place → drop place chunks ≡ chunk ∷ drop (suc place) chunks → length chunk.1 ≡ 64 → IsCounted chunks (count + count_by is_some chunk.1) (place + 1)
  one_more chunks count place chunk counted is full =
      let entries = entries_at (chunk.0 * 64) chunk.1 in
      let here = count_at (chunk.0 * 64) chunk.1 in
      let most = count_by-le-length is_some chunk.1 in
      let both = length-append entries (entries_of (drop (suc place) chunks)) in
      let more = ap (λ cs. length (entries_of cs)) is in
      record {
        few = omega (arith, counted.few);
        rest = subst (λ k. count + count_by is_some chunk.1 + length (entries_of (drop k chunks)) ≡ length (entries_of chunks)) {x = suc place} (omega arith) (omega (arith, counted.rest));
      }
