-- Bytes that are read piece by piece, where it is known what the reader had left.
use Rattle.std.proofs.Common.{◌≡◌, ◌-◌, ◌<◌, ◌≤◌, ℕ, List, Option, Result, Ok, IfSome, length, take, sym, arith}
use Rattle.std.proofs.KnownBytes.{Consumes-trans, Consumes-whole}
use Rattle.std.proofs.lemmas.List.{length-append, take_all}
use Rattle.std.proofs.lemmas.Result.{MatchResult-at_ok}
use Rattle.std.specs.Io.KnownBytes.{Consumes, IsAtEnd, Keeps, ReadConsumes}
use Rattle.zs_host.specs.Reading.{ReadsBehind}

-- the bytes so far are the first that the reader had, and no more than `most`
pub record ReadSoFar (left_first left_now : Option (List ℕ)) (bytes : List ℕ) (most : ℕ) : Type 0 where
  pub taken : Consumes left_first left_now bytes
  pub within : length bytes ≤ most

-- a piece for which there was room came behind them
pub piece_is_read : (first before after : Option (List ℕ)) (old new : List ℕ) (n room most : ℕ)
    → ReadSoFar first before old most → ReadsBehind before after old new n room → room ≤ most - length old → ReadSoFar first after new most
piece_is_read first before after old new n room most so_far piece fits =
    rw piece.behind
    (record {
      taken = Consumes-trans first before after old piece.piece so_far.taken piece.taken;
      within = omega (arith, length-append old piece.piece, so_far.within, piece.within, piece.count);
    })

-- where the reader has come to its end, they are all that it had, up to `most`
pub all_is_read : (first now : Option (List ℕ)) (bytes : List ℕ) (most : ℕ)
    → ReadSoFar first now bytes most → IsAtEnd now → IfSome first (λ xs. bytes ≡ take most xs)
all_is_read first now bytes most so_far end =
    Consumes-whole first now bytes (λ xs. bytes ≡ take most xs) so_far.taken end (sym (take_all most bytes so_far.within))

-- a read with room that gave nothing came to the end
pub end_is_seen : {E : Type 0} (before after : Option (List ℕ)) (r : Result ℕ E) (n : ℕ) (buffer : List ℕ)
    → ReadConsumes before after r buffer → r ≡ Ok n → 0 < length buffer → n ≡ 0 → IsAtEnd after
end_is_seen before after r n buffer consumes gave room none =
    let ended = λ (k : ℕ). Consumes before after (take k buffer) × (k ≡ 0 → 0 < length buffer → IsAtEnd after) in
    (MatchResult-at_ok ended (λ _. Keeps before after) n gave consumes).1 none room
