-- the words so far are decoded, and there is room for the others
use Rattle.std.proofs.Common.{◌≡◌, ◌≤◌, ◌+◌, All, vec_len, vec_capacity}
use Rattle.rv_blocks.specs.Decoded.{IsDecodedWord}
use Rattle.rv_blocks.proofs.decoded_program.decode.Given as goal

abbrev pub invariant-loop : goal.invariant-loop
invariant-loop l = record {
  decoded : All (IsDecodedWord l.image) l.words.items;
  size : vec_len l.words ≡ vec_len l.initial.words + l.counter;
  room : vec_len l.initial.words + l.fn.count ≤ vec_capacity l.words;
}
