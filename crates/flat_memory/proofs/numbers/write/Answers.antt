use Rattle.std.proofs.Common.{◌≡◌, ◌+◌, ◌++◌, ◌∙◌, ℕ, ap, length, take, drop}
use Rattle.byteorder.specs.Endian.{little_bytes}
use Rattle.byteorder.specs.Numbers.{length-bytes_low_first}
use Rattle.byteorder.proofs.Bytes.{take-bytes_low_first}
use Rattle.flat_memory.specs.FlatMemory.{with_number}
use Rattle.flat_memory.proofs.numbers.write.Goals as goal

pub returns-in_default-clause-value : goal.returns-in_default-clause-value
unfolding with_number
returns-in_default-clause-value c =
    let place = c.args.place in
    let bytes = c.args.bytes.now in
    let width = c.args.width in
    let low = take-bytes_low_first 0 8 width c.args.value c.requires.few in
    let count = length-bytes_low_first 0 width c.args.value in
    let piece : take c.from.result c.to_le_bytes-number.result ≡ little_bytes width c.args.value =
    ap (λ (n : ℕ). take n c.to_le_bytes-number.result) c.from.ensures ∙ ap (take width) c.to_le_bytes-number.ensures ∙ low in
    c.put-in_default.ensures.value
    ∙ ap (λ p. take place bytes ++ (p ++ drop (place + length p) bytes)) piece
    ∙ ap (λ n. take place bytes ++ (little_bytes width c.args.value ++ drop (place + n) bytes)) count
