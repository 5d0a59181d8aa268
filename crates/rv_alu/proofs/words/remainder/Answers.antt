use Rattle.std.specs.Int.{w32}
use Rattle.rv_alu.proofs.Wrapping.{left_over, words_are_written}
use Rattle.rv_alu.proofs.words.remainder.Goals as goal

pub returns : goal.returns
returns c =
    left_over w32 words_are_written c.args.dividend c.args.divisor c.if-divisor-eq0.false c.cast_signed.result c.cast_signed-2.result c.wrapping_rem.result c.cast_unsigned.result
    (record { sfits = c.cast_signed.type_inv }) (record { sfits = c.cast_signed-2.type_inv }) (record { sfits = c.wrapping_rem.type_inv })
    c.cast_signed.ensures c.cast_signed-2.ensures c.wrapping_rem.ensures c.cast_unsigned.ensures
