use Rattle.std.specs.Int.{w32}
use Rattle.rv_alu.proofs.Wrapping.{divided, words_are_written}
use Rattle.rv_alu.proofs.words.divide.Goals as goal

pub returns : goal.returns
returns c =
    divided w32 words_are_written c.args.dividend c.args.divisor c.ranges.dividend c.ranges.divisor c.if-divisor-eq0.false c.cast_signed.result c.cast_signed-2.result c.wrapping_div.result c.cast_unsigned.result
    (record { sfits = c.cast_signed.type_inv }) (record { sfits = c.cast_signed-2.type_inv }) (record { sfits = c.wrapping_div.type_inv })
    c.cast_signed.ensures c.cast_signed-2.ensures c.wrapping_div.ensures c.cast_unsigned.ensures
