use Rattle.std.proofs.Common.{refl}
use Rattle.std.specs.Int.{w64}
use Rattle.rv_alu.proofs.Wrapping.{divided, doublewords_are_written}
use Rattle.rv_alu.proofs.doublewords.divide.Goals as goal

pub returns : goal.returns
returns c =
    divided w64 doublewords_are_written c.args.dividend c.args.divisor c.ranges.dividend c.ranges.divisor c.if-divisor-eq0.false c.cast_signed.result c.cast_signed-2.result c.wrapping_div.result c.cast_unsigned.result
    (record { sfits = c.cast_signed.type_inv }) (record { sfits = c.cast_signed-2.type_inv }) (record { sfits = c.wrapping_div.type_inv })
    c.cast_signed.ensures c.cast_signed-2.ensures c.wrapping_div.ensures c.cast_unsigned.ensures

pub returns-then-divisor-eq0 : goal.returns-then-divisor-eq0
returns-then-divisor-eq0 c = rw c.if-divisor-eq0.true refl
