use Rattle.std.proofs.Common.{◌+◌, ◌-◌, ◌^◌, ◌/◌, ap, ◌∙◌, arith, bit_and}
use Rattle.std.proofs.lemmas.Nat.{one_shl, and_mask}
use Rattle.rv_decode.proofs.fields.bits.Goals as goal

pub returns : goal.returns
returns c =
    let width = c.args.high + 1 - c.args.low in
    let shifted = c.args.word / 2 ^ c.args.low in
    ap (λ k. bit_and shifted (k - 1)) (one_shl width 32 (omega arith)) ∙ and_mask shifted width
