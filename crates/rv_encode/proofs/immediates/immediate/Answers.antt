use Rattle.std.proofs.Common.{◌≡◌, ◌∙◌, ap, arith, to_z, of_z, w64}
use Rattle.std.proofs.lemmas.Int.{ints}
use Rattle.rv_encode.specs.Encoding.{unsigned}
use Rattle.rv_encode.proofs.immediates.immediate.Goals as goal

pub returns-in-Atomic : goal.returns-in-Atomic
returns-in-Atomic c = let is = c.in-Atomic.is in grind (arith, ints)

pub returns-in-B : goal.returns-in-B
returns-in-B c =
    let same : to_z w64 (of_z w64 c.args.value) ≡ c.args.value = omega (arith, ints) in
    let given : c.unsigned-in-B.result ≡ unsigned 13 c.args.value = c.unsigned-in-B.ensures ∙ ap (unsigned 13) same in
    rw c.in-B.is (rw (← given) (omega arith))
