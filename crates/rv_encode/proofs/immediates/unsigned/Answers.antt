use Rattle.std.proofs.Common.{◌<◌, ◌^◌, arith, refl, rules}
use Rattle.std.proofs.lemmas.Int.{ints}
use Rattle.rv_encode.specs.Encoding.{unsigned}
use Rattle.rv_encode.proofs.UnsignedLemmas.{shifted_up, unsigned_fits}
use Rattle.rv_encode.proofs.immediates.unsigned.Goals as goal

pub overflow_cast-result-then-value-lt0 : goal.overflow_cast-result-then-value-lt0
overflow_cast-result-then-value-lt0 c =
    rw (shifted_up c.args.value c.args.width c.ranges.value c.requires.within (grind (arith, ints)) c.requires.at_least)
    (tt, (let small : unsigned c.args.width c.args.value < 2 ^ 32 = unsigned_fits c.args.value c.args.width c.requires.within (grind (arith, ints)) in search rules))

pub returns-then-value-lt0 : goal.returns-then-value-lt0
returns-then-value-lt0 c = rw (shifted_up c.args.value c.args.width c.ranges.value c.requires.within (grind (arith, ints)) c.requires.at_least) refl
