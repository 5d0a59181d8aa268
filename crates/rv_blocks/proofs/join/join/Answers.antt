use Rattle.std.proofs.Common.{arith}
use Rattle.rv_blocks.proofs.join.join.Goals as goal

pub returns : goal.returns
returns c =
    let was = c.loop-behind.invariant in
    record {
      some = omega (arith, was.length, c.requires.some);
      memory = omega (arith, was.length, c.requires.memory);
      fit = λ place slot here. (was.meant place slot here).0;
      stand = λ place slot here. (was.meant place slot here).1;
      access = λ place slot here. (was.meant place slot here).2;
      found = λ place slot here. (was.meant place slot here).3;
      counted = λ place slot here. was.counted place slot (omega (arith, c.loop-behind-test.false)) here;
    }
