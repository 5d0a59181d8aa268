-- the first registers are there
use Rattle.std.proofs.Common.{◌≡◌, take}
use Rattle.zprof.proofs.halt_rows.registers.Given as goal

abbrev pub invariant-loop-number : goal.invariant-loop-number
invariant-loop-number l = l.all.items ≡ take l.number l.core.registers
