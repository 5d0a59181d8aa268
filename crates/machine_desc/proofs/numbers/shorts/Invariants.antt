use Rattle.std.proofs.Common.{◌≡◌, map, take}
use Rattle.machine_desc.specs.Text.{natural}
use Rattle.machine_desc.proofs.numbers.shorts.Given as goal

abbrev pub invariant-loop-integer : goal.invariant-loop-integer
invariant-loop-integer l = l.shorts.items ≡ map natural (take l.integer-index l.integers)
