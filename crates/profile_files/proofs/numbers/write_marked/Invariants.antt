-- what was written and the numbers that are left are all numbers
use Rattle.std.proofs.Common.{◌≡◌, ◌++◌, string_bytes, drop}
use Rattle.profile_files.specs.Numbers.{marked}
use Rattle.profile_files.proofs.numbers.write_marked.Given as goal

abbrev pub invariant-loop-number : goal.invariant-loop-number
invariant-loop-number l = string_bytes l.text ++ marked l.mark (drop l.number-index l.numbers) ≡ string_bytes l.initial.text ++ marked l.mark l.numbers
