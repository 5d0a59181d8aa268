use Rattle.std.proofs.Common.{◌+◌, ◌-◌, ◌*◌, ◌%◌, ℕ, ap, arith}
use Rattle.std.proofs.lemmas.Nat.{one_shl}
use Rattle.gen_prog.proofs.program.mask.Goals as goal

pub returns : goal.returns
returns c = ap (λ (count : ℕ). 8 * (count - 1)) (one_shl (4 + c.args.number % 5) 16 (omega arith))
