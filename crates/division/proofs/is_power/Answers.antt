-- A number that shares no bit with the one before is one bit alone.
use Rattle.std.proofs.Common.{ℕ, ◌-◌, bit_and, arith}
use Rattle.std.proofs.lemmas.Bool.{eqb-true}
use Rattle.division.proofs.Powers.{alone}
use Rattle.division.proofs.is_power.Goals as goal

pub returns-clause-power : goal.returns-clause-power
returns-clause-power c met =
    let n : ℕ = c.args.number in
    alone n c.requires (omega (arith, c.ranges.number)) (eqb-true (bit_and n (n - 1)) 0 met)
