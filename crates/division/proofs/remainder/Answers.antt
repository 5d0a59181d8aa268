-- By a power of two: the low bits are what is left.
use Rattle.std.proofs.Common.{◌≡◌, ◌-◌, ◌%◌, ℕ, bit_and, subst, sym, w64}
use Rattle.std.specs.Int.{trailing_zeros}
use Rattle.std.proofs.lemmas.Nat.{and_mask}
use Rattle.division.proofs.remainder.Goals as goal

pub returns-then-is_power : goal.returns-then-is_power
returns-then-is_power c =
    let n : ℕ = c.args.number in
    let power = c.is_power.ensures.power c.if-is_power.true in
    subst (λ (b : ℕ). bit_and n (b - 1) ≡ n % b) (sym power) (and_mask n (trailing_zeros w64 c.args.by))
