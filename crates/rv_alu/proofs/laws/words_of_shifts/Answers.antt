use Rattle.std.proofs.Common.{◌≡◌, ℕ, ◌*◌, ◌%◌, ◌^◌, arith, ap}
use Rattle.std.proofs.lemmas.Nat.{mul-mod_first}
use Rattle.rv_alu.specs.Operations.{sign_extended}
use Rattle.rv_alu.specs.Arithmetic.{result_of}
use Rattle.rv_alu.proofs.laws.words_of_shifts.Goals as goal

shifted : (a b : ℕ) → (a % 2 ^ 32 * 2 ^ (b % 2 ^ 32 % 32)) % 2 ^ 32 ≡ (a * 2 ^ (b % 32 % 64)) % 2 ^ 64 % 2 ^ 32
shifted a b =
    let five : b % 2 ^ 32 % 32 ≡ b % 32 = omega arith in
    let six : b % 32 % 64 ≡ b % 32 = omega arith in
    rw (five, six) (omega (arith, mul-mod_first a (2 ^ (b % 32)) (2 ^ 32)))

pub returns-clause-left : goal.returns-clause-left
unfolding result_of
returns-clause-left c = λ a b. ap sign_extended (shifted a b)
