-- There are posts for all who run cores, where as many are hired as could run cores or domains.
use Rattle.std.proofs.Common.{◌≡◌, ◌+◌, ◌-◌, ◌<◌, ◌≤◌, ℕ, max, min, sym, subst, inl, inr, arith}
use Rattle.std.proofs.lemmas.Bool.{cases_lt}
use Rattle.std.proofs.Math.Nat.{le-max_left, min-eq_left, min-eq_right, min-le_left, min-le_right}

min_up : (w a m : ℕ) → a ≤ m → min w a ≤ min w m
min_up w a m below =
    elim (cases_lt w m) [
      | inl less ↦ let is = min-eq_left {n = w} {m = m} (omega (arith, less)) in let low = min-le_left w a in omega (arith, is, low)
      | inr more ↦ let is = min-eq_right {n = m} {m = w} (omega (arith, more)) in let low = min-le_right w a in omega (arith, is, low, below)
    ]

pub enough : (workers cores domains most asked posts : ℕ) → most ≡ max cores domains → asked ≡ min workers most → asked - 1 ≤ posts → min workers cores ≤ posts + 1
enough workers cores domains most asked posts most_is asked_is there =
    let up = min_up workers cores most (subst (λ (n : ℕ). cores ≤ n) (sym most_is) (le-max_left cores domains)) in
    omega (arith, up, asked_is, there)
