-- Sign extension as subtraction of the highest bit, twice.
use Rattle.std.proofs.Common.{◌≡◌, ◌<◌, ◌≤◌, ◌+◌, ◌-◌, ◌*◌, ◌%◌, ◌^◌, ℕ, suc, arith, ap, sym, ◌∙◌}
use Rattle.std.proofs.Math.Nat.{two-pow-succ}
use Rattle.std.proofs.Math.Pow.{pow_mono, pow_pos}

halves : (number half top : ℕ) → half + half ≡ top → top ≤ 2 ^ 64 → number < 2 ^ 64 → 0 < half → half ≤ number
    → ((number + (2 ^ 64 - 1 * half % 2 ^ 64)) % 2 ^ 64 + (2 ^ 64 - 1 * half % 2 ^ 64)) % 2 ^ 64 ≡ (number + (2 ^ 64 - top)) % 2 ^ 64
halves number half top twice few fits some above = omega arith

pub extended : (width number : ℕ) → 1 ≤ width → width ≤ 8 → number < 2 ^ 64 → 2 ^ (8 * width - 1) ≤ number
    → ((number + (2 ^ 64 - 1 * 2 ^ (8 * width - 1) % 2 ^ 64)) % 2 ^ 64 + (2 ^ 64 - 1 * 2 ^ (8 * width - 1) % 2 ^ 64)) % 2 ^ 64
    ≡ (number + (2 ^ 64 - 2 ^ (8 * width))) % 2 ^ 64
extended width number some few fits above =
    let bits : 8 * width ≡ suc (8 * width - 1) = omega arith in
    let twice : 2 ^ (8 * width - 1) + 2 ^ (8 * width - 1) ≡ 2 ^ (8 * width) = sym (ap (λ k. 2 ^ k) bits ∙ two-pow-succ (8 * width - 1)) in
    let wide : 8 * width ≤ 64 = omega arith in
    let top : 2 ^ (8 * width) ≤ 2 ^ 64 = pow_mono wide in
    let least : 0 < 2 ^ (8 * width - 1) = omega (arith, pow_pos (8 * width - 1)) in
    halves number (2 ^ (8 * width - 1)) (2 ^ (8 * width)) twice top fits least above
