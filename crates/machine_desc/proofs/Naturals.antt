-- Integers as natural numbers.
use Rattle.std.proofs.Common.{ℕ, ◌<◌, ◌≤◌, ◌^◌, ℤ, List, length, map, get_or, All, arith}
use Rattle.std.proofs.lemmas.List.{get_or-map, length-map}
use Rattle.machine_desc.specs.Text.{natural}

-- numbers below a count of at most 64 are short
pub naturals-short : (count : ℕ) (zs : List ℤ) → count ≤ 64 → All (λ n. n < count) (map natural zs) → All (λ z. natural z < 2 ^ 16) zs
naturals-short count zs few below = λ k d within.
    let there : k < length (map natural zs) = rw (length-map zs natural) within in
    let small : get_or (map natural zs) k (natural d) < count = below k (natural d) there in
    omega (arith, get_or-map natural zs k d (natural d) within)
