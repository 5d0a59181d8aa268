-- How many nodes a mesh has, and the places of its links.
use Rattle.std.proofs.Common.{◌≡◌, ◌∙◌, ◌+◌, ◌-◌, ◌*◌, ◌<◌, ◌≤◌, ◌++◌, ℕ, zero, suc, List, [], ◌∷◌, length, map, Some, ap, arith}
use Rattle.std.specs.Prelude.{slice_get}
use Rattle.std.specs.List.{range_with_len}
use Rattle.std.proofs.lemmas.List.{length-append}
use Rattle.std.proofs.lemmas.List.FromFn.{get_or-map-range_with_len, length-map-range_with_len}
use Rattle.std.proofs.lemmas.Nat.{mul-le}
use Rattle.std.proofs.lemmas.Option.{slice_get-get_or}

-- two numbers up to 8 have a product up to 64
pub few_nodes : (width height : ℕ) → width ≤ 8 → height ≤ 8 → width * height ≤ 64
few_nodes width height narrow low = mul-le width height 8 8 narrow low

-- what is in the second of two lists, by the place there
get_behind : (xs ys : List ℕ) (k j : ℕ) → k ≡ length xs + j → slice_get (xs ++ ys) k ≡ slice_get ys j
get_behind [] ys k j is = rw (let same : k ≡ j = omega arith in same)
get_behind (x ∷ xs) ys zero j is = absurd (omega arith)
get_behind (x ∷ xs) ys (suc k) j is = get_behind xs ys k j (omega arith)

get_number : (f : ℕ → ℕ) (n j : ℕ) → j < n → slice_get (map f (range_with_len 0 n)) j ≡ Some (f j)
get_number f n j below =
    slice_get-get_or (map f (range_with_len 0 n)) j (f j) (omega (arith, length-map-range_with_len f 0 n, below))
    ∙ ap Some (get_or-map-range_with_len f 0 n j j (f j) below (omega arith))

-- behind the banks and the controllers stand the links
pub get_link : (f : ℕ → ℕ) (banks controllers : List ℕ) (links component b c : ℕ) → length banks ≡ b → length controllers ≡ c → b + c ≤ component → component < b + c + links
    → slice_get (banks ++ controllers ++ map f (range_with_len 0 links)) component ≡ Some (f (component - b - c))
get_link f banks controllers links component b c as_many_banks as_many_controllers from below =
    get_behind (banks ++ controllers) (map f (range_with_len 0 links)) component (component - b - c) (omega (arith, length-append banks controllers, as_many_banks, as_many_controllers, from))
    ∙ get_number f links (component - b - c) (omega (arith, from, below))
