-- The keys of cores, by the start of each.
use Rattle.std.specs.Prelude.{◌+◌, ◌-◌, ◌^◌, ℕ, cond, nat_lt, List, [], ◌∷◌}
use Rattle.zs_num.specs.declared.time.Key.{Key}
use Rattle.domain_queue.specs.Heap.{in_order}

-- the start of a core that has no key
abbrev pub never : ℕ
never = 2 ^ 64 - 1

-- the keys of the cores from this one on, in the order of the cores
abbrev pub keys_from : (core : ℕ) → (starts : List ℕ) → List Key
keys_from core [] = []
keys_from core (start ∷ starts) = cond (nat_lt start never) (record { start = start; number = core } ∷ keys_from (core + 1) starts) (keys_from (core + 1) starts)

-- the keys in ascending order
abbrev pub keys_of : (starts : List ℕ) → List Key
keys_of starts = in_order (keys_from 0 starts)
