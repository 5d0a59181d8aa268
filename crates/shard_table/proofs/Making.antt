-- The shards of a new table.
use Rattle.std.proofs.Common.{◌≡◌, ℕ, zero, suc, ◌+◌, ◌<◌, Bool, false, List, [], ◌∷◌, ◌++◌, map, length, get_or, set, take, drop, refl, sym, ap, subst, ◌∙◌, append_assoc, arith, inl, inr}
use Rattle.std.specs.Prelude.{slice_get, Some, None}
use mathlib.Core.Option.{some, some-injective, some-ne-none}
use lib.ListN.{get_elem?}
use Rattle.std.proofs.lemmas.Bool.{cases_eq}
use Rattle.std.proofs.lemmas.List.{get_or-set_other, length-map}
use Rattle.std.proofs.lemmas.Option.{same_Some}
use Rattle.std.proofs.Math.Seq.{take-append_seam}
use Rattle.shard.specs.Served.{ShardState, resumed}
use Rattle.shard_table.specs.Access.{restarted_shards}
use Rattle.shard_table.specs.Tables.{resumed_all}

pub all_restarted : (before after : List ShardState) → length after ≡ length before
    → ((d : ShardState) (i : ℕ) → i < length before → get_or after i d ≡ resumed (get_or before i d) 0) → after ≡ restarted_shards before
all_restarted [] [] same h = refl
all_restarted [] (y ∷ ys) same h = absurd (omega (arith, same))
all_restarted (x ∷ xs) [] same h = absurd (omega (arith, same))
all_restarted (x ∷ xs) (y ∷ ys) same h =
    ap (λ z. z ∷ ys) (h x 0 (omega arith)) ∙ ap (λ zs. resumed x 0 ∷ zs) (all_restarted xs ys (omega (arith, same)) (λ d i below. h d (suc i) (omega (arith, below))))

-- what is written back to a list is the whole list
pub written_back : {X : Type 0} (n : ℕ) (new old : List X) → length new ≡ n → take n (new ++ drop (length new) old) ≡ new
written_back n new old is = ap (λ (k : ℕ). take k (new ++ drop (length new) old)) (sym is) ∙ take-append_seam new (drop (length new) old)

pub restarted_length : (shards : List ShardState) → length (restarted_shards shards) ≡ length shards
restarted_length shards = length-map shards (λ shard. resumed shard 0)

pub are_new : (base : ℕ) (shards : List ShardState) → ((number : ℕ) (shard : ShardState) → slice_get shards number ≡ Some shard → shard.number ≡ base + number)
    → (number : ℕ) (shard : ShardState) → slice_get (restarted_shards shards) number ≡ Some shard → (shard.number ≡ base + number) × (shard.last ≡ 0)
are_new base [] numbers number shard at = absurd (let none : None ≡ Some shard = at in cc)
are_new base (x ∷ shards) numbers zero shard at = subst (λ (s : ShardState). (s.number ≡ base + 0) × (s.last ≡ 0)) (same_Some (resumed x 0) shard at) (numbers 0 x refl, refl)
are_new base (x ∷ shards) numbers (suc number) shard at =
    let shift : (k : ℕ) → (base + 1) + k ≡ base + suc k = λ k. omega arith in
    let later = are_new (base + 1) shards (λ k s there. numbers (suc k) s there ∙ sym (shift k)) number shard at in
    (later.0 ∙ shift number, later.1)

pub resumed_again : (shards : List ShardState) → resumed_all (restarted_shards shards) (map (λ shard. shard.last) shards) ≡ shards
resumed_again [] = refl
resumed_again (shard ∷ shards) = ap (λ xs. shard ∷ xs) (resumed_again shards)

-- one shard more
pub resumed_more : (back shards : List ShardState) (stamps : List ℕ) (shard : ShardState) (stamp : ℕ) → length stamps ≡ length shards → 0 < length shards
    → shard ≡ get_or shards 0 shard → stamp ≡ get_or stamps 0 stamp
    → (back ++ resumed shard stamp ∷ []) ++ resumed_all (drop 1 shards) (drop 1 stamps) ≡ back ++ resumed_all shards stamps
resumed_more back [] stamps shard stamp same more is stamped = absurd (omega (arith, more))
resumed_more back (x ∷ shards) [] shard stamp same more is stamped = absurd (omega (arith, same))
resumed_more back (x ∷ shards) (n ∷ stamps) shard stamp same more is stamped =
    rw (is, stamped) (append_assoc back (resumed x n ∷ []) (resumed_all shards stamps))

-- ---- the slots of a closed table

pub one_taken : {X : Type 0} (xs : List X) (n : ℕ) (x : X) → get_elem? xs n ≡ some x → take (n + 1) xs ≡ take n xs ++ x ∷ []
one_taken [] n x at = absurd (some-ne-none x (sym at))
one_taken (y ∷ xs) zero x at = ap (λ z. z ∷ []) (some-injective y x at)
one_taken (y ∷ xs) (suc n) x at = let more : suc n + 1 ≡ suc (n + 1) = omega arith in ap (λ (m : ℕ). take m (y ∷ xs)) more ∙ ap (λ zs. y ∷ zs) (one_taken xs n x at)

own_emptied : (filled : List Bool) (k : ℕ) → get_or (set filled k false) k false ≡ false
own_emptied [] k = refl
own_emptied (b ∷ filled) zero = refl
own_emptied (b ∷ filled) (suc k) = own_emptied filled k

pub emptied : (filled : List Bool) (n k : ℕ) → (k < n → get_or filled k false ≡ false) → k < n + 1 → get_or (set filled n false) k false ≡ false
emptied filled n k before below =
    elim (cases_eq k n) as (λ _. get_or (set filled n false) k false ≡ false) [
      | inl same ↦ ap (λ (m : ℕ). get_or (set filled m false) k false) (sym same) ∙ own_emptied filled k
      | inr other ↦ get_or-set_other filled n k false false (λ same. other same) ∙ before (omega (arith, below, other))
    ]
