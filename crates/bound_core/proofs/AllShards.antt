-- All shards of a machine, one of which serves an access.
use Rattle.std.proofs.Common.{mod-lt, take, drop, ◌++◌, ◌≡◌, ◌<◌, ℕ, suc, List, [], ◌∷◌, length, map, get_or, refl, ap, sym, ◌∙◌, arith}
use Rattle.std.proofs.Math.Seq.{take-append_seam}
use Rattle.std.proofs.lemmas.List.{get_or_default}
use Rattle.zs_num.specs.Request.{bank_of, line_of}
use Rattle.zs_num.specs.declared.request.Request.{Request}
use Rattle.shard.specs.Served.{ShardState, no_shard, resumed, shard_for}

-- the element at the shard's number is the shard
pub shard_at : (shards : List ShardState) (request : Request) (x : ShardState) (i : ℕ) → 0 < length shards → i ≡ bank_of (length shards) request → x ≡ get_or shards i x → x ≡ shard_for shards request
shard_at shards request x i some is here =
    here ∙ (ap (λ (k : ℕ). get_or shards k x) is ∙ get_or_default shards (bank_of (length shards) request) x no_shard (mod-lt (line_of request) some))

-- a slice that was written whole
pub whole_again : {A : Type 0} (n : ℕ) (new old : List A) → length new ≡ length old → n ≡ length old → take n (new ++ drop (length new) old) ≡ new
whole_again n new old same is = ap (λ (k : ℕ). take k (new ++ drop (length new) old)) (is ∙ sym same) ∙ take-append_seam new (drop (length new) old)

-- each was restarted
pub all_restarted : (before after : List ShardState) → length after ≡ length before
    → ((i : ℕ) → i < length before → get_or after i no_shard ≡ resumed (get_or before i no_shard) 0) → after ≡ map (λ shard. resumed shard 0) before
all_restarted [] [] same h = refl
all_restarted [] (y ∷ ys) same h = absurd (omega (arith, same))
all_restarted (x ∷ xs) [] same h = absurd (omega (arith, same))
all_restarted (x ∷ xs) (y ∷ ys) same h =
    ap (λ z. z ∷ ys) (h 0 (omega arith)) ∙ ap (λ zs. resumed x 0 ∷ zs) (all_restarted xs ys (omega (arith, same)) (λ i below. h (suc i) (omega (arith, below))))
