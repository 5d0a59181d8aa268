-- What a core of a machine asks can be asked of the machine's shards.
use Rattle.std.proofs.Common.{◌≡◌, ◌<◌, ◌%◌, ℕ, zero, suc, List, [], ◌∷◌, length, sym, ◌∙◌, ap, refl, subst, arith, mod-lt, Bool}
use Rattle.std.specs.Prelude.{slice_get, Some}
use Rattle.zs_num.specs.declared.request.Request.{Request}
use Rattle.zs_num.specs.Request.{line_of, bank_of}
use Rattle.zs_num.specs.Servable.{IsServable}
use Rattle.shard.specs.HaveL1i.{have_l1i}
use Rattle.shard.specs.Served.{CanServe, ShardState}
use Rattle.shard_table.specs.Lives.{MayAsk}
use Rattle.bound_core.specs.ShardPort.{AreShardsOf, IsShardAt, l1i_in}

pub some_at : {X : Type 0} (xs : List X) (i : ℕ) → i < length xs → (x : X) × (slice_get xs i ≡ Some x)
some_at [] i within = absurd (omega (arith, within))
some_at (x ∷ xs) zero within = (x, refl)
some_at (x ∷ xs) (suc i) within = some_at xs i (omega (arith, within))

can_serve : (shards cores number base size : ℕ) (l1i : Bool) (shard : ShardState) (request : Request) → IsShardAt shards cores number base size shard → number ≡ line_of request % shards
    → have_l1i shard.caches ≡ l1i → IsServable base size l1i request → CanServe shard request
unfolding CanServe
can_serve shards cores number base size l1i shard request at is same servable = (
  subst (λ (has : Bool). IsServable shard.base shard.size has request) (sym same)
      (subst (λ (n : ℕ). IsServable n shard.size l1i request) (sym at.base_is) (subst (λ (n : ℕ). IsServable base n l1i request) (sym at.size_is) servable)),
  ap (λ (n : ℕ). line_of request % n) at.count ∙ (sym is ∙ sym at.number_is),
)

pub may_ask : (cores core base size : ℕ) (shards : List ShardState) (request : Request) → AreShardsOf cores shards base size → core < cores → IsServable base size (l1i_in shards) request → MayAsk shards core request
may_ask cores core base size shards request are known servable =
    let number : ℕ = bank_of (length shards) request in
    let found = some_at shards number (mod-lt (line_of request) are.some) in
    let at = are.each number found.0 found.1 in
    (found.0, found.1, subst (λ (n : ℕ). core < n) (sym at.cores_known) known, can_serve (length shards) cores number base size (l1i_in shards) found.0 request at refl (are.alike number found.0 found.1) servable)
