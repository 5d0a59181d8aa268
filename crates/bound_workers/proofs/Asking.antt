-- What a core of a machine asks can be asked of the parts at a table.
use Rattle.std.proofs.Common.{◌≡◌, ◌<◌, ◌%◌, ℕ, zero, suc, List, [], ◌∷◌, length, map, sym, ◌∙◌, ap, refl, subst, arith, mod-lt, Bool}
use Rattle.std.specs.Prelude.{slice_get, slice_index_or, Some}
use Rattle.std.specs.List.{range_with_len}
use Rattle.std.proofs.lemmas.List.FromFn.{length-map-range_with_len}
use Rattle.zs_num.specs.declared.request.Request.{Request}
use Rattle.zs_num.specs.Request.{line_of, bank_of}
use Rattle.zs_num.specs.Servable.{IsServable}
use Rattle.shard.specs.HaveL1i.{have_l1i}
use Rattle.shard.specs.Seen.{PartsState, bank_at, shard_seen, shards_seen}
use Rattle.shard.specs.Served.{CanServe, KnowsCore, ShardState}
use Rattle.bound_core.specs.ShardPort.{AreShardsOf, IsShardAt, l1i_in}
use Rattle.parts_table.specs.Access.{TableState, opening_shards}
use Rattle.parts_table.specs.World.{MayAsk, home_in, home_number, parts_in, world_of}

some_at : {X : Type 0} (xs : List X) (i : ℕ) → i < length xs → (x : X) × (slice_get xs i ≡ Some x)
some_at [] i within = absurd (omega (arith, within))
some_at (x ∷ xs) zero within = (x, refl)
some_at (x ∷ xs) (suc i) within = some_at xs i (omega (arith, within))

can_serve : (shards cores number base size : ℕ) (l1i : Bool) (shard : ShardState) (request : Request) → IsShardAt shards cores number base size shard → number ≡ line_of request % shards
    → have_l1i shard.caches ≡ l1i → IsServable base size l1i request → CanServe shard request
unfolding CanServe
can_serve shards cores number base size l1i shard request at is same servable = (
  subst (λ (has : Bool). IsServable shard.base shard.size has request) (sym same)
      (subst (λ (n : ℕ). IsServable n shard.size l1i request) (sym at.base_is) (subst (λ (n : ℕ). IsServable base n l1i request) (sym at.size_is) servable)),
  ap (λ (n : ℕ). line_of request % n) at.count ∙ (sym is ∙ sym at.number_is),
)

as_many_seen : (w : PartsState) → length (shards_seen w) ≡ length w.homes
unfolding shards_seen
as_many_seen w = length-map-range_with_len (λ bank. shard_seen (bank_at w bank) (slice_index_or w.lasts bank 0)) 0 (length w.homes)

pub as_many_banks : (t : TableState) → length (opening_shards t) ≡ t.banks
as_many_banks t =
    as_many_seen (parts_in t.cores t.banks (world_of t.opening))
    ∙ length-map-range_with_len (λ bank. home_in (world_of t.opening (home_number t.cores t.banks bank)).part) 0 t.banks

pub may_ask : (t : TableState) (core base size : ℕ) (request : Request) → AreShardsOf t.cores (opening_shards t) base size → core < t.cores → IsServable base size (l1i_in (opening_shards t)) request
    → ((c : ℕ) (r : Request) (shard : ShardState) → slice_get (opening_shards t) (bank_of t.banks r) ≡ Some shard → KnowsCore shard c → CanServe shard r → MayAsk t.cores t.banks (world_of t.opening) c r)
    → MayAsk t.cores t.banks (world_of t.opening) core request
may_ask t core base size request are known servable law =
    let shards : List ShardState = opening_shards t in
    let number : ℕ = bank_of (length shards) request in
    let found = some_at shards number (mod-lt (line_of request) are.some) in
    let at = are.each number found.0 found.1 in
    law core request found.0 (ap (λ (n : ℕ). slice_get shards (bank_of n request)) (sym (as_many_banks t)) ∙ found.1) (subst (λ (n : ℕ). core < n) (sym at.cores_known) known)
    (can_serve (length shards) t.cores number base size (l1i_in shards) found.0 request at refl (are.alike number found.0 found.1) servable)
