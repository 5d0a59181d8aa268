-- What a core may ask of the shards it may ask of the parts that stand for them.
use Rattle.std.proofs.Common.{◌≡◌, ℕ, zero, suc, ◌<◌, List, [], ◌∷◌, length, get_or, sym, ◌∙◌, ap, subst, arith}
use Rattle.std.specs.Prelude.{slice_get, slice_index_or, Some, None}
use Rattle.std.proofs.lemmas.List.FromFn.{get_or-map-range_with_len}
use Rattle.std.proofs.lemmas.Option.{same_Some}
use Rattle.zs_num.specs.Request.{bank_of}
use Rattle.zs_num.specs.declared.request.Request.{Request}
use Rattle.shard.specs.PartsLaws.{AreParts}
use Rattle.shard.specs.Seen.{PartsState, bank_at, shard_seen, shards_seen}
use Rattle.shard.specs.Served.{CanServe, KnowsCore, ShardState}
use Rattle.shard.specs.SharedStep.{Bank}
use Rattle.parts_table.specs.World.{IsSound, MayAsk, World, bank_in, parts_in}
use Rattle.parts_table.proofs.Locality.{bank_is, many_homes, parts_at}
use Rattle.parts_table.proofs.Opening.{as_many_shards, marks_seen}
use Rattle.parts_table.proofs.Stays.{is_asked}

got : {X : Type 0} (xs : List X) (k : ℕ) (x : X) → slice_get xs k ≡ Some x → (k < length xs) × ((d : X) → get_or xs k d ≡ x)
got [] k x at = absurd (let none : None ≡ Some x = at in cc)
got (y ∷ xs) zero x at = (omega arith, (λ d. same_Some y x at))
got (y ∷ xs) (suc k) x at = let later = got xs k x at in ((let low = later.0 in omega (arith, low)), later.1)

shard_at : (w : PartsState) (k : ℕ) (d : ShardState) → k < length w.homes → get_or (shards_seen w) k d ≡ shard_seen (bank_at w k) (slice_index_or w.lasts k 0)
unfolding shards_seen
shard_at w k d within = get_or-map-range_with_len (λ bank. shard_seen (bank_at w bank) (slice_index_or w.lasts bank 0)) 0 (length w.homes) k k d within (omega arith)

pub may_ask : (cores banks : ℕ) (w : World) → IsSound cores banks w → (core : ℕ) (request : Request) (shard : ShardState)
    → slice_get (shards_seen (parts_in cores banks w)) (bank_of banks request) ≡ Some shard → KnowsCore shard core → CanServe shard request → MayAsk cores banks w core request
may_ask cores banks w sound core request shard at knows can =
    let all : PartsState = parts_in cores banks w in
    let bank : ℕ = bank_of banks request in
    let there = got (shards_seen all) bank shard at in
    let size = as_many_shards all ∙ many_homes cores banks w in
    let low : bank < banks = subst (λ (n : ℕ). bank < n) size there.0 in
    let p : Bank = bank_in cores banks w bank in
    let last : ℕ = slice_index_or all.lasts bank 0 in
    let is : shard ≡ shard_seen p last =
    sym (there.1 shard) ∙ (shard_at all bank shard (subst (λ (n : ℕ). bank < n) (sym (many_homes cores banks w)) low) ∙ ap (λ (b : Bank). shard_seen b last) (bank_is cores banks w bank low)) in
    let are : AreParts p = parts_at cores banks w sound bank low in
    let known : core < length p.l1s =
    subst (λ (n : ℕ). core < n) (ap (λ (s : ShardState). length s.marks) is ∙ (ap length (marks_seen p last) ∙ are.cores.2)) knows in
    (low, is_asked p last core request known (subst (λ (s : ShardState). CanServe s request) is can))
