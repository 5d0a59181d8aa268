-- That all shards of a machine have instruction caches, or none has.
use Rattle.std.proofs.Common.{◌≡◌, ℕ, ◌<◌, Bool, List, length, Some, sym, ◌∙◌}
use Rattle.std.specs.Prelude.{slice_get, slice_index_or}
use Rattle.std.proofs.lemmas.Option.{slice_get-get_or}
use Rattle.shard.specs.HaveL1i.{have_l1i}
use Rattle.shard.specs.Served.{ShardState, no_shard}
use Rattle.bound_core.specs.ShardPort.{l1i_in}

-- each shard has instruction caches, or each has none
abbrev pub EachHas : (l1i : Bool) → List ShardState → Type 0
EachHas l1i shards = (number : ℕ) (shard : ShardState) → slice_get shards number ≡ Some shard → have_l1i shard.caches ≡ l1i

-- then so has the first
pub first_has : (l1i : Bool) (shards : List ShardState) → 0 < length shards → EachHas l1i shards → l1i_in shards ≡ l1i
first_has l1i shards some each = each 0 (slice_index_or shards 0 no_shard) (slice_get-get_or shards 0 no_shard some)

-- and all are as the first
pub alike_by : (l1i : Bool) (shards : List ShardState) → 0 < length shards → EachHas l1i shards → EachHas (l1i_in shards) shards
alike_by l1i shards some each number shard here = each number shard here ∙ sym (first_has l1i shards some each)
