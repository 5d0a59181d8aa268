-- Room for the accesses of an interval.
use Rattle.std.proofs.Common.{◌≡◌, ℕ, zero, suc, ◌-◌, ◌^◌, List, map, length, refl, ◌∙◌, ap, arith}
use Rattle.std.specs.Prelude.{replicate}
use Rattle.shard.specs.Served.{ShardState}
use Rattle.bound_core.specs.ShardPort.{greatest, greatest_stamp, room_of}
use Rattle.bound_core.specs.ShardWorld.{begun_world, restarted}
use Rattle.reference.proofs.Restarted.{no_last}

greatest_none : (n : ℕ) → greatest (replicate n 0) ≡ 0
greatest_none zero = refl
greatest_none (suc n) = omega (arith, greatest_none n)

-- before the first access no stamp is near its limit
pub begun_room : (cores : ℕ) (shards : List ShardState) → room_of (begun_world cores (map restarted shards)) ≡ 2 ^ 62 - 1
begun_room cores shards =
    let lasts : greatest (map (λ (shard : ShardState). shard.last) (map restarted shards)) ≡ 0 = ap greatest (no_last shards) ∙ greatest_none (length shards) in
    let all : greatest_stamp (begun_world cores (map restarted shards)) ≡ 0 = omega (arith, lasts, greatest_none cores) in
    ap (λ (n : ℕ). 2 ^ 62 - 1 - n) all
