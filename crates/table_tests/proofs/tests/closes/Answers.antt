-- The one shard can be asked for the doubleword.
use Rattle.std.proofs.Common.{◌≡◌, ℕ, ◌<◌, ◌%◌, Some, length, slice_get, rules, ap, sym, ◌∙◌, false}
use Rattle.shard.specs.Served.{ShardState}
use Rattle.zs_num.specs.Request.{line_of}
use Rattle.zs_num.specs.Servable.{IsServable}
use Rattle.zs_num.specs.declared.request.Request.TheVariants.{Load}
use Rattle.table_tests.proofs.Asking.{first_there}
use Rattle.table_tests.proofs.tests.closes.Goals as goal

pub doubleword-requires : goal.doubleword-requires
doubleword-requires g c =
    let some : 0 < length c.in_ok-shards.shards.items = search rules in
    let at : slice_get c.in_ok-shards.shards.items 0 ≡ Some c.index.result.now =
    first_there c.in_ok-shards.shards.items c.index.result.now some ∙ ap (λ (s : ShardState). Some s) (sym c.index.ensures)
    in
    let can : IsServable 65536 1048576 false (Load 8 69632) = search rules in
    c.in_ok-shards.ensures 0 c.index.result.now (Load 8 69632) at can (ap (λ (n : ℕ). line_of (Load 8 69632) % n) c.requires)
