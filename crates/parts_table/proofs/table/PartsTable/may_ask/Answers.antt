use Rattle.std.proofs.Common.{◌≡◌, ℕ, subst}
use Rattle.std.specs.Prelude.{slice_get, Some}
use Rattle.zs_num.specs.Request.{bank_of}
use Rattle.zs_num.specs.declared.request.Request.{Request}
use Rattle.shard.specs.Served.{CanServe, KnowsCore, ShardState}
use Rattle.parts_table.specs.Access.{TableState, opening_shards}
use Rattle.parts_table.specs.Tables.{table_state_of}
use Rattle.parts_table.specs.World.{MayAsk, world_of}
use Rattle.parts_table.proofs.Asking.{may_ask}
use Rattle.parts_table.proofs.table.PartsTable.may_ask.Goals as goal

-- what holds of a table
abbrev Asks : TableState → Type 0
Asks t = (core : ℕ) (request : Request) (shard : ShardState) → slice_get (opening_shards t) (bank_of t.banks request) ≡ Some shard
    → KnowsCore shard core → CanServe shard request → MayAsk t.cores t.banks (world_of t.opening) core request

pub returns : goal.returns
returns c =
    let inside = c.self.inside.words.shared in
    let t : TableState = table_state_of inside.table_id inside.key in
    subst Asks c.self.view_is (may_ask t.cores t.banks (world_of t.opening) c.self.invariant.opened.sound)
