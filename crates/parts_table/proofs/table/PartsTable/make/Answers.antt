use Rattle.std.proofs.Common.{rules, ◌≡◌, ℕ, List, length, map, sym, ◌∙◌, ap, arith}
use Rattle.std.specs.Prelude.{slice_get}
use Rattle.std.proofs.lemmas.Result.{IfOk-weaker}
use Rattle.home.specs.HomeState.{HomeState}
use Rattle.l1_cache.specs.L1State.{L1State}
use Rattle.shard.specs.Seen.{PartsState}
use Rattle.shard.specs.Served.{ShardState, resumed}
use Rattle.parts_table.proofs.Opening.{as_many_shards, few_l1s, known_cores, opening_by}
use Rattle.parts_table.proofs.table.PartsTable.make.Goals as goal

pub new-requires : goal.new-requires
new-requires c =
    let all : PartsState = record { homes = c.take_apart-homes.result.0.items; l1s = c.take_apart-homes.result.1.items; lasts = c.take_apart-homes.result.2.items } in
    let few = few_l1s all c.take_apart-homes.ensures.parts in
    let cores : c.len.result ≡ length all.l1s = search rules in
    let banks : c.len-2.result ≡ length all.homes = search rules in
    let size = ap length c.take_apart-homes.ensures.seen ∙ as_many_shards all in
    let low = c.requires.few in
    (omega (arith, few.1, cores), omega (arith, banks, size, low))

pub fill-requires-clause-few : goal.fill-requires-clause-few
fill-requires-clause-few c =
    let all : PartsState = record { homes = c.take_apart-homes.result.0.items; l1s = c.take_apart-homes.result.1.items; lasts = c.take_apart-homes.result.2.items } in
    let size = ap length c.take_apart-homes.ensures.seen ∙ as_many_shards all in
    let low = c.requires.few in
    omega (arith, size, low)

pub fill-requires-clause-cores : goal.fill-requires-clause-cores
fill-requires-clause-cores c =
    let all : PartsState = record { homes = c.take_apart-homes.result.0.items; l1s = c.take_apart-homes.result.1.items; lasts = c.take_apart-homes.result.2.items } in
    known_cores all (length c.args.blocks.items) c.take_apart-homes.ensures.parts
    (λ shard at. c.requires.cores shard (ap (λ (shards : List ShardState). slice_get shards 0) c.take_apart-homes.ensures.seen ∙ at))

pub returns-clause-shards : goal.returns-clause-shards
returns-clause-shards c =
    let homes : List HomeState = c.take_apart-homes.result.0.items in
    let l1s : List L1State = c.take_apart-homes.result.1.items in
    let lasts : List ℕ = c.take_apart-homes.result.2.items in
    IfOk-weaker c.fill.result _ _
    (λ made is.
    opening_by homes l1s lasts c.take_apart-homes.ensures.parts made.0.opening made.0.cores made.0.banks is.0 is.1 is.2
    ∙ ap (map (λ (shard : ShardState). resumed shard 0)) (sym c.take_apart-homes.ensures.seen))
    c.fill.ensures.table

pub returns-clause-counts : goal.returns-clause-counts
returns-clause-counts c =
    let all : PartsState = record { homes = c.take_apart-homes.result.0.items; l1s = c.take_apart-homes.result.1.items; lasts = c.take_apart-homes.result.2.items } in
    let cores : length all.l1s ≡ length c.args.blocks.items =
    known_cores all (length c.args.blocks.items) c.take_apart-homes.ensures.parts
    (λ shard at. c.requires.cores shard (ap (λ (shards : List ShardState). slice_get shards 0) c.take_apart-homes.ensures.seen ∙ at)) in
    let banks : length all.homes ≡ length c.args.parts = sym (ap length c.take_apart-homes.ensures.seen ∙ as_many_shards all) in
    IfOk-weaker c.fill.result _ _ (λ made is. (is.1 ∙ cores, is.2 ∙ banks, is.3)) c.fill.ensures.table
