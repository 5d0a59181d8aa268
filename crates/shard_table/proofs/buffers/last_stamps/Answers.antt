use Rattle.std.proofs.Common.{ℕ, List, [], ◌∷◌, ◌++◌, get_or, map, take, ap, ap₂, sym, ◌∙◌, arith}
use Rattle.std.proofs.lemmas.List.{map-append, take_all, take_more}
use Rattle.shard.specs.Served.{ShardState}
use Rattle.shard_table.proofs.buffers.last_stamps.Goals as goal

last : ShardState → ℕ
last shard = shard.last

pub loop-shard-preserved : goal.loop-shard-preserved
unfolding last
loop-shard-preserved c =
    let shards : List ShardState = c.args.shards.now in
    let i : ℕ = c.loop-shard.shard-index in
    let item : ShardState = c.shard-item.result in
    record {
      items = c.push_reserved.ensures.items
          ∙ (ap₂ (λ (stamps : List ℕ) (stamp : ℕ). stamps ++ stamp ∷ []) c.loop-shard.invariant.items (c.last.ensures ∙ ap last c.shard-item.is)
          ∙ sym (ap (map last) (take_more shards i item c.loop-shard-test.true) ∙ map-append last (take i shards) (get_or shards i item ∷ [])));
      room = omega (arith, c.loop-shard.invariant.room, c.push_reserved.ensures.capacity);
    }

pub returns : goal.returns
unfolding last
returns c = c.loop-shard.invariant.items ∙ ap (map last) (take_all c.loop-shard.shard-index c.args.shards.now (omega (arith, c.loop-shard-test.false)))
