use Rattle.std.proofs.Common.{◌<◌, length, arith, rules, ◌∙◌}
use Rattle.shard_table.proofs.Making.{resumed_more}
use Rattle.shard_table.proofs.table.resume_all.Goals as goal

pub loop-shards-preserved : goal.loop-shards-preserved
loop-shards-preserved c =
    let so_far = c.loop-shards.invariant in
    let some : 0 < length c.loop-shards.shards.items = search rules in
    record {
      items =
          rw (c.push_reserved.ensures.items, c.resume.ensures, c.remove-shard.ensures.items, c.remove.ensures.items)
          (resumed_more c.loop-shards.back.items c.loop-shards.shards.items c.loop-shards.stamps.items c.remove-shard.result c.remove.result so_far.size some
          c.remove-shard.ensures.value c.remove.ensures.value ∙ so_far.items);
      size = omega arith;
      room = omega arith;
    }
