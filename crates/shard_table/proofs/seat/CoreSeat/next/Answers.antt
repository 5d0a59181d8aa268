use Rattle.std.proofs.Common.{rules, ◌≡◌, List, arith}
use Rattle.shard.specs.Served.{ShardState}
use Rattle.shard_table.proofs.Seating.{splits}
use Rattle.shard_table.proofs.seat.CoreSeat.next.Goals as goal

pub split_seat-requires : goal.split_seat-requires
split_seat-requires c =
    let place = c.self.inside.place in
    let bench = c.args.bench.now in
    let shards : List ShardState = bench.key.shards.value.items in
    let counts = c.requires.counts in
    let made : place.me.0.made ≡ c.args.core = search rules in (
      search rules,
      c.requires.words,
      splits shards bench.key.cores bench.key.room place.id place.me.0 c.self.invariant.hold (omega (arith, counts.0, made)) (omega (arith, made, counts.2)),
    )
