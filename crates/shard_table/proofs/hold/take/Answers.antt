use Rattle.std.proofs.Common.{ℕ, ◌+◌, ◌*◌, ◌==◌, List, sym, subst, arith}
use prog.Atomic.{either}
use mathlib.Core.Option.{none}
use Rattle.atomic_table.specs.Table.{Allows, step}
use Rattle.shard.specs.Served.{ShardState}
use Rattle.shard_table.specs.Rule.{AreHoldsAtTable}
use Rattle.shard_table.specs.Steps.{taken}
use Rattle.shard_table.proofs.Taking.{takes_hold}
use Rattle.shard_table.proofs.hold.take.Goals as goal

pub overflow_mul-bank : goal.overflow_mul-bank
overflow_mul-bank c = let few = c.requires.word.1 in omega (arith, few)

pub compare_exchange-requires : goal.compare_exchange-requires
compare_exchange-requires c =
    let place = c.args.place.now in
    let bench = c.args.bench.now in
    let shards : List ShardState = bench.key.shards.value.items in
    let part = c.requires.part in
    let Goes : List (ℕ × ShardState) → Type 0 = λ held.
    Allows (AreHoldsAtTable shards bench.key.cores bench.key.room) bench.table_id.slots place.id (place.me.0, held) (16 * c.args.bank) (λ n. either (n == 0) (c.args.core + 1) n)
    (taken (step bench.table_id.slots (16 * c.args.bank) 0 (c.args.core + 1) none) (place.me.0, held)) in (
      c.requires.table,
      c.requires.word.0,
      subst Goes (sym c.requires.slots)
          (takes_hold shards bench.key.cores bench.key.room c.last_is_stamp.ensures bench.table_id.slots place.id c.args.bank c.args.core place.me.0 part.0 part.1 part.2 c.requires.hold c.requires.shard),
    )
