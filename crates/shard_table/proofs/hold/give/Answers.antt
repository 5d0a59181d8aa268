use Rattle.std.proofs.Common.{◌≡◌, ℕ, ◌*◌, ◌/◌, List, sym, subst, arith}
use mathlib.Core.Option.{none}
use Rattle.atomic_table.specs.Table.{Allows, step}
use Rattle.zs_num.specs.declared.entry.Entry.{Entry}
use Rattle.shard.specs.Served.{ShardState}
use Rattle.shard_table.specs.Rule.{AreHoldsAtTable}
use Rattle.shard_table.specs.Steps.{gave, gave_at}
use Rattle.shard_table.proofs.Giving.{gives_back}
use Rattle.shard_table.proofs.hold.give.Goals as goal

pub overflow_mul-bank : goal.overflow_mul-bank
overflow_mul-bank g c = let few = c.requires.word.1 in omega (arith, few)

pub store-requires : goal.store-requires
store-requires g c =
    let place = c.args.place.now in
    let bench = c.args.bench.now in
    let shards : List ShardState = bench.key.shards.value.items in
    let e : Entry = c.args.entry in
    let ends = c.requires.ends in
    let Goes : List (ℕ × ShardState) → Type 0 = λ held.
    Allows (AreHoldsAtTable shards bench.key.cores bench.key.room) bench.table_id.slots place.id (place.me.0, held) (16 * c.args.bank) (λ _. 0)
    (λ _. gave g.E.Ends.entry (step bench.table_id.slots (16 * c.args.bank) 0 0 none) (place.me.0, held) 0) in (
      c.requires.table,
      c.requires.word.0,
      subst Goes (sym ends.6)
          (gives_back shards bench.key.cores bench.key.room c.one_more_is_stamped.ensures bench.table_id.slots place.id c.args.bank place.me.0 ends.0 ends.1 g.E.Ends.entry ends.2 ends.3 ends.4 ends.5
          (subst (λ (x : Entry). Rattle.shard_table.specs.Steps.IsEntryOf place.me.0 c.args.bank ends.0 ends.1 x ends.2) c.requires.named ends.7)),
    )

pub returns-clause-gave : goal.returns-clause-gave
returns-clause-gave g c =
    let place = c.args.place.now in
    let is_shard : 16 * c.args.bank / 16 ≡ c.args.bank = omega arith in
    subst (λ (x : Entry). gave_at x c.args.bank place.me c.store.new.seat.me) (sym c.requires.named)
    (subst (λ (k : ℕ). gave_at g.E.Ends.entry k place.me c.store.new.seat.me) is_shard c.store.ensures.2)
