use Rattle.std.proofs.Common.{◌<◌, ℕ, length, List, refl, sym, ◌∙◌, subst}
use Rattle.zs_num.specs.declared.entry.Entry.{Entry}
use Rattle.shard_table.specs.Lives.{MayAsk}
use Rattle.shard_table.proofs.Holding.{after_tries, same_twice}
use Rattle.shard_table.proofs.table.ShardTable.access.Goals as goal

pub loop-init : goal.loop-init
loop-init g c = record { same = record { table = refl; core = refl; shards = refl; cores = refl; room = refl }; entries = refl; notes = refl }

pub try_access-requires-clause-table : goal.try_access-requires-clause-table
try_access-requires-clause-table g c =
    let same = c.loop.invariant.same in
    let table = c.requires.table in
    record { table = same.table ∙ table.table; shards = same.shards ∙ table.shards; cores = same.cores ∙ table.cores; room = same.room ∙ table.room }

pub try_access-requires-clause-room : goal.try_access-requires-clause-room
try_access-requires-clause-room g c = subst (λ (es : List Entry). length es < c.args.self.now.room) (sym c.loop.invariant.entries) c.requires.room

pub try_access-requires-clause-ask : goal.try_access-requires-clause-ask
try_access-requires-clause-ask g c = subst (λ (n : ℕ). MayAsk c.args.self.now.shards n c.args.request) (sym c.loop.invariant.same.core) c.requires.ask

pub returns-in-Ok-clause-same : goal.returns-in-Ok-clause-same
returns-in-Ok-clause-same g c = same_twice c.args.seat.now c.loop.seat c.try_access.new.seat c.loop.invariant.same c.try_access.ensures.same

pub returns-in-Ok-clause-access : goal.returns-in-Ok-clause-access
returns-in-Ok-clause-access g c = after_tries c.args.seat.now c.loop.seat c.try_access.new.seat c.args.start c.args.request c.in-Ok.entry c.loop.invariant.same c.loop.invariant.entries c.loop.invariant.notes c.in-Ok.ensures.access

pub loop-preserved : goal.loop-preserved
loop-preserved g c = record { same = same_twice c.args.seat.now c.loop.seat c.try_access.new.seat c.loop.invariant.same c.try_access.ensures.same; entries = c.in_default.ensures.held.entries ∙ c.loop.invariant.entries; notes = c.in_default.ensures.held.notes ∙ c.loop.invariant.notes }
