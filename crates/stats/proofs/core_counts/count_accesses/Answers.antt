use Rattle.zs_num.specs.declared.entry.Entry.{Entry}
use Rattle.stats.specs.Counted.{entry_count}
use Rattle.stats.specs.CountsFit.{CoreFits}
use Rattle.stats.specs.Passes.{with_access, with_accesses}
use Rattle.stats.proofs.Plus.{core_fewer}
use Rattle.stats.proofs.Steps.{no_item, item_fits, item_counted}
use Rattle.stats.proofs.core_counts.count_accesses.Goals as goal

pub loop-entry-init : goal.loop-entry-init
unfolding with_accesses
loop-entry-init c = λ n d there. no_item with_access (λ (e : Entry). e.core) _ n c.args.entries.now

pub count_access-requires : goal.count_access-requires
unfolding with_accesses
count_access-requires c =
    item_fits with_access (λ (e : Entry). e.core) c.args.counts.now c.loop-entry.counts c.args.entries.now c.loop-entry.entry-index _ c.loop-entry-test.true c.from.result c.from.ensures
    (rw c.from.ensures (c.requires.cores c.loop-entry.entry-index _ c.loop-entry-test.true))
    c.loop-entry.invariant CoreFits (λ x e. core_fewer x (entry_count e)) c.requires.fits _

pub loop-entry-preserved : goal.loop-entry-preserved
unfolding with_accesses
loop-entry-preserved c =
    item_counted with_access (λ (e : Entry). e.core) c.args.counts.now c.loop-entry.counts c.args.entries.now c.loop-entry.entry-index _ c.loop-entry-test.true c.from.result c.from.ensures
    (rw c.from.ensures (c.requires.cores c.loop-entry.entry-index _ c.loop-entry-test.true))
    c.loop-entry.invariant c.loop-entry.auto.counts _ c.count_access.new.count c.count_access.ensures
