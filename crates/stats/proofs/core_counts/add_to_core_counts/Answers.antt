use Rattle.zs_num.specs.declared.entry.Entry.{Entry}
use Rattle.stats.specs.Counted.{entry_count}
use Rattle.stats.specs.CountsFit.{CoreFits}
use Rattle.stats.specs.Passes.{with_access, with_accesses}
use Rattle.stats.proofs.Plus.{core_fewer}
use Rattle.stats.proofs.Steps.{first_fit}
use Rattle.stats.proofs.core_counts.add_to_core_counts.Goals as goal

pub count_delays-requires-clause-fits : goal.count_delays-requires-clause-fits
unfolding with_accesses
count_delays-requires-clause-fits c = λ n d below.
    first_fit with_access (λ (e : Entry). e.core) CoreFits (λ x e. core_fewer x (entry_count e)) _ n c.args.entries.now 0 (c.requires.fits n d below)
