-- Counts of which no sum passes its type.
use Rattle.std.specs.Prelude.{◌<◌, ◌^◌}
use Rattle.std.specs.List.{All}
use Rattle.stats.specs.declared.counts.CoreCount.{CoreCount}
use Rattle.stats.specs.declared.counts.CompCount.{CompCount}
use Rattle.stats.specs.Counts.{Counts}

pub record CoreFits (c : CoreCount) : Type 0 where
  pub delay : c.delay < 2 ^ 128
  pub loads : c.loads < 2 ^ 64
  pub stores : c.stores < 2 ^ 64
  pub atomics : c.atomics < 2 ^ 64
  pub fetches : c.fetches < 2 ^ 64
  pub hits : c.hits < 2 ^ 64
  pub upgrades : c.upgrades < 2 ^ 64
  pub l2hits : c.l2hits < 2 ^ 64
  pub misses : c.misses < 2 ^ 64

pub record CompFits (c : CompCount) : Type 0 where
  pub events : c.events < 2 ^ 64
  pub waited : c.waited < 2 ^ 128

pub record CountsFit (c : Counts) : Type 0 where
  pub core_counts : All CoreFits c.core_counts
  pub comp_counts : All CompFits c.comp_counts
  pub accesses : c.accesses < 2 ^ 64
  pub events : c.events < 2 ^ 64
