-- What is counted of a core's accesses as they are made.
use Rattle.std.specs.Prelude.{List, map}
use Rattle.zs_num.specs.declared.entry.Entry.{Entry}
use Rattle.stats.specs.declared.counts.CoreCount.{CoreCount}
use Rattle.stats.specs.Counted.{core_sum, entry_count}

-- the sum over these accesses
abbrev pub count_of : List Entry → CoreCount
count_of entries = core_sum (map entry_count entries)
