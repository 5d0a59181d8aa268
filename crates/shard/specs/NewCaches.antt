-- The caches of a machine before its first access.
use Rattle.machine_desc.specs.declared.machine.Machine.{Machine}
use Rattle.machine_desc.specs.InstructionCaches.{fetchers_of, l1i_sets_of, l1i_ways_of}
use Rattle.shard.specs.Coherence.{Caches, empty_caches}

-- the caches of the whole machine, empty
abbrev pub new_caches : Machine → Caches
new_caches m = empty_caches m.cores 1 m.l1.sets m.l1.ways (fetchers_of m) (l1i_sets_of m) (l1i_ways_of m) m.l2.sets m.l2.ways
