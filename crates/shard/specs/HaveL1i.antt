-- Whether the cores of caches have instruction caches: all have one, or none has.
use Rattle.std.specs.Prelude.{Bool, length, nat_lt}
use Rattle.shard.specs.Coherence.{Caches}

abbrev pub have_l1i : Caches → Bool
have_l1i c = nat_lt 0 (length c.l1i)
