-- The instruction caches of a machine: all cores have one, or none has.
use Rattle.std.specs.Prelude.{ℕ, Bool, if◌then◌else◌, is_some}
use Rattle.std.specs.Option.{option_map_or}
use Rattle.machine_desc.specs.declared.machine.Machine.{Machine}

-- whether the cores have them, and so fetch their instructions through them
abbrev pub has_l1i : Machine → Bool
has_l1i m = is_some m.l1i

-- how many cores have one
abbrev pub fetchers_of : Machine → ℕ
fetchers_of m = if has_l1i m then m.cores else 0

-- of so many sets, and ways; 0 where there is none
abbrev pub l1i_sets_of : Machine → ℕ
l1i_sets_of m = option_map_or (λ c. c.sets) m.l1i 0

abbrev pub l1i_ways_of : Machine → ℕ
l1i_ways_of m = option_map_or (λ c. c.ways) m.l1i 0
