-- A miss of each of two cores.
use Rattle.std.specs.Prelude.{ℕ, false, List, [], ◌∷◌}
use Rattle.zs_num.specs.declared.entry.Entry.{Entry}
use Rattle.zs_num.specs.declared.entry.Outcome.{Outcome}
use Rattle.zs_num.specs.declared.entry.Outcome.TheVariants.{Miss}
use Rattle.zs_num.specs.declared.request.Request.TheVariants.{Load}

-- a load of line 1088
abbrev pub load_of : (core start : ℕ) → Outcome → Entry
load_of core start outcome = record { core = core; stamp = 1; start = start; request = Load 8 69632; reply = 0; outcome = outcome }

-- one that misses, with a clean victim
abbrev pub miss_of : (core start : ℕ) → Entry
miss_of core start = load_of core start (Miss false)

abbrev pub two_misses : (first second : ℕ) → List (List Entry)
two_misses first second = (miss_of 0 first ∷ []) ∷ (miss_of 1 second ∷ []) ∷ []
