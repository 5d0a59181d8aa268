-- Accesses that are listed core by core.
use Rattle.std.specs.Prelude.{◌≡◌, ℕ, List, [], length, take, Some, slice_get}
use Rattle.std.specs.List.{flat_map}
use Rattle.std.specs.Option.{option_map_or}
use Rattle.zs_num.specs.declared.entry.Entry.{Entry}

-- those of a core, and none where there is no such core
abbrev pub list_of : List (List Entry) → (core : ℕ) → List Entry
list_of lists core = option_map_or (λ list. list) (slice_get lists core) []

-- those of all cores, one core after the other
abbrev pub one_after_other : List (List Entry) → List Entry
one_after_other lists = flat_map (λ list. list) lists

-- how many of them stand before those of a core
abbrev pub number_before : List (List Entry) → (core : ℕ) → ℕ
number_before lists core = length (one_after_other (take core lists))

-- each is of the core in whose list it stands
abbrev pub AreOwn : List (List Entry) → Type 0
AreOwn lists = (core i : ℕ) (e : Entry) → slice_get (list_of lists core) i ≡ Some e → e.core ≡ core
