-- The copies that tables have, and what a copy that leaves does to them.
use Rattle.std.specs.Prelude.{ℕ, ◌==◌, ◌&&◌, Bool, true, false, not, List, Option, Some, None, if◌then◌else◌}
use Rattle.sparse_table.specs.Sparse.{Sparse}
use Rattle.profile.specs.declared.copies.CopyState.{CopyState}
use Rattle.profile.specs.declared.copies.CopyState.TheVariants.{Never}
use Rattle.profile.specs.declared.copies.Leave.{Leave}
use Rattle.profile.specs.Copies.{Copies, left}
use Rattle.sparse_table.specs.ByCore.{value_at}

-- the copies of data and of instructions
abbrev pub copies_in : (of_data of_instructions : List (Sparse CopyState)) → Copies
copies_in of_data of_instructions false core line = value_at Never of_data core line
copies_in of_data of_instructions true core line = value_at Never of_instructions core line

-- whether a core keeps its copy where all others lose theirs
abbrev pub is_spared : Option ℕ → (core : ℕ) → Bool
is_spared None core = false
is_spared (Some spared) core = spared == core

-- what each core has of each line once the copies of a line left, but for that of one core
abbrev pub all_left : Leave → (spared : Option ℕ) → (line : ℕ) → (ℕ → ℕ → CopyState) → (ℕ → ℕ → CopyState)
all_left why spared line copies = λ c n. if not (is_spared spared c) && line == n then left why (copies c n) else copies c n

-- once that of one core left
abbrev pub one_left : Leave → (core line : ℕ) → (ℕ → ℕ → CopyState) → (ℕ → ℕ → CopyState)
one_left why core line copies = λ c n. if core == c && line == n then left why (copies c n) else copies c n
