-- The logs of the cores in an interval.
use Rattle.std.specs.Prelude.{ℕ, ◌==◌, Bool, ◌&&◌, List}
use Rattle.std.specs.List.{IsDistinct, flat_map}
use Rattle.zs_num.specs.declared.entry.Entry.{Entry}

pub record LogState : Type 0 where
  -- in the order of the core
  pub entries : List Entry
  -- for how many entries there is memory
  pub room : ℕ

-- those of all logs, one log after the other
abbrev pub entries_of_logs : List LogState → List Entry
entries_of_logs logs = flat_map (λ log. log.entries) logs

abbrev pub have_same_key : Entry → Entry → Bool
have_same_key first second = first.stamp == second.stamp && first.core == second.core

-- no two entries have the same stamp and core
abbrev pub HaveDistinctKeys : List Entry → Type 0
HaveDistinctKeys entries = IsDistinct have_same_key entries
