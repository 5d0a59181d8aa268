-- The schedule of a run: for each interval the numbers of the cores, in the order of their accesses.
use Rattle.std.specs.Prelude.{ℕ, ◌<◌, ◌^◌, List, All, length}

pub record ScheduleState : Type 0 where
  -- how many cores the machine has
  pub cores : ℕ
  -- the list of each interval that was run
  pub lists : List (List ℕ)

-- the lists name cores, and their lengths and number fit in 32 bits
pub record AreTurns (s : ScheduleState) : Type 0 where
  pub known : All (λ turns. All (λ core. core < s.cores) turns) s.lists
  pub short : All (λ turns. length turns < 2 ^ 32) s.lists
  pub few : length s.lists < 2 ^ 32
