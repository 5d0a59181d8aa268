-- Accesses whose recorded order is still to be told.
use Rattle.std.specs.Prelude.{◌≡◌, ℕ, ◌<◌, ◌≤◌, ◌^◌, List, All, Some, length, map, slice_get}
use Rattle.zs_num.specs.declared.entry.Entry.{Entry}
use Rattle.access_log.specs.History.{AreStamped, of_core}
use Rattle.access_log.specs.RecordedOrder.{no_stamps, recorded_order}
use Rattle.access_record.specs.BankLogs.{BankLogState}
use Rattle.access_record.specs.RecordedAccesses.{AreInOrder}
use Rattle.access_record.specs.Turns.{in_turns}

-- the accesses of the logs in the order of turns
abbrev pub taken_by_turns : (turns : List ℕ) → List BankLogState → List Entry
taken_by_turns turns logs = in_turns turns (map (λ log. log.entries) logs)

-- The logs are those of all cores in order of their numbers, and the turns those of their accesses: each core has its
-- own, in its order, and the stamps are those of the turns, from 0 on.
pub record CanBeOrdered (banks : ℕ) (logs : List BankLogState) (turns : List ℕ) : Type 0 where
  pub some : 0 < banks
  pub banks_are : All (λ log. log.banks ≡ banks) logs
  pub cores : length logs ≤ 256
  pub order : AreInOrder logs
  pub known : All (λ e. e.core < length logs) (taken_by_turns turns logs)
  pub own : (i : ℕ) (log : BankLogState) → slice_get logs i ≡ Some log → of_core i (taken_by_turns turns logs) ≡ log.entries
  pub named : turns ≡ map (λ e. e.core) (taken_by_turns turns logs)
  pub few : length (taken_by_turns turns logs) < 2 ^ 32
  pub stamped : AreStamped banks (no_stamps banks (length logs)) (taken_by_turns turns logs)

-- accesses that can be ordered
pub record UnorderedState : Type 0 where
  -- what each core made, in order of their numbers
  pub logs : List BankLogState
  -- the core of each turn
  pub turns : List ℕ

-- the cores of the accesses, in recorded order
abbrev pub order_of : UnorderedState → List ℕ
order_of u = map (λ e. e.core) (recorded_order (taken_by_turns u.turns u.logs))
