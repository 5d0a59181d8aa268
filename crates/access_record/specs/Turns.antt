-- The turns of an interval, in each of which a core made its next access.
use Rattle.std.specs.Prelude.{◌≡◌, ℕ, ◌<◌, List, [], ◌∷◌, ◌++◌, All, Some, drop, length, map, slice_get, slice_index, slice_set, take}
use Rattle.std.specs.Option.{option_map_or}
use Rattle.zs_num.specs.declared.entry.Entry.{Entry}
use Rattle.access_log.specs.History.{of_core}
use Rattle.access_record.specs.BankLogs.{BankLogState, entries_in}
use Rattle.access_record.specs.declared.turns.Turns.{Turns}
use Rattle.access_record.specs.declared.turns.Turns.TheVariants.{CoreByCore, Listed}

-- the next access of a core, if it has one, where these lists are left of the cores' accesses
abbrev pub next_of : List (List Entry) → (core : ℕ) → List Entry
next_of lists core = option_map_or (λ list. take 1 list) (slice_get lists core) []

-- and what is left then
abbrev pub left_after : List (List Entry) → (core : ℕ) → List (List Entry)
left_after lists core = option_map_or (λ list. slice_set lists core (drop 1 list)) (slice_get lists core) lists

-- the accesses in the order of turns, where each core has these
abbrev pub in_turns : (turns : List ℕ) → (lists : List (List Entry)) → List Entry
in_turns [] lists = []
in_turns (core ∷ turns) lists = next_of lists core ++ in_turns turns (left_after lists core)

-- of the cores that a list names, where there is a list
abbrev pub IfListed : Turns → ((cores : List ℕ) → Type 0) → Type 0
IfListed CoreByCore P = Unit {0}
IfListed (Listed turns) P = P turns.now

-- the accesses of the logs in the order of turns
abbrev pub taken_of : Turns → List BankLogState → List Entry
taken_of CoreByCore logs = entries_in logs
taken_of (Listed turns) logs = in_turns turns.now (map (λ log. log.entries) logs)

-- the turns are those of the accesses of the logs: each core has its own, in its order
pub record AreTurnsOf (turns : Turns) (logs : List BankLogState) : Type 0 where
  pub known : All (λ e. e.core < length logs) (taken_of turns logs)
  pub own : (i : ℕ) (log : BankLogState) → slice_get logs i ≡ Some log → of_core i (taken_of turns logs) ≡ log.entries
  pub named : IfListed turns (λ cores. cores ≡ map (λ e. e.core) (taken_of turns logs))

-- of each core as many accesses were met as are not left
pub record AreMet (logs : List BankLogState) (left : List Entry) (met : List ℕ) : Type 0 where
  pub met_so : (i : ℕ) (log : BankLogState) → slice_get logs i ≡ Some log → drop (slice_index met i) log.entries ≡ of_core i left
  pub as_many : length met ≡ length logs
