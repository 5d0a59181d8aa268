-- The records of an interval, one after the other, and the events that they stand for.
use Rattle.std.specs.Prelude.{◌≡◌, ◌==◌, ◌+◌, ◌*◌, ◌<◌, ◌≤◌, ◌^◌, ℕ, zero, suc, max, Bool, true, if◌then◌else◌, List, [], ◌∷◌, ◌++◌, length, take, drop, slice_get, Some}
use Rattle.component.specs.declared.comp.Comp.{Comp}
use Rattle.event_graph.specs.OneListWeave.{FiredEvent}
use Rattle.zs_num.specs.declared.time.Key.{Key}
use Rattle.certify.specs.declared.numbers.Numbers.{Numbers}
use Rattle.certify.specs.EventsFile.{event_of, has_first, has_second, numbers_of}
use Rattle.certify.specs.Verdict.{has_right_finish}

-- the numbers of the record at a place
unfoldable pub record_at : (records : List ℕ) → (place : ℕ) → Numbers
record_at records place = numbers_of (take 64 (drop (64 * place) records))

-- they are of these events, which the components serve
pub record AreRecords (comps : List Comp) (timed : List FiredEvent) (records : List ℕ) : Type 0 where
  pub long : length records ≡ 64 * length timed
  pub each : (place : ℕ) (x : FiredEvent) → slice_get timed place ≡ Some x → event_of comps place (record_at records place) ≡ Some x

-- they tell of each event whether its component finishes it when it is noted to finish
abbrev pub AreFinishes : List Comp → List FiredEvent → (finishes : List ℕ) → Type 0
AreFinishes comps timed finishes = (place : ℕ) (x : FiredEvent) → slice_get timed place ≡ Some x
    → (finish : ℕ) × (slice_get finishes place ≡ Some finish) × (has_right_finish comps timed x ≡ (x.finish == finish))

-- the key by which a component serves an event
abbrev pub key_of : FiredEvent → Key
key_of x = record { start = x.start; number = x.event.number }

-- the keys of so many records
abbrev pub keys_of : (records : List ℕ) → (count : ℕ) → List Key
keys_of records zero = []
keys_of records (suc n) = keys_of records n ++ (record { start = (record_at records n).start; number = n }) ∷ []

-- when a parent that is there lets its child start, by its noted finish
abbrev pub parent_lets : (records : List ℕ) → (there : Bool) → (number delay : ℕ) → ℕ
parent_lets records there number delay = if there then (record_at records number).finish + delay else 0

-- when its parents let an event start
abbrev pub parents_let : (records : List ℕ) → Numbers → ℕ
parents_let records n =
    max n.min_start (max (parent_lets records (has_first n) n.first n.first_delay) (parent_lets records (has_second n) n.second n.second_delay))

-- a parent that is there stands in one of so many records, and lets its child start below 2^61
abbrev pub IsParentAmong : (records : List ℕ) → (there : Bool) → (number delay : ℕ) → Type 0
IsParentAmong records there number delay =
    there ≡ true → (64 * number + 64 ≤ length records) × (delay < 2 ^ 60) × ((record_at records number).finish < 2 ^ 60)
