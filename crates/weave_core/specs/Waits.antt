-- What is kept of a domain's events that have not fired, by their places among its events.
use Rattle.std.specs.Prelude.{◌≡◌, ◌≤◌, ◌+◌, ◌-◌, ◌&&◌, ℕ, false, cond, max, nat_lt, List, [], ◌∷◌, length, slice_get, slice_index, slice_set, Some}
use Rattle.std.specs.List.{Contains}
use Rattle.zs_num.specs.KeyOrder.{is_key_before}
use Rattle.zs_num.specs.declared.time.Key.{Key}
use Rattle.domain_queue.specs.SortedKeys.{ReadyKeys}

-- for each place the start so far, and for how many parents it waits, 2^32 - 1 once it has fired
pub record Waits : Type 0 where
  pub starts : List ℕ
  pub waits : List ℕ

-- the event at the place has fired
abbrev pub is_fired_wait : Waits → (place : ℕ) → Waits
is_fired_wait w place = record w { waits = slice_set w.waits place 4294967295 }

-- a parent has finished: the event at the place starts at this cycle or later, and waits for one parent less
abbrev pub told : Waits → (place at : ℕ) → Waits
told w place at = record {
  starts = slice_set w.starts place (max (slice_index w.starts place) at);
  waits = slice_set w.waits place (slice_index w.waits place - 1);
}

abbrev pub key_of : (start place : ℕ) → Key
key_of start place = record { start = start; number = place }

-- of those that wait for no parent this is the first
pub record IsFirstReady (w : Waits) (k : Key) : Type 0 where
  pub ready : slice_get w.waits k.number ≡ Some 0
  pub start : slice_get w.starts k.number ≡ Some k.start
  pub least : (place start : ℕ) → slice_get w.waits place ≡ Some 0 → slice_get w.starts place ≡ Some start → is_key_before (key_of start place) k ≡ false

-- each event waits for a parent, or has fired
abbrev pub NoneReady : Waits → Type 0
NoneReady w = (place : ℕ) → slice_get w.waits place ≡ Some 0 → ⊥

-- 1 where it waits for a parent
abbrev pub one_waiting : ℕ → ℕ
one_waiting wait = cond (nat_lt 0 wait && nat_lt wait 4294967295) 1 0

-- how many wait for a parent
abbrev pub waiting_in : List ℕ → ℕ
waiting_in [] = 0
waiting_in (wait ∷ waits) = one_waiting wait + waiting_in waits

-- the queue has the keys of those that wait for no parent, with room for all that wait for one
pub record HasReadyPlaces (starts waits : List ℕ) (queue : ReadyKeys) : Type 0 where
  pub sizes : length starts ≡ length waits
  pub each : (k : Key) → Contains queue.keys k → (slice_get waits k.number ≡ Some 0) × (slice_get starts k.number ≡ Some k.start)
  pub covers : (place start : ℕ) → slice_get waits place ≡ Some 0 → slice_get starts place ≡ Some start → Contains queue.keys (key_of start place)
  pub room : length queue.keys + waiting_in waits ≤ queue.room
