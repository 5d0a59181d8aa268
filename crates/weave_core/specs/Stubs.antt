-- The crossings into a domain, and the queue of those whose finish is not known.
use Rattle.std.specs.Prelude.{◌≡◌, ◌≤◌, ◌<◌, ◌+◌, ◌-◌, ◌^◌, ◌⊎◌, ℕ, Bool, true, false, max, nat_lt, List, [], ◌∷◌, length, slice_get, Some}
use Rattle.std.specs.List.{Contains}
use Rattle.std.specs.Option.{option_map_or}
use Rattle.zs_num.specs.KeyOrder.{is_key_before}
use Rattle.zs_num.specs.declared.time.Key.{Key}
use Rattle.zs_num.specs.declared.time.Word.{Word}
use Rattle.domain_queue.specs.SortedKeys.{ReadyKeys}
use Rattle.weave_core.specs.declared.incoming.Stub.{Stub}
use Rattle.weave_core.specs.DomainMachine.{cycle_of, is_exact}
use Rattle.weave_core.specs.Waits.{key_of}

-- the stubs in order of their numbers, and the floor
pub record Stubs : Type 0 where
  pub stubs : List Stub
  pub floor : ℕ

-- its times don't pass 2^62
pub record IsSmallStub (s : Stub) : Type 0 where
  pub delay : s.delay ≤ 2 ^ 62
  pub latency : s.latency ≤ 2 ^ 62
  pub cycle : cycle_of s.word ≤ 2 ^ 62

abbrev pub AreSmallStubs : List Stub → Type 0
AreSmallStubs stubs = (place : ℕ) (s : Stub) → slice_get stubs place ≡ Some s → IsSmallStub s

-- what its child can't start before
abbrev pub arrival_at : (floor : ℕ) → Stub → ℕ
arrival_at floor s = max (cycle_of s.word) (floor + s.latency) + s.delay

-- with another word at a place
abbrev pub told_word : Word → Stub → Stub
told_word word s = record s { word = word }

-- of the stubs whose finish isn't known it has the least arrival, and at a tie the least place
pub record IsFirstStub (v : Stubs) (k : Key) : Type 0 where
  pub stub : Stub
  pub there : slice_get v.stubs k.number ≡ Some stub
  pub unknown : is_exact stub.word ≡ false
  pub start : k.start ≡ arrival_at v.floor stub
  pub least : (place : ℕ) (s : Stub) → slice_get v.stubs place ≡ Some s → is_exact s.word ≡ false → is_key_before (key_of (arrival_at v.floor s) place) k ≡ false

-- each finish is known
abbrev pub NoneOpen : Stubs → Type 0
NoneOpen v = (place : ℕ) (s : Stub) → slice_get v.stubs place ≡ Some s → is_exact s.word ≡ true

-- the least time from the floor to its child's start
abbrev pub reach_of : Stub → ℕ
reach_of s = s.latency + s.delay

-- what its child can't start before is said by its word, and not by the floor
abbrev pub is_ahead : (floor : ℕ) → Stub → Bool
is_ahead floor s = nat_lt (floor + s.latency) (cycle_of s.word)

-- Each stub whose finish isn't known has a key in one of two queues: by its reach, or one that isn't later than its
-- arrival. No stub has two.
pub record IsKeyed (stubs : List Stub) (floor : ℕ) (by_floor by_word : ReadyKeys) : Type 0 where
  pub covers : (place : ℕ) (s : Stub) → slice_get stubs place ≡ Some s → is_exact s.word ≡ false
      → Contains by_floor.keys (key_of (reach_of s) place)
      ⊎ ((start : ℕ) × ((start ≤ arrival_at floor s) × Contains by_word.keys (key_of start place)))
  pub reaches : (k : Key) → Contains by_floor.keys k → (s : Stub) × ((slice_get stubs k.number ≡ Some s) × (k.start ≡ reach_of s))
  pub within : (k : Key) → Contains by_word.keys k → k.number < length stubs
  pub once : (k other : Key) → Contains by_word.keys k → Contains by_word.keys other → k.number ≡ other.number → k ≡ other
  pub apart : (k other : Key) → Contains by_floor.keys k → Contains by_word.keys other → k.number ≡ other.number → ⊥
  pub floor_room : length by_floor.keys + length by_word.keys ≤ by_floor.room
  pub word_room : length by_floor.keys + length by_word.keys ≤ by_word.room

-- the arrival of the stub at a place
abbrev pub arrival_in : List Stub → (floor place : ℕ) → ℕ
arrival_in stubs floor place = option_map_or (arrival_at floor) (slice_get stubs place) 0

-- how far the keys are from their stubs' arrivals, and how many they are
abbrev pub slack : List Stub → (floor : ℕ) → List Key → ℕ
slack stubs floor [] = 0
slack stubs floor (k ∷ keys) = 1 + (arrival_in stubs floor k.number - k.start) + slack stubs floor keys

-- the first key by reach is that of a stub whose finish isn't known, and whose arrival the floor decides
abbrev pub IsFloorCurrent : List Stub → (floor : ℕ) → ReadyKeys → Type 0
IsFloorCurrent stubs floor by_floor =
    (k : Key) (s : Stub) → slice_get by_floor.keys 0 ≡ Some k → slice_get stubs k.number ≡ Some s → (is_exact s.word ≡ false) × (is_ahead floor s ≡ false)

-- the first key by word is that of a stub whose finish isn't known, at its arrival
abbrev pub IsWordCurrent : List Stub → (floor : ℕ) → ReadyKeys → Type 0
IsWordCurrent stubs floor by_word =
    (k : Key) (s : Stub) → slice_get by_word.keys 0 ≡ Some k → slice_get stubs k.number ≡ Some s → (is_exact s.word ≡ false) × (k.start ≡ arrival_at floor s)

pub record IsQueued (stubs : List Stub) (floor : ℕ) (by_floor by_word : ReadyKeys) : Type 0 where
  pub small : AreSmallStubs stubs
  pub floor_small : floor ≤ 2 ^ 62
  pub keyed : IsKeyed stubs floor by_floor by_word
  pub floor_current : IsFloorCurrent stubs floor by_floor
  pub word_current : IsWordCurrent stubs floor by_word

-- a stub of the crossing is among them, and their numbers rise
pub record IsSearched (stubs : List Stub) (crossing : ℕ) : Type 0 where
  pub place : ℕ
  pub stub : Stub
  pub there : slice_get stubs place ≡ Some stub
  pub number : stub.number ≡ crossing
  pub rising : (i j : ℕ) (s t : Stub) → i < j → slice_get stubs i ≡ Some s → slice_get stubs j ≡ Some t → s.number < t.number
