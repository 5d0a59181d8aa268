-- Who has each line: the cores whose caches have it, and the one that may write it.
use Rattle.std.specs.Prelude.{◌≡◌, ◌≢◌, ℕ, ◌<◌, ◌≤◌, Bool, IsTrue, List, [], length, nat_eq, Option, Some, None, IsSome, unwrap_or, ◌⊎◌, if◌then◌else◌}
use Rattle.std.specs.List.{IsDistinct}
use Rattle.std.specs.Map.{keys_of, lookup}
use Rattle.std.specs.Set.{is_member}

-- the cores that have a line, in ascending order, and the one that may write it
pub record Sharing : Type 0 where
  pub sharers : List ℕ
  pub owner : Option ℕ

-- who has each of these lines, with room for a number of lines and for cores below a number
pub record LineMap : Type 0 where
  pub room : ℕ
  pub cores : ℕ
  pub lines : List (ℕ × Sharing)

abbrev pub nobody : Sharing
nobody = record { sharers = []; owner = None }

abbrev pub is_among : Sharing → (core : ℕ) → Bool
is_among sharing core = is_member nat_eq sharing.sharers core

abbrev pub sharing_of : LineMap → (line : ℕ) → Sharing
sharing_of map line = unwrap_or (lookup (nat_eq line) map.lines) nobody

-- a core has a line
abbrev pub is_sharer : LineMap → (line core : ℕ) → Bool
is_sharer map line core = is_among (sharing_of map line) core

-- the core that may write a line
abbrev pub owner_of : LineMap → (line : ℕ) → Option ℕ
owner_of map line = (sharing_of map line).owner

-- the owner where this core is none any more
abbrev pub owner_without : (core : ℕ) → Option ℕ → Option ℕ
owner_without core None = None
owner_without core (Some owner) = if nat_eq core owner then None else Some owner

-- a core that is not this one has the line
abbrev pub HasOther : LineMap → (line core : ℕ) → Type 0
HasOther map line core = (other : ℕ) × (other ≢ core) × IsTrue (is_sharer map line other)

-- a core has the line already, or there is room for a line more
abbrev pub HasRoomForLine : LineMap → (line : ℕ) → Type 0
HasRoomForLine map line = ((core : ℕ) × IsTrue (is_sharer map line core)) ⊎ (length map.lines < map.room)

-- cores that may have a line together: one that may write it has it alone
pub record IsSharing (cores : ℕ) (sharing : Sharing) : Type 0 where
  pub below : (core : ℕ) → IsTrue (is_among sharing core) → core < cores
  pub alone : (owner core : ℕ) → sharing.owner ≡ Some owner → is_among sharing core ≡ nat_eq owner core

-- each line stands there once, and some core has it
pub record IsLineMap (map : LineMap) : Type 0 where
  pub distinct : IsDistinct nat_eq (keys_of map.lines)
  pub within : length map.lines ≤ map.room
  pub cores_within : map.cores ≤ 256
  pub sharing : (line : ℕ) → IsSharing map.cores (sharing_of map line)
  pub shared : (line : ℕ) → IsSome (lookup (nat_eq line) map.lines) → (core : ℕ) × IsTrue (is_sharer map line core)

-- the other lines, and the room, are as they were
pub record KeepsOthers (old new : LineMap) (line : ℕ) : Type 0 where
  pub others : (other : ℕ) → other ≢ line → sharing_of new other ≡ sharing_of old other
  pub room : new.room ≡ old.room
  pub cores : new.cores ≡ old.cores
