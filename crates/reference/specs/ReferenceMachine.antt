-- The machine of one thread in an interval. Its cores take turns, each with one access, in the order of a schedule, and
-- a world serves the accesses one after the other.
use Rattle.std.specs.Prelude.{ℕ, ◌+◌, Bool, if◌then◌else◌, List, [], ◌∷◌, ◌++◌, map, slice_get, slice_set, Option, Some, None, is_none, Result, Ok, Err}
use Rattle.std.specs.List.{list_all}
use Rattle.std.specs.Option.{option_and_then, option_map}
use Rattle.zs_num.specs.declared.entry.Entry.{Entry}
use Rattle.zs_num.specs.declared.request.Request.{Request}
use Rattle.elf_load.specs.MemoryImage.{MemoryImage}
use Rattle.reference.specs.TimedCore.{TimedCore, asks, core_after_access, ran_to}

-- the cores in order of their numbers, what serves their accesses, and the accesses so far in the order of the turns
pub record BoundState (World : Type 0) : Type 0 where
  pub cores : List TimedCore
  pub world : World
  pub entries : List Entry

-- what a place of a schedule gives, or its number where it is not legal
abbrev pub legal_at : {A : Type 0} → (place : ℕ) → Option A → Result A ℕ
legal_at place None = Err place
legal_at place (Some x) = Ok x

-- what follows, unless a place was not legal
abbrev pub and_then : {A B : Type 0} → (A → Result B ℕ) → Result A ℕ → Result B ℕ
and_then f (Ok x) = f x
and_then f (Err place) = Err place

-- whether no core has an access left before it ends its interval
abbrev pub are_done : {World : Type 0} → MemoryImage → (end : ℕ) → BoundState World → Bool
are_done image end s = list_all (λ c. is_none (asks (ran_to image end c))) s.cores

-- each core ends its interval
abbrev pub at_end : {World : Type 0} → MemoryImage → (end : ℕ) → BoundState World → BoundState World
at_end image end s = record s { cores = map (ran_to image end) s.cores }

-- `serve` is what the world answers to a request of a core that starts then, and the world after. `time` is how long an
-- access takes where nothing else runs. The interval ends at `end`.
module _ {World : Type 0} (serve : World → (core start : ℕ) → Request → Entry × World) (time : Entry → ℕ) (image : MemoryImage) (end : ℕ) where
  -- after the access of a core, which stands there
  abbrev pub access_served : BoundState World → (number : ℕ) → TimedCore → Entry × World → BoundState World
  access_served s number c answer = record {
    cores = slice_set s.cores number (core_after_access time answer.0 c);
    world = answer.1;
    entries = s.entries ++ answer.0 ∷ [];
  }

  -- the turn of a core that has come to its access, or none where it has no access
  abbrev pub turn_at : BoundState World → (number : ℕ) → TimedCore → Option (BoundState World)
  turn_at s number c = option_map (λ request. access_served s number c (serve s.world number c.clock request)) (asks c)

  -- A turn of a core: its local instructions, and then one access. None where it has no access before it ends its
  -- interval, or there is no such core.
  abbrev pub turn : BoundState World → (number : ℕ) → Option (BoundState World)
  turn s number = option_and_then (λ c. turn_at s number (ran_to image end c)) (slice_get s.cores number)

  -- The bound phase under a schedule, which names a core for each turn, or the first place of the schedule that is not
  -- legal: it names a core that is not there or has no access; or it is the place after the last, where a core still
  -- has one.
  abbrev pub bound_from : (place : ℕ) → List ℕ → BoundState World → Result (BoundState World) ℕ
  bound_from place [] s = if are_done image end s then Ok (at_end image end s) else Err place
  bound_from place (number ∷ numbers) s = and_then (bound_from (place + 1) numbers) (legal_at place (turn s number))

  abbrev pub bound_phase : List ℕ → BoundState World → Result (BoundState World) ℕ
  bound_phase numbers s = bound_from 0 numbers s
