-- What the turns of an interval keep, in whatever order the cores take them.
use Rattle.std.specs.Prelude.{◌≡◌, ◌⊎◌, ℕ, ◌+◌, ◌^◌, ◌<◌, ◌≤◌, min, Bool, false, IsTrue, List, [], ◌∷◌, ◌++◌, length, slice_get, sum_by, Some, Ok, All}
use Rattle.zs_num.specs.declared.entry.Entry.{Entry}
use Rattle.zs_num.specs.declared.entry.Outcome.TheVariants.{Hit}
use Rattle.elf_load.specs.MemoryImage.{MemoryImage}
use Rattle.machine_desc.specs.declared.machine.Machine.{Machine}
use Rattle.rv_core.specs.Told.{Told}
use Rattle.bound_core.specs.Reaching.{Reaches}
use Rattle.bound_core.specs.ReferenceMachine.{BoundState, bound_phase}
use Rattle.bound_core.specs.ShardPort.{base_of, l1i_of, room_of, size_of}
use Rattle.bound_core.specs.ShardWorld.{ShardWorld, shards_serve}
use Rattle.bound_core.specs.NumberedCores.{NumberedCore, timed_of}
use Rattle.bound_core.specs.IntervalBounds.{latest_clock, most_accesses}
use Rattle.bound_core.specs.Taken.{TakesThese}
use Rattle.bound_core.specs.ToldTurns.{behind_turns, TellsTurns}
use Rattle.bound_core.specs.TimedCore.{ran_to}
use Rattle.bound_core.specs.Turn.{EndsInterval, IsOver, TakesTurn}
use Rattle.trace.specs.Port.{Gives, LoggedPortState, phase_of}
use Rattle.trace.specs.Trace.{Step, steps_alone}
use Rattle.trace.specs.Ways.{told_steps}
use Rattle.reference.specs.ReferenceRun.{access_room, time_of}
use Rattle.bound_records.specs.CoreRuns.{AreNumbered}

-- A core on its way through an interval, with this memory, and with instruction caches or none: it is over, or it has
-- at most so many accesses left, and none of them is late.
pub record IsOnItsWay (end base size : ℕ) (l1i : Bool) (left : ℕ) (c : NumberedCore) : Type 0 where
  pub few : IsOver end c.timed ⊎ ((most_accesses end c.timed ≤ left) × (latest_clock end c.timed ≤ end + 2 ^ 30))
  pub clock : latest_clock end c.timed ≤ 2 ^ 57
  pub spare : left < c.spare
  pub base_is : c.timed.core.memory.base ≡ base
  pub size_is : c.timed.core.memory.size ≡ size
  pub fetches : IsTrue c.timed.core.fetching → IsTrue l1i

-- These turns lead from the first state to where cores and port are now. The port had room for more than so many
-- accesses, and together the cores have no more.
pub record HaveTaken (time : Entry → ℕ) (image : MemoryImage) (end most : ℕ) (first : BoundState ShardWorld) (turns : List ℕ) (cores : List NumberedCore) (port : LoggedPortState) : Type 0 where
  pub reaches : Reaches shards_serve time image end first turns (phase_of cores port)
  pub left : List ℕ
  pub count : length left ≡ length cores
  pub each : (i n : ℕ) (c : NumberedCore) → slice_get left i ≡ Some n → slice_get cores i ≡ Some c → IsOnItsWay end (base_of port.world) (size_of port.world) (l1i_of port.world) n c
  pub few : length port.entries + sum_by (λ n. n) left ≤ most
  pub room : most < min (room_of port.world) port.room + length port.entries
  pub numbered : AreNumbered cores
  pub stamps : length port.world.stamps ≡ length cores
  pub starts : All (λ e. e.start ≤ 2 ^ 34) port.entries

-- ---- one turn

-- the port with this core chosen
abbrev pub chosen : LoggedPortState → (number : ℕ) → LoggedPortState
chosen port number = record port { core = number }

-- what a turn that takes an access does, as the code of a turn says it
pub record TakesAccess (time : Entry → ℕ) (image : MemoryImage) (end : ℕ) (port port_after : LoggedPortState) (core after : NumberedCore) (e : Entry) : Type 0 where
  pub turn : TakesTurn time image end Gives port port_after core.timed after.timed e
  pub own : e.core ≡ core.number
  pub start : e.start ≤ latest_clock end core.timed
  pub fewer : most_accesses end after.timed < most_accesses end core.timed
  pub not_later : latest_clock end after.timed ≤ latest_clock end core.timed
  pub number : after.number ≡ core.number
  pub memory : after.timed.core.memory ≡ core.timed.core.memory
  pub fetching : after.timed.core.fetching ≡ core.timed.core.fetching
  pub spare : core.spare ≤ after.spare + 1
  pub base : base_of port_after.world ≡ base_of port.world
  pub size : size_of port_after.world ≡ size_of port.world
  pub l1i : l1i_of port_after.world ≡ l1i_of port.world
  pub room : min (room_of port.world) port.room ≤ min (room_of port_after.world) port_after.room + 1
  pub logged : port_after.entries ≡ port.entries ++ e ∷ []

-- and one that takes none
pub record TakesNone (image : MemoryImage) (end : ℕ) (port port_after : LoggedPortState) (core after : NumberedCore) : Type 0 where
  pub ends : EndsInterval image end port port_after core.timed after.timed
  pub over : IsOver end after.timed
  pub not_later : latest_clock end after.timed ≤ latest_clock end core.timed
  pub number : after.number ≡ core.number
  pub memory : after.timed.core.memory ≡ core.timed.core.memory
  pub fetching : after.timed.core.fetching ≡ core.timed.core.fetching
  pub spare : after.spare ≡ core.spare

-- What so many turns do, of those that might be taken, whose accesses are hits, and instructions of the turn that follows,
-- and what is told of them. Where they are as many as might be taken, if any, a core that does not fetch stands behind the
-- last one.
pub record TakesHits (time : Entry → ℕ) (image : MemoryImage) (end most count : ℕ) (port port_after : LoggedPortState) (core after : NumberedCore) (steps steps_after : List Step) : Type 0 where
  pub entries : List Entry
  pub told : List Told
  pub many : length entries ≡ count
  pub these : TakesThese time image end Gives (λ p. Some p.entries) core.number entries port port_after core.timed after.timed
  pub hits : All (λ e. e.outcome ≡ Hit) entries
  pub tells : TellsTurns time image end told entries core.timed after.timed
  pub are : steps_after ≡ steps ++ told_steps core.number told entries
  pub stops : core.timed.core.fetching ≡ false → 0 < most → count ≡ most → after.timed ≡ behind_turns time image end entries core.timed
  pub number : after.number ≡ core.number
  pub spare : after.spare ≡ core.spare

-- What a core does that goes ahead within a turn, without an access: what was told and what its instructions up to its next
-- access still tell is the same as before, and so is the port, whichever core is chosen.
pub record GoesAhead (image : MemoryImage) (end : ℕ) (port port_after : LoggedPortState) (core after : NumberedCore) (steps steps_after : List Step) : Type 0 where
  pub ran : ran_to image end after.timed ≡ ran_to image end core.timed
  pub stays : (base size : ℕ) (l1i : Bool) (left : ℕ) → IsOnItsWay end base size l1i left core → IsOnItsWay end base size l1i left after
  pub same : chosen port_after core.number ≡ chosen port core.number
  pub number : after.number ≡ core.number
  pub tells : steps_after ++ steps_alone image end core.number after.timed ≡ steps ++ steps_alone image end core.number core.timed

-- ---- all turns of an interval

-- What the turns of a list leave of cores and port, where the list is legal.
pub record HaveTurned (machine : Machine) (image : MemoryImage) (end : ℕ) (turns : List ℕ) (cores after : List NumberedCore) (port last : LoggedPortState) : Type 0 where
  pub phase : bound_phase shards_serve (time_of machine) image end turns (phase_of cores port) ≡ Ok (phase_of after last)
  pub starts : All (λ e. e.start ≤ 2 ^ 34) last.entries
  pub few : length last.entries ≤ access_room machine
  pub clocks : All (λ c. c.clock ≤ 2 ^ 57) (timed_of after)
  pub over : All (IsOver end) (timed_of after)
  pub count : length after ≡ length cores
  pub numbered : AreNumbered after
