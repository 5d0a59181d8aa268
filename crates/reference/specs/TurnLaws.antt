-- How the turns of a core lie in the bound phase of the machine of one thread.
use Rattle.std.specs.Prelude.{◌≡◌, ◌⊎◌, true, false, ℕ, ◌+◌, ◌-◌, ◌≤◌, IsSome, List, [], ◌∷◌, ◌++◌, length, map, slice_get, slice_set, Some, All, Ok}
use Rattle.zs_num.specs.declared.entry.Entry.{Entry}
use Rattle.zs_num.specs.declared.request.Request.{Request}
use Rattle.elf_load.specs.MemoryImage.{MemoryImage}
use Rattle.rv_core.specs.Sound.{IsSoundCore}
use Rattle.reference.specs.ReferenceMachine.{BoundState, bound_from}
use Rattle.reference.specs.TimedCore.{TimedCore, after_instruction, asks, goes_on_alone, ran_to}
use Rattle.reference.specs.IntervalBounds.{most_accesses}
use Rattle.reference.specs.Turn.{IsOver, TakesTurn, TurnsToEnd}

-- the core of this number stands there, the world is this one, and there are these entries more
abbrev pub moved : {World : Type 0} → BoundState World → (number : ℕ) → TimedCore → World → List Entry → BoundState World
moved s number core world entries = record {
  cores = slice_set s.cores number core;
  world = world;
  entries = s.entries ++ entries;
}

-- the core of this number stands there
abbrev pub with_core : {World : Type 0} → BoundState World → (number : ℕ) → TimedCore → BoundState World
with_core s number core = record s { cores = slice_set s.cores number core }

-- The local instructions of a core end: it waits for an access then, has halted, or has come to the interval's end
-- between two instructions.
abbrev pub LocalInstructionsEnd : Type 0
LocalInstructionsEnd = (image : MemoryImage) (end : ℕ) (c : TimedCore) → IsSome (asks (ran_to image end c)) ⊎ IsOver end (ran_to image end c)

-- A core that goes on by itself no more has its local instructions behind it.
abbrev pub StoppedCoresStay : Type 0
StoppedCoresStay = (image : MemoryImage) (end : ℕ) (c : TimedCore) → goes_on_alone end c ≡ false → ran_to image end c ≡ c

-- One that goes on comes by its next instruction to where it would have come.
abbrev pub StepsLeadToTheSameEnd : Type 0
StepsLeadToTheSameEnd = (image : MemoryImage) (end : ℕ) (c : TimedCore) → goes_on_alone end c ≡ true
    → ran_to image end (after_instruction image c) ≡ ran_to image end c

-- A core whose accesses can all be served has few of them before it ends its interval.
abbrev pub AccessesAreFew : Type 0
AccessesAreFew = (end : ℕ) (c : TimedCore) → IsSoundCore c.core → most_accesses end c ≤ end - c.clock + 257

module _ {World : Type 0} (serve : World → (core start : ℕ) → Request → Entry × World) (time : Entry → ℕ) (image : MemoryImage) (end : ℕ) where
  -- Local instructions touch nothing else: that a core has them behind it changes nothing of a bound phase.
  abbrev pub LocalInstructionsAreAlone : Type 0
  LocalInstructionsAreAlone = (s : BoundState World) (number : ℕ) (c : TimedCore) (place : ℕ) (numbers : List ℕ) → slice_get s.cores number ≡ Some c
      → bound_from serve time image end place numbers (with_core s number (ran_to image end c)) ≡ bound_from serve time image end place numbers s

  -- The bound phase is over where every core is.
  abbrev pub EndsWhereAllAreOver : Type 0
  EndsWhereAllAreOver = (s : BoundState World) (place : ℕ) → All (IsOver end) s.cores → bound_from serve time image end place [] s ≡ Ok s

module _ {Port World : Type 0} (gives : Port → (start : ℕ) → Request → Entry → Port → Type 0) (world : Port → World) (serve : World → (core start : ℕ) → Request → Entry × World) where
  -- the port answers what the world in it does
  abbrev pub AnswersAsWorld : Type 0
  AnswersAsWorld = (port port_after : Port) (start : ℕ) (request : Request) (e : Entry) → gives port start request e port_after
      → (e, world port_after) ≡ serve (world port) e.core start request

  -- The schedule names the core of a turn, and goes on where the turn leaves the core and the world.
  abbrev pub TurnIsScheduled : Type 0
  TurnIsScheduled = AnswersAsWorld
      → (time : Entry → ℕ) (image : MemoryImage) (end : ℕ) (s : BoundState World) (port port_after : Port) (before after : TimedCore) (e : Entry)
      → slice_get s.cores e.core ≡ Some before → s.world ≡ world port → TakesTurn time image end gives port port_after before after e
      → (place : ℕ) (numbers : List ℕ)
      → bound_from serve time image end place (e.core ∷ numbers) s
      ≡ bound_from serve time image end (place + 1) numbers (moved s e.core after (world port_after) (e ∷ []))

  -- The schedule names a core for each of its turns up to the end of its interval, and goes on where they leave the
  -- core and the world.
  abbrev pub TurnsAreScheduled : Type 0
  TurnsAreScheduled = AnswersAsWorld
      → (time : Entry → ℕ) (image : MemoryImage) (end : ℕ) (s : BoundState World) (number : ℕ) (port port_after : Port) (before after : TimedCore) (entries : List Entry)
      → slice_get s.cores number ≡ Some before → s.world ≡ world port → All (λ e. e.core ≡ number) entries
      → TurnsToEnd time image end gives entries port port_after before after
      → (place : ℕ) (numbers : List ℕ)
      → bound_from serve time image end place (map (λ e. e.core) entries ++ numbers) s
      ≡ bound_from serve time image end (place + length entries) numbers (moved s number after (world port_after) entries)
