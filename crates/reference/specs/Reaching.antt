-- A bound phase on its way: the turns so far, one after the other, lead from a state to another. Whoever takes turns
-- keeps this from turn to turn, for as many cores as there are and in whatever order.
use Rattle.std.specs.Prelude.{◌≡◌, ℕ, ◌+◌, List, [], ◌∷◌, ◌++◌, length, map, slice_get, Some, All, Ok}
use Rattle.zs_num.specs.declared.entry.Entry.{Entry}
use Rattle.zs_num.specs.declared.request.Request.{Request}
use Rattle.elf_load.specs.MemoryImage.{MemoryImage}
use Rattle.reference.specs.TurnLaws.{AnswersAsWorld, moved, with_core}
use Rattle.reference.specs.ReferenceMachine.{BoundState, bound_from, bound_phase}
use Rattle.reference.specs.TimedCore.{TimedCore, ran_to}
use Rattle.reference.specs.Turn.{IsOver, TakesTurn, TurnsToEnd}

module _ {World : Type 0} (serve : World → (core start : ℕ) → Request → Entry × World) (time : Entry → ℕ) (image : MemoryImage) (end : ℕ) where
  -- whatever turns follow, a schedule that begins with these cores goes on from there
  abbrev pub Reaches : BoundState World → (numbers : List ℕ) → BoundState World → Type 0
  Reaches s numbers t = (place : ℕ) (more : List ℕ)
      → bound_from serve time image end place (numbers ++ more) s ≡ bound_from serve time image end (place + length numbers) more t

  -- it begins without a turn
  abbrev pub BeginsAtItself : Type 0
  BeginsAtItself = (s : BoundState World) → Reaches s [] s

  -- and it is the whole bound phase where all cores are over
  abbrev pub IsThePhaseAtTheEnd : Type 0
  IsThePhaseAtTheEnd = (s t : BoundState World) (numbers : List ℕ) → Reaches s numbers t → All (IsOver end) t.cores
      → bound_phase serve time image end numbers s ≡ Ok t

  -- a core's local instructions change nothing
  abbrev pub GoesOnByLocalInstructions : Type 0
  GoesOnByLocalInstructions = (s t : BoundState World) (numbers : List ℕ) (number : ℕ) (before after : TimedCore)
      → Reaches s numbers t
      → slice_get t.cores number ≡ Some before → after ≡ ran_to image end before
      → Reaches s numbers (with_core t number after)

module _ {Port World : Type 0} (gives : Port → (start : ℕ) → Request → Entry → Port → Type 0) (world : Port → World) (serve : World → (core start : ℕ) → Request → Entry × World) where
  -- a turn more
  abbrev pub GoesOnByATurn : Type 0
  GoesOnByATurn = AnswersAsWorld gives world serve
      → (time : Entry → ℕ) (image : MemoryImage) (end : ℕ) (s t : BoundState World) (numbers : List ℕ) (port port_after : Port) (before after : TimedCore) (e : Entry)
      → Reaches serve time image end s numbers t
      → slice_get t.cores e.core ≡ Some before → t.world ≡ world port → TakesTurn time image end gives port port_after before after e
      → Reaches serve time image end s (numbers ++ e.core ∷ []) (moved t e.core after (world port_after) (e ∷ []))

  -- all turns of a core that are left
  abbrev pub GoesOnToTheEnd : Type 0
  GoesOnToTheEnd = AnswersAsWorld gives world serve
      → (time : Entry → ℕ) (image : MemoryImage) (end : ℕ) (s t : BoundState World) (numbers : List ℕ) (port port_after : Port) (number : ℕ) (before after : TimedCore) (entries : List Entry)
      → Reaches serve time image end s numbers t
      → slice_get t.cores number ≡ Some before → t.world ≡ world port → All (λ e. e.core ≡ number) entries
      → TurnsToEnd time image end gives entries port port_after before after
      → Reaches serve time image end s (numbers ++ map (λ e. e.core) entries) (moved t number after (world port_after) entries)
