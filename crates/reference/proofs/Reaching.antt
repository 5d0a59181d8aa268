-- A bound phase on its way, a turn at a time.
use Rattle.std.proofs.Common.{◌≡◌, ℕ, ◌+◌, List, [], ◌∷◌, ◌++◌, map, length, All, Some, Ok, refl, sym, ◌∙◌, ap, arith}
use Rattle.std.specs.Prelude.{slice_get}
use Rattle.std.proofs.lemmas.List.{append-nil, append_assoc, length-append, length-map}
use Rattle.zs_num.specs.declared.entry.Entry.{Entry}
use Rattle.zs_num.specs.declared.request.Request.{Request}
use Rattle.elf_load.specs.MemoryImage.{MemoryImage}
use Rattle.reference.specs.TurnLaws.{AnswersAsWorld, moved, with_core}
use Rattle.reference.specs.Reaching.{Reaches}
use Rattle.reference.specs.ReferenceMachine.{BoundState, bound_from, bound_phase}
use Rattle.reference.specs.TimedCore.{TimedCore, ran_to}
use Rattle.reference.specs.Turn.{IsOver, TakesTurn, TurnsToEnd}
use Rattle.reference.proofs.Phase.{all_over, local_alone, turn_scheduled, turns_scheduled}

module _ {World : Type 0} (serve : World → (core start : ℕ) → Request → Entry × World) (time : Entry → ℕ) (image : MemoryImage) (end : ℕ) where
  pub at_itself : (s : BoundState World) → Reaches serve time image end s [] s
  at_itself s place more = let none : place + 0 ≡ place = omega arith in rw none refl

  pub whole_phase : (s t : BoundState World) (numbers : List ℕ) → Reaches serve time image end s numbers t → All (IsOver end) t.cores → bound_phase serve time image end numbers s ≡ Ok t
  whole_phase s t numbers reaches over =
      ap (λ (ns : List ℕ). bound_from serve time image end 0 ns s) (sym (append-nil numbers)) ∙ reaches 0 [] ∙ all_over serve time image end t (0 + length numbers) over

  pub by_itself : (s t : BoundState World) (numbers : List ℕ) (number : ℕ) (before after : TimedCore) → Reaches serve time image end s numbers t
      → slice_get t.cores number ≡ Some before → after ≡ ran_to image end before → Reaches serve time image end s numbers (with_core t number after)
  by_itself s t numbers number before after reaches here left place more =
      reaches place more ∙ sym (local_alone serve time image end t number before (place + length numbers) more here)
      ∙ ap (λ (c : TimedCore). bound_from serve time image end (place + length numbers) more (with_core t number c)) (sym left)

  -- more turns, which lead on from there
  led_on : (s t u : BoundState World) (numbers next : List ℕ) → Reaches serve time image end s numbers t → Reaches serve time image end t next u → Reaches serve time image end s (numbers ++ next) u
  led_on s t u numbers next one two place more =
      let count : place + length numbers + length next ≡ place + length (numbers ++ next) = let all : length (numbers ++ next) ≡ length numbers + length next = length-append numbers next in omega (arith, all) in
      ap (λ (ns : List ℕ). bound_from serve time image end place ns s) (append_assoc numbers next more)
      ∙ one place (next ++ more) ∙ two (place + length numbers) more
      ∙ ap (λ (p : ℕ). bound_from serve time image end p more u) count

module _ {Port World : Type 0} (gives : Port → (start : ℕ) → Request → Entry → Port → Type 0) (world : Port → World) (serve : World → (core start : ℕ) → Request → Entry × World) (time : Entry → ℕ) (image : MemoryImage) (end : ℕ) (s t : BoundState World) (numbers : List ℕ) (port port_after : Port) (before after : TimedCore) (reaches : Reaches serve time image end s numbers t) where
  pub by_turn : AnswersAsWorld gives world serve → (e : Entry) → slice_get t.cores e.core ≡ Some before → t.world ≡ world port → TakesTurn time image end gives port port_after before after e
      → Reaches serve time image end s (numbers ++ e.core ∷ []) (moved t e.core after (world port_after) (e ∷ []))
  by_turn answers e here same turn =
      led_on serve time image end s t (moved t e.core after (world port_after) (e ∷ [])) numbers (e.core ∷ []) reaches
      (λ place more. turn_scheduled gives world serve answers time image end t port port_after before after e here same turn place more)

  pub by_turns : AnswersAsWorld gives world serve → (number : ℕ) (entries : List Entry) → slice_get t.cores number ≡ Some before → t.world ≡ world port → All (λ e. e.core ≡ number) entries
      → TurnsToEnd time image end gives entries port port_after before after
      → Reaches serve time image end s (numbers ++ map (λ e. e.core) entries) (moved t number after (world port_after) entries)
  by_turns answers number entries here same own turns =
      led_on serve time image end s t (moved t number after (world port_after) entries) numbers (map (λ (e : Entry). e.core) entries) reaches
      (λ place more.
      turns_scheduled gives world serve answers time image end entries t number port port_after before after here same own turns place more
      ∙ ap (λ (n : ℕ). bound_from serve time image end (place + n) more (moved t number after (world port_after) entries)) (sym (length-map entries (λ (e : Entry). e.core))))
