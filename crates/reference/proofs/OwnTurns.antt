-- The turns of one core through a port, as its part of a history.
use Rattle.std.proofs.Common.{◌≡◌, ℕ, List, [], ◌∷◌, Some, sym, ◌∙◌, ap, subst}
use Rattle.std.specs.List.{fold}
use Rattle.zs_num.specs.declared.entry.Entry.{Entry}
use Rattle.zs_num.specs.declared.request.Request.{Request}
use Rattle.elf_load.specs.MemoryImage.{MemoryImage}
use Rattle.reference.specs.History.{AreTurnsOf, after_turn}
use Rattle.reference.specs.HistoryLaws.{AnswersWhatWasAsked}
use Rattle.reference.specs.TimedCore.{TimedCore, ran_to}
use Rattle.reference.specs.Turn.{TurnsToEnd}

module _ {Port : Type 0} (gives : Port → (start : ℕ) → Request → Entry → Port → Type 0) (tells : AnswersWhatWasAsked gives) (time : Entry → ℕ) (image : MemoryImage) (end : ℕ) where
  pub own_turns : (entries : List Entry) (port port_after : Port) (before after : TimedCore) → TurnsToEnd time image end gives entries port port_after before after
      → AreTurnsOf time image end before entries × (after ≡ ran_to image end (fold (after_turn time image end) before entries))
  own_turns [] port port_after before after turns = (turns.asked, turns.left)
  own_turns (e ∷ entries) port port_after before after turns =
      let next = turns.0 in
      let core = turns.1.0 in
      let turn = turns.1.1.0 in
      let logged = tells port next (ran_to image end before).clock turn.request e turn.given in
      let rest = own_turns entries next port_after core after turns.1.1.1 in
      let here : AreTurnsOf time image end (after_turn time image end before e) entries = subst (λ (c : TimedCore). AreTurnsOf time image end c entries) turn.left rest.0 in (
        (turn.asked ∙ ap Some (sym logged.0), logged.1, here),
        rest.1 ∙ ap (λ (c : TimedCore). ran_to image end (fold (after_turn time image end) c entries)) turn.left,
      )
