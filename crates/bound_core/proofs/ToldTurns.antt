-- What is told of turns, and of instructions of the turn that follows.
use Rattle.std.proofs.Common.{◌≡◌, ℕ, List, [], ◌∷◌, ◌++◌, append_assoc, Option, refl, sym, ◌∙◌, ap}
use Rattle.zs_num.specs.declared.entry.Entry.{Entry}
use Rattle.zs_num.specs.declared.request.Request.{Request}
use Rattle.elf_load.specs.MemoryImage.{MemoryImage}
use Rattle.rv_core.specs.Told.{Made, Told}
use Rattle.reference.specs.TimedCore.{TimedCore, core_after_access, ran_to}
use Rattle.bound_core.specs.Taken.{TakesThese}
use Rattle.bound_core.specs.ToldTurns.{behind_turns, told_alone, told_by_turns, TellsTurns}

module _ (time : Entry → ℕ) (image : MemoryImage) (end : ℕ) where
  -- ---- a turn more

  behind_more : (entries : List Entry) (e : Entry) (c : TimedCore)
      → behind_turns time image end (entries ++ e ∷ []) c ≡ core_after_access time e (ran_to image end (behind_turns time image end entries c))
  behind_more [] e c = refl
  behind_more (x ∷ entries) e c = behind_more entries e (core_after_access time x (ran_to image end c))

  told_more : (entries : List Entry) (e : Entry) (c : TimedCore)
      → told_by_turns time image end (entries ++ e ∷ []) c
      ≡ (told_by_turns time image end entries c ++ told_alone image end (behind_turns time image end entries c)) ++ Made (ran_to image end (behind_turns time image end entries c)).core.pc ∷ []
  told_more [] e c = refl
  told_more (x ∷ entries) e c =
      let first : List Told = told_alone image end c in
      let made : Told = Made (ran_to image end c).core.pc in
      let next : TimedCore = core_after_access time x (ran_to image end c) in
      let later : List Told = told_by_turns time image end entries next in
      let left : List Told = told_alone image end (behind_turns time image end entries next) in
      let last : List Told = Made (ran_to image end (behind_turns time image end entries next)).core.pc ∷ [] in
      ap (λ (told : List Told). first ++ made ∷ told) (told_more entries e next)
      ∙ sym (append_assoc first (made ∷ (later ++ left)) last)
      ∙ ap (λ (told : List Told). told ++ last) (sym (append_assoc first (made ∷ later) left))

  -- ---- instructions more

  -- what they tell, with what is told behind them, is what was left to tell
  pub tells_on : (told more : List Told) (entries : List Entry) (before now after : TimedCore) → TellsTurns time image end told entries before now
      → more ++ told_alone image end after ≡ told_alone image end now → TellsTurns time image end (told ++ more) entries before after
  tells_on told more entries before now after tells on =
      append_assoc told more (told_alone image end after) ∙ ap (λ (left : List Told). told ++ left) on ∙ tells

  -- a core that has the same left to tell
  pub tells_same : (told : List Told) (entries : List Entry) (before now after : TimedCore) → TellsTurns time image end told entries before now
      → told_alone image end after ≡ told_alone image end now → TellsTurns time image end told entries before after
  tells_same told entries before now after tells same = ap (λ (left : List Told). told ++ left) same ∙ tells

  module _ {Port : Type 0} (gives : Port → (start : ℕ) → Request → Entry → Port → Type 0) (logged_of : Port → Option (List Entry)) (number : ℕ) where
    -- what is local of the turn that follows leads from both to the same
    turns_ran : (entries : List Entry) (port last : Port) (before after : TimedCore) → TakesThese time image end gives logged_of number entries port last before after
        → ran_to image end after ≡ ran_to image end (behind_turns time image end entries before)
    turns_ran [] port last before after (same, settles) = settles.ran
    turns_ran (e ∷ entries) port last before after (next, (core, (one, these))) =
        turns_ran entries next last core after these ∙ ap (λ (c : TimedCore). ran_to image end (behind_turns time image end entries c)) one.turn.left

    -- a core behind a turn more is behind that turn and those before it
    pub stands_behind : (entries : List Entry) (e : Entry) (port last : Port) (before now ran after : TimedCore)
        → TakesThese time image end gives logged_of number entries port last before now → ran ≡ ran_to image end now → after ≡ core_after_access time e ran
        → after ≡ behind_turns time image end (entries ++ e ∷ []) before
    stands_behind entries e port last before now ran after these is left =
        left ∙ ap (core_after_access time e) (is ∙ turns_ran entries port last before now these) ∙ sym (behind_more entries e before)

    -- the instructions of a turn behind them, and its access
    pub tells_more : (told here : List Told) (entries : List Entry) (e : Entry) (port last : Port) (before now ran after : TimedCore)
        → TakesThese time image end gives logged_of number entries port last before now → TellsTurns time image end told entries before now
        → told_alone image end now ≡ here → ran ≡ ran_to image end now → after ≡ core_after_access time e ran
        → TellsTurns time image end (told ++ (here ++ Made ran.core.pc ∷ [])) (entries ++ e ∷ []) before after
    tells_more told here entries e port last before now ran after these tells here_is is left =
        let behind : TimedCore = behind_turns time image end entries before in
        let whole : List Told = told_by_turns time image end entries before ++ told_alone image end behind in
        let made : List Told = Made ran.core.pc ∷ [] in
        let ran_is : ran ≡ ran_to image end behind = is ∙ turns_ran entries port last before now these in
        let all_told : told ++ (here ++ made) ≡ told_by_turns time image end (entries ++ e ∷ []) before =
        sym (append_assoc told here made)
        ∙ ap (λ (l : List Told). (told ++ l) ++ made) (sym here_is)
        ∙ ap (λ (l : List Told). l ++ made) tells
        ∙ ap (λ (t : TimedCore). whole ++ Made t.core.pc ∷ []) ran_is
        ∙ sym (told_more entries e before) in
        let after_is : after ≡ behind_turns time image end (entries ++ e ∷ []) before = stands_behind entries e port last before now ran after these is left in
        ap (λ (l : List Told). l ++ told_alone image end after) all_told
        ∙ ap (λ (t : TimedCore). told_by_turns time image end (entries ++ e ∷ []) before ++ told_alone image end t) after_is
