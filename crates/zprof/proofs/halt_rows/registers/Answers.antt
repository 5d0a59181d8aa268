-- All registers are there in the end.
use Rattle.std.proofs.Common.{◌≡◌, ◌<◌, List, [], ◌∷◌, ◌++◌, ℕ, length, slice_get, Some, ap, sym, ◌∙◌, rules}
use Rattle.std.proofs.lemmas.Option.{slice_get-get_or}
use Rattle.zprof.proofs.OneMore.{take_on}
use Rattle.zprof.proofs.halt_rows.registers.Goals as goal

pub loop-number-preserved : goal.loop-number-preserved
loop-number-preserved c =
    let registers = c.args.core.now.registers in
    let within : c.loop-number.number < length registers = search (c.requires.registers, rules) in
    let at : slice_get registers c.loop-number.number ≡ Some c.reg.result = slice_get-get_or registers c.loop-number.number 0 within ∙ ap (λ (x : ℕ). Some x) (sym c.reg.ensures.value) in
    c.in_ok-push.ensures.items ∙ ap (λ (xs : List ℕ). xs ++ c.reg.result ∷ []) c.loop-number.invariant ∙ sym (take_on registers c.loop-number.number c.reg.result at)
