use Rattle.std.proofs.Common.{◌≡◌, ◌∙◌, ◌++◌, ◌∷◌, [], ℕ, List, get_or, pos, sym, ap₂, rules}
use Rattle.std.proofs.lemmas.List.{map_more}
use Rattle.machine_desc.specs.Text.{natural}
use Rattle.machine_desc.proofs.numbers.shorts.Goals as goal

pub loop-integer-preserved : goal.loop-integer-preserved
loop-integer-preserved c =
    let integers = c.args.integers.now in
    let i = c.loop-integer.integer-index in
    let short : c.natural.result ≡ natural (get_or integers i (pos 0)) = search rules in
    c.in_ok-push.ensures.items
    ∙ ap₂ (λ (shorts : List ℕ) (short : ℕ). shorts ++ short ∷ []) c.loop-integer.invariant short
    ∙ sym (map_more natural integers i (pos 0) c.loop-integer-test.true)
