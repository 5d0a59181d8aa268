-- A place more names the same core.
use Rattle.std.proofs.Common.{◌≡◌, ◌<◌, ◌+◌, ◌++◌, ◌∷◌, [], ℕ, List, get_or, length, take, ◌∙◌, ap, arith}
use Rattle.std.specs.Prelude.{replicate}
use Rattle.std.proofs.lemmas.List.{take_more}
use Rattle.trace.proofs.Stretches.{one_longer}
use Rattle.trace.proofs.turns.stretch.Goals as goal

pub loop-count-init : goal.loop-count-init
loop-count-init c = record { some = omega arith; within = omega (arith, c.requires.place); same = take_more c.args.turns.now c.args.place 0 c.requires.place }

pub loop-count-preserved : goal.loop-count-preserved
loop-count-preserved c =
    let turns = c.args.turns.now in
    let place = c.args.place in
    let count = c.loop-count.count in
    let number : ℕ = get_or turns place 0 in
    let below : place + count < length turns = c.loop-count-test.true in
    let more : take (place + count + 1) turns ≡ take place turns ++ replicate (count + 1) number =
    take_more turns (place + count) 0 below
    ∙ (ap (λ (n : ℕ). take (place + count) turns ++ n ∷ []) c.if-turns-place.true ∙ (ap (λ (ns : List ℕ). ns ++ number ∷ []) c.loop-count.invariant.same ∙ one_longer (take place turns) count number))
    in
    let same : place + (count + 1) ≡ place + count + 1 = omega arith in
    record { some = omega arith; within = omega (arith, below); same = ap (λ (n : ℕ). take n turns) same ∙ more }
