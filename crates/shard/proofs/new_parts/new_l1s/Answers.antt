use Rattle.std.proofs.Common.{◌∷◌, [], ◌++◌, List, replicate, ap, ◌∙◌}
use Rattle.std.proofs.lemmas.List.{replicate_more}
use Rattle.l1_cache.specs.L1State.{L1State}
use Rattle.shard.specs.NewParts.{l1_of_core}
use Rattle.shard.proofs.new_parts.new_l1s.Goals as goal

pub loop-core-preserved : goal.loop-core-preserved
loop-core-preserved c =
    let each : L1State = l1_of_core c.args.machine.now c.args.parts in
    let n = c.loop-core._core in
    let one = c.in_ok-new_l1.field-0 in
    c.in_ok-push.ensures.items
    ∙ ap (λ (l1s : List L1State). l1s ++ one ∷ []) c.loop-core.invariant
    ∙ ap (λ (l1 : L1State). replicate n each ++ l1 ∷ []) c.in_ok-new_l1.ensures
    ∙ replicate_more n each
