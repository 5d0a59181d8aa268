-- Nothing is known at first.
use Rattle.std.proofs.Common.{◌≡◌, List, length, ◌∙◌, ap}
use Rattle.std.specs.Prelude.{replicate}
use Rattle.zs_num.specs.declared.time.Word.TheVariants.{Bound}
use Rattle.domain_map.specs.declared.crossing.Crossing.{Crossing}
use Rattle.weave_tests.proofs.Keeping.{keeps_first}
use Rattle.weave_tests.proofs.driven.Driven.prepare.Goals as goal

pub invariant_of-result : goal.invariant_of-result
invariant_of-result c =
    let new = c.in_ok-domain.ensures in
    let known : c.in_ok-known.known.items ≡ replicate (length c.args.parts.now.crossings) (Bound 0) =
    c.in_ok-known.ensures ∙ ap (λ (xs : List Crossing). replicate (length xs) (Bound 0)) c.crossings.ensures
    in
    record {
      keeps = keeps_first c.args.graph.now c.args.parts.now c.args.number c.in_ok-domain.domain c.in_ok-known.known.items c.in_ok-told.told.items new.comps 4194304 new.is known new.calm;
    }
