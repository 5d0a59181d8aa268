use Rattle.std.proofs.Common.{◌≡◌, ◌+◌, ◌<◌, ◌++◌, drop, get_or, length, List, map, Some, append_assoc, sym, ◌∙◌, ap, arith}
use Rattle.std.specs.Prelude.{slice_get}
use Rattle.std.proofs.lemmas.Option.{slice_get-get_or}
use Rattle.rv_core.specs.declared.leg.Leg.{Leg}
use Rattle.bound_records.proofs.Lists.{get_mapped}
use Rattle.trace.specs.EachCore.{untold_from, untold_steps}
use Rattle.trace.specs.Trace.{Step}
use Rattle.trace.proofs.CoresInTurn.{untold_more}
use Rattle.trace.proofs.each_core.tell_untold.Goals as goal

pub loop-number-preserved : goal.loop-number-preserved
loop-number-preserved g c =
    let n = c.loop-number.number in
    let lists = c.args.untold.now in
    let legs = get_or lists n c.index-untold-number.result in
    let all : List (List Leg) = map (λ ls. ls.items) lists in
    let below : n < length lists = omega (arith, c.loop-number-test.true, c.loop-number.auto.number-end) in
    let here : slice_get all n ≡ Some legs.items = get_mapped (λ ls. ls.items) lists n legs (slice_get-get_or lists n c.index-untold-number.result below) in
    let now = g.T.Tracer.steps c.loop-number.tracer in
    let at : c.index-untold-number.result ≡ legs = c.index-untold-number.is in
    let rest : List Step = untold_from (n + 1) (drop (n + 1) all) in
    record {
      told =
          ap (λ (steps : List Step). steps ++ rest) (c.in_ok-tell_legs.ensures.told ∙ ap (λ (ls : List Leg). now ++ untold_steps n ls) (c.deref.ensures.value ∙ ap (λ ls. ls.items) at))
          ∙ (append_assoc now (untold_steps n legs.items) rest
          ∙ (ap (λ (steps : List Step). now ++ steps) (sym (untold_more all n legs.items here)) ∙ c.loop-number.invariant.told));
      fixed = c.in_ok-tell_legs.ensures.fixed ∙ c.loop-number.invariant.fixed;
    }
