-- The next domain has an earliest event, or has none.
use Rattle.std.proofs.Common.{◌≡◌, Some, slice_get, sym, ◌∙◌, ap, subst}
use Rattle.std.proofs.lemmas.Option.{slice_get-get_or}
use Rattle.weave_core.specs.DomainCalls.{DomainValue}
use Rattle.weave_run.proofs.Floors.{IsFrontSo, front_next, front_past, no_key}
use Rattle.weave_run.proofs.rounds.front_of.Goals.{in-Some, in_default}
use Rattle.weave_run.proofs.rounds.front_of.Goals as goal

pub loop-index-preserved : goal.loop-index-preserved
loop-index-preserved g c =
    let v = c.index-domains-index.result in
    let at : slice_get c.args.domains.now c.loop-index.index ≡ Some c.index-domains-index.result =
    slice_get-get_or c.args.domains.now c.loop-index.index c.index-domains-index.result c.loop-index-test.true ∙ ap (λ (w : DomainValue g.row.C.Denot). Some w) (sym c.index-domains-index.is)
    in
    elim c.match-earliest.branch [
      | in-Some w ↦
          subst (IsFrontSo c.args.plan.now c.args.domains.now _) (sym (w.front-is ∙ ap (λ n. Some n) w.earlier.ensures))
          (front_next g.C.Component.serves g.C.Component.floor g.C.Component.stepped g.C.Component.greatest c.domains_keep_to_the_weave.ensures c.args.plan.now c.requires.can c.args.domains.now c.requires.kept c.loop-index.index v at c.loop-index.front
          c.loop-index.invariant w.in-Some.key (sym c.earliest.ensures ∙ w.in-Some.is))
      | in_default w ↦
          subst (IsFrontSo c.args.plan.now c.args.domains.now _) (sym w.front-is)
          (front_past g.C.Component.serves g.C.Component.floor g.C.Component.stepped g.C.Component.greatest c.domains_keep_to_the_weave.ensures c.args.plan.now c.requires.can c.args.domains.now c.requires.kept c.loop-index.index v at c.loop-index.front
          c.loop-index.invariant (sym c.earliest.ensures ∙ no_key c.earliest.result w.in_default.not-Some))
    ]
