-- The next domain's events are put at their places.
use Rattle.std.proofs.Common.{◌≡◌, slice_get, refl, sym, ◌∙◌, ap, subst, inl, inr, arith}
use Rattle.std.proofs.lemmas.Bool.{cases_lt}
use Rattle.std.proofs.lemmas.Option.{same_Some, slice_get-get_or, slice_get_within}
use Rattle.weave_core.specs.DomainCalls.{DomainValue}
use Rattle.weave_run.specs.Rounds.{KeepsToWeave}
use Rattle.weave_run.proofs.Fillings.{all_filled}
use Rattle.weave_run.proofs.Rounding.{keeps_here}
use Rattle.weave_run.proofs.ended.fill_all.Goals as goal

pub fill-requires-clause-kept : goal.fill-requires-clause-kept
fill-requires-clause-kept g c =
    subst (KeepsToWeave g.C.Component.stepped c.args.plan.now) (sym c.index-domains-index.is)
    (keeps_here g.C.Component.stepped c.args.plan.now c.args.domains.now c.loop-index.index c.loop-index.index c.index-domains-index.result c.requires.kept c.loop-index-test.true refl)

pub loop-index-preserved : goal.loop-index-preserved
loop-index-preserved g c =
    let i = c.loop-index.invariant in
    record {
      count = c.fill.ensures.count ∙ i.count;
      upto = λ d v place y l at f.
          elim (cases_lt d c.loop-index.index) [
            | inl less ↦ c.fill.ensures.stays y.event.number (i.upto d v place y less at f)
            | inr past ↦
                let same : c.loop-index.index ≡ d = omega (arith, l, past) in
                let is : c.index-domains-index.result ≡ v =
                c.index-domains-index.is
                ∙ same_Some _ v (sym (slice_get-get_or c.args.domains.now c.loop-index.index c.index-domains-index.result c.loop-index-test.true) ∙ (ap (slice_get c.args.domains.now) same ∙ at))
                in
                c.fill.ensures.all place y (ap (λ (z : DomainValue g.row.C.Denot). slice_get z.own.fired place) is ∙ f)
          ];
    }

pub returns : goal.returns
returns g c =
    let i = c.loop-index.invariant in
    all_filled g.C.Component.serves g.C.Component.floor g.C.Component.stepped g.C.Component.greatest c.domains_keep_to_the_weave.ensures c.args.plan.now c.requires.can c.args.domains.now c.loop-index.times c.requires.kept c.requires.all
    (i.count ∙ c.requires.times)
    (λ d v place y at f. i.upto d v place y (let w = slice_get_within c.args.domains.now d v at in let t = c.loop-index-test.false in omega (arith, w, t)) at f)
