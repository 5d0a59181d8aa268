-- The next event is put at its place.
use Rattle.std.proofs.Common.{◌≡◌, length, get_or, slice_get, ◌∙◌, ap, inl, inr, arith, length-set}
use Rattle.std.proofs.lemmas.Bool.{cases_lt}
use Rattle.std.proofs.lemmas.List.{length-map}
use Rattle.std.proofs.lemmas.Option.{slice_get-get_or, slice_get_within}
use Rattle.weave_core.specs.Layout.{timed_from}
use Rattle.weave_run.proofs.Fillings.{agrees_then, agrees_there, given}
use Rattle.weave_run.proofs.ended.fill.Goals as goal

pub bounds-times-event : goal.bounds-times-event
bounds-times-event g c =
    let i = given g.C.Component.serves g.C.Component.floor g.C.Component.stepped g.C.Component.greatest c.domains_keep_to_the_weave.ensures c.args.plan.now c.requires.can c.args.domain.now c.requires.kept c.fired-fired.result.now c.fired-fired.ensures
    c.loop-place.place (get_or c.fired-fired.result.now c.loop-place.place (record { number = 0; start = 0; finish = 0 }))
    (slice_get-get_or c.fired-fired.result.now c.loop-place.place (record { number = 0; start = 0; finish = 0 }) c.loop-place-test.true) in
    let b = i.below in
    let n = c.loop-place.invariant.count in
    let m = c.requires.times in
    omega (arith, b, n, m)

pub loop-place-preserved : goal.loop-place-preserved
loop-place-preserved g c =
    let v = c.loop-place.invariant in
    let e = get_or c.fired-fired.result.now c.loop-place.place (record { number = 0; start = 0; finish = 0 }) in
    let i = given g.C.Component.serves g.C.Component.floor g.C.Component.stepped g.C.Component.greatest c.domains_keep_to_the_weave.ensures c.args.plan.now c.requires.can c.args.domain.now c.requires.kept c.fired-fired.result.now c.fired-fired.ensures
    c.loop-place.place (get_or c.fired-fired.result.now c.loop-place.place (record { number = 0; start = 0; finish = 0 }))
    (slice_get-get_or c.fired-fired.result.now c.loop-place.place (record { number = 0; start = 0; finish = 0 }) c.loop-place-test.true) in
    let count : length c.loop-place.times ≡ length c.args.plan.now.graph.value = v.count ∙ c.requires.times in
    record {
      count = length-set c.loop-place.times _ _ ∙ v.count;
      stays = λ n h.
          agrees_then g.C.Component.serves g.C.Component.floor g.C.Component.stepped g.C.Component.greatest c.domains_keep_to_the_weave.ensures c.args.plan.now c.requires.can c.loop-place.times c.args.domain.now c.loop-place.place
          (get_or c.fired-fired.result.now c.loop-place.place (record { number = 0; start = 0; finish = 0 })) i count n (v.stays n h);
      upto = λ p y l at.
          elim (cases_lt p c.loop-place.place) [
            | inl less ↦
                agrees_then g.C.Component.serves g.C.Component.floor g.C.Component.stepped g.C.Component.greatest c.domains_keep_to_the_weave.ensures c.args.plan.now c.requires.can c.loop-place.times c.args.domain.now c.loop-place.place
                (get_or c.fired-fired.result.now c.loop-place.place (record { number = 0; start = 0; finish = 0 })) i count y.event.number (v.upto p y less at)
            | inr past ↦
                let same : c.loop-place.place ≡ p = omega (arith, l, past) in
                agrees_there g.C.Component.serves g.C.Component.floor g.C.Component.stepped g.C.Component.greatest c.domains_keep_to_the_weave.ensures c.args.plan.now c.requires.can c.loop-place.times c.args.domain.now c.loop-place.place
                (get_or c.fired-fired.result.now c.loop-place.place (record { number = 0; start = 0; finish = 0 })) i count y (ap (slice_get c.args.domain.now.own.fired) same ∙ at)
          ];
    }

pub returns : goal.returns
returns g c =
    let v = c.loop-place.invariant in
    record {
      count = v.count;
      stays = v.stays;
      all = λ p y at.
          v.upto p y
          (let w = slice_get_within c.args.domain.now.own.fired p y at in let n = ap length c.fired-fired.ensures in let m = length-map c.fired-fired.result.now (timed_from c.args.domain.now.events) in let t = c.loop-place-test.false in omega (arith, w, n, m, t))
          at;
    }
