-- The domain ran as a part of all domains.
use Rattle.std.proofs.Common.{arith}
use Rattle.weave_run.proofs.Rounding.{keeps_here, ran_number, run_here, told_more}
use Rattle.weave_run.proofs.rounds.run_domain.Goals as goal

pub run_alone-requires-clause-kept : goal.run_alone-requires-clause-kept
run_alone-requires-clause-kept g c =
    keeps_here g.C.Component.stepped c.args.plan.now c.args.domains.now c.args.number c.from-index.result c.index-domains-index-2.result c.requires.met.kept c.requires.there c.from-index.ensures

pub tell_from-requires-clause-kept : goal.tell_from-requires-clause-kept
tell_from-requires-clause-kept g c =
    (ran_number g.C.Component.stepped c.args.plan.now c.args.domains.now c.args.number c.from-index.result c.index-domains-index.result c.index-domains-index-2.result c.run_alone.new.domain c.fired-place.result.now
    c.requires.met c.requires.there c.from-index.ensures c.fired-place.ensures c.run_alone.ensures).kept

pub tell_bounds-requires-clause-source : goal.tell_bounds-requires-clause-source
tell_bounds-requires-clause-source g c = let a = c.requires.met.kept.count in let b = c.tell_from.ensures.kept.count in let l = c.requires.there in omega (arith, a, b, l)

pub returns : goal.returns
returns g c =
    told_more g.C.Component.stepped c.args.plan.now c.args.domains.now c.tell_from.new.domains c.tell_bounds.new.domains c.args.number
    (run_here g.C.Component.stepped c.args.plan.now c.args.domains.now _ _ c.args.number _ c.requires.met
    (ran_number g.C.Component.stepped c.args.plan.now c.args.domains.now c.args.number c.from-index.result c.index-domains-index.result c.index-domains-index-2.result c.run_alone.new.domain c.fired-place.result.now
    c.requires.met c.requires.there c.from-index.ensures c.fired-place.ensures c.run_alone.ensures)
    c.tell_from.ensures)
    c.tell_bounds.ensures
