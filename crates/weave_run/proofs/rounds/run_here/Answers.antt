-- The next domain has run.
use Rattle.std.proofs.Common.{length, ap, arith}
use Rattle.domain_map.specs.Domains.{Partition}
use Rattle.weave_run.proofs.Rounding.{all_ran, none_ran, one_ran}
use Rattle.weave_run.proofs.rounds.run_here.Goals as goal

pub loop-number-preserved : goal.loop-number-preserved
loop-number-preserved g c =
    one_ran g.C.Component.serves g.C.Component.floor g.C.Component.stepped g.C.Component.greatest c.domains_keep_to_the_weave.ensures c.args.plan.now c.requires.can c.args.domains.now c.loop-number.domains c.run_domain.new.domains c.loop-number.number
    c.loop-number.invariant c.run_domain.ensures

pub returns : goal.returns
returns g c =
    let count = c.domains-number-end.ensures.count in
    let end = c.loop-number-test.false in
    let parts = ap (λ (p : Partition). length p.events) c.requires.parts in
    all_ran g.C.Component.serves g.C.Component.floor g.C.Component.stepped g.C.Component.greatest c.domains_keep_to_the_weave.ensures c.args.plan.now c.requires.can c.args.domains.now c.loop-number.domains c.loop-number.number
    c.loop-number.invariant (omega (arith, count, end, parts))

pub loop-number-init : goal.loop-number-init
loop-number-init g c = none_ran g.C.Component.stepped c.args.plan.now c.args.domains.now c.requires.met
