-- The chain's next crossing is told.
use Rattle.std.proofs.Common.{◌≡◌, ◌-◌, ◌+◌, arith}
use Rattle.weave_run.proofs.Chains.{finish_there, step}
use Rattle.weave_run.proofs.tell.tell_all.Goals as goal

pub tell-requires-clause-finish : goal.tell-requires-clause-finish
tell-requires-clause-finish g c = λ x at.
    let some = c.loop-link-test.true in
    let e : c.loop-link.link ≡ (c.loop-link.link - 1) + 1 = omega (arith, some) in
    finish_there g.C.Component.stepped c.args.plan.now c.args.outgoing.now c.requires.outgoing c.args.fired.number c.loop-link.link (c.loop-link.link - 1) c.args.fired.finish c.loop-link.invariant.link e c.requires.finish x at

pub loop-link-smaller : goal.loop-link-smaller
loop-link-smaller g c =
    (step g.C.Component.stepped c.args.plan.now c.args.outgoing.now c.requires.outgoing c.args.domains.now c.loop-link.domains c.tell.new.domains c.args.fired.number c.loop-link.link c.index-link-in-loop-link.result.now
    c.index-link-in-loop-link.result.now c.loop-link-test.true c.loop-link.invariant.link c.loop-link.invariant.told c.tell.ensures.told c.index-link-in-loop-link.ensures).less

pub loop-link-preserved : goal.loop-link-preserved
loop-link-preserved g c =
    let s = step g.C.Component.stepped c.args.plan.now c.args.outgoing.now c.requires.outgoing c.args.domains.now c.loop-link.domains c.tell.new.domains c.args.fired.number c.loop-link.link c.index-link-in-loop-link.result.now
    c.index-link-in-loop-link.result.now c.loop-link-test.true c.loop-link.invariant.link c.loop-link.invariant.told c.tell.ensures.told c.index-link-in-loop-link.ensures in
    record { link = s.link_is; told = s.told }
