-- The chain's next crossing is published.
use Rattle.std.proofs.Common.{arith}
use Rattle.weave_run.proofs.Postings.{all_published, may_write, none_published, publish_step, sound}
use Rattle.weave_run.proofs.post.publish_all.Goals as goal

pub publish-requires-clause-may : goal.publish-requires-clause-may
publish-requires-clause-may g c =
    may_write g.C.Component.stepped c.args.plan.now c.args.crossings.now c.args.seat.now c.loop-link.seat c.args.fired.number c.loop-link.link c.args.fired.finish (omega (arith, c.loop-link-test.true)) c.requires.seat c.requires.may c.requires.finish
    c.loop-link.invariant.link c.loop-link.invariant.so_far

pub publish-requires-clause-sound : goal.publish-requires-clause-sound
publish-requires-clause-sound g c =
    sound g.C.Component.stepped c.args.plan.now c.args.crossings.now c.args.seat.now c.loop-link.seat c.args.fired.number c.loop-link.link c.args.fired.finish (omega (arith, c.loop-link-test.true)) c.requires.seat c.requires.may c.requires.finish
    c.loop-link.invariant.link c.loop-link.invariant.so_far

pub loop-link-smaller : goal.loop-link-smaller
loop-link-smaller g c =
    (publish_step g.C.Component.stepped c.args.plan.now c.args.crossings.now c.args.seat.now c.loop-link.seat c.args.fired.number c.loop-link.link c.args.fired.finish (omega (arith, c.loop-link-test.true)) c.requires.seat c.requires.may
    c.requires.finish c.loop-link.invariant.link c.loop-link.invariant.so_far c.args.outgoing.now c.requires.outgoing c.publish.new.seat c.index-link-in-loop-link.result.now c.index-link-in-loop-link.result.now c.publish.ensures
    c.index-link-in-loop-link.ensures).less

pub loop-link-preserved : goal.loop-link-preserved
loop-link-preserved g c =
    let s = publish_step g.C.Component.stepped c.args.plan.now c.args.crossings.now c.args.seat.now c.loop-link.seat c.args.fired.number c.loop-link.link c.args.fired.finish (omega (arith, c.loop-link-test.true)) c.requires.seat c.requires.may
    c.requires.finish c.loop-link.invariant.link c.loop-link.invariant.so_far c.args.outgoing.now c.requires.outgoing c.publish.new.seat c.index-link-in-loop-link.result.now c.index-link-in-loop-link.result.now c.publish.ensures
    c.index-link-in-loop-link.ensures in
    record { link = s.link_is; so_far = s.published }

pub loop-link-init : goal.loop-link-init
loop-link-init g c =
    let s = none_published g.C.Component.stepped c.args.plan.now c.args.outgoing.now c.requires.outgoing c.args.seat.now c.args.fired.number c.args.fired.finish c.index-link.result.now c.index-link.result.now c.requires.there
    c.index-link.ensures in
    record { link = s.link_is; so_far = s.published }

pub returns : goal.returns
returns g c =
    all_published g.C.Component.stepped c.args.plan.now c.args.seat.now c.loop-link.seat c.args.fired.number c.args.fired.finish c.loop-link.link (omega (arith, c.loop-link-test.false)) c.loop-link.invariant.so_far
