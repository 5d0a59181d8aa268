-- Each crossing's parent is an event.
use Rattle.std.proofs.Common.{length, sym, ◌∙◌, ap}
use Rattle.weave_run.proofs.Wovens.{parents_in}
use Rattle.weave_run.proofs.by_workers.weave.Goals as goal

pub prepare-requires-clause-there : goal.prepare-requires-clause-there
prepare-requires-clause-there g c =
    parents_in g.C.Component.serves g.C.Component.floor g.C.Component.stepped g.C.Component.greatest c.domains_keep_to_the_weave.ensures c.args.graph.now c.args.parts.now c.args.comps (record { partitioned = c.requires.partitioned; small = c.requires.small })

pub run-requires-clause-can : goal.run-requires-clause-can
run-requires-clause-can g c κs within = rw (c.of-plan.ensures.graph, c.of-plan.ensures.parts, c.of-plan.ensures.comps) (record { partitioned = c.requires.partitioned; small = c.requires.small })

pub run-requires-clause-prepared : goal.run-requires-clause-prepared
run-requires-clause-prepared g c κs within = c.in_ok-prepared.ensures.prepared

pub run-requires-clause-events : goal.run-requires-clause-events
run-requires-clause-events g c κs within = ap length (c.events.ensures.events ∙ sym c.of-plan.ensures.graph)

pub returns-clause-woven : goal.returns-clause-woven
returns-clause-woven g c = rw (← c.of-plan.ensures.graph, ← c.of-plan.ensures.comps) c.run.ensures
