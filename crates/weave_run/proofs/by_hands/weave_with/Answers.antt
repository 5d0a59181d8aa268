-- Each crossing's parent is an event.
use Rattle.std.proofs.Common.{length, sym, ◌∙◌, ap}
use Rattle.component.specs.ComponentStep.{comp_step}
use Rattle.component.specs.Greatest.{comp_greatest}
use Rattle.component.specs.Serving.{comp_latency, comp_serves}
use Rattle.weave_run.proofs.Wovens.{parents_in}
use Rattle.weave_run.proofs.by_hands.weave_with.Goals as goal

pub prepare-requires-clause-there : goal.prepare-requires-clause-there
prepare-requires-clause-there g c =
    parents_in comp_serves comp_latency comp_step comp_greatest c.domains_keep_to_the_weave.ensures c.args.graph.now c.args.parts.now c.args.comps (record { partitioned = c.requires.partitioned; small = c.requires.small })

pub run_by-requires-clause-can : goal.run_by-requires-clause-can
run_by-requires-clause-can g c = rw (c.of-plan.ensures.graph, c.of-plan.ensures.parts, c.of-plan.ensures.comps) (record { partitioned = c.requires.partitioned; small = c.requires.small })

pub run_by-requires-clause-prepared : goal.run_by-requires-clause-prepared
run_by-requires-clause-prepared g c = c.in_ok-prepared.ensures.prepared

pub run_by-requires-clause-events : goal.run_by-requires-clause-events
run_by-requires-clause-events g c = ap length (c.events.ensures.events ∙ sym c.of-plan.ensures.graph)

pub returns-clause-woven : goal.returns-clause-woven
returns-clause-woven g c = rw (← c.of-plan.ensures.graph, ← c.of-plan.ensures.comps) c.run_by.ensures.woven
