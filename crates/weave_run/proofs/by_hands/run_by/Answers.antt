-- The rounds begin with domains that have fired nothing.
use Rattle.component.specs.ComponentStep.{comp_step}
use Rattle.component.specs.Greatest.{comp_greatest}
use Rattle.component.specs.Serving.{comp_latency, comp_serves}
use Rattle.weave_run.proofs.Seatings.{first_team}
use Rattle.weave_run.proofs.Wovens.{begun_met}
use Rattle.weave_run.proofs.by_hands.run_by.Goals as goal

pub run_rounds_by-rounds-requires-clause-met : goal.run_rounds_by-rounds-requires-clause-met
run_rounds_by-rounds-requires-clause-met g c =
    begun_met comp_serves comp_latency comp_step comp_greatest c.domains_keep_to_the_weave.ensures c.args.plan.now c.requires.can c.args.prepared.domains.items c.requires.prepared.domains

pub run_rounds_by-rounds-requires-clause-team : goal.run_rounds_by-rounds-requires-clause-team
run_rounds_by-rounds-requires-clause-team g c = first_team comp_step c.args.plan.now c.args.prepared.domains.items c.args.prepared.team c.requires.prepared.domains c.requires.prepared.team
