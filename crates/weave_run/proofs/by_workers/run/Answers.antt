-- The rounds begin with domains that have fired nothing.
use Rattle.weave_run.proofs.Seatings.{first_team}
use Rattle.weave_run.proofs.Wovens.{begun_met}
use Rattle.weave_run.proofs.by_workers.run.Goals as goal

pub run_rounds-rounds-requires-clause-met : goal.run_rounds-rounds-requires-clause-met
run_rounds-rounds-requires-clause-met g c κs within =
    begun_met g.C.Component.serves g.C.Component.floor g.C.Component.stepped g.C.Component.greatest c.domains_keep_to_the_weave.ensures c.args.plan.now c.requires.can c.args.prepared.domains.items c.requires.prepared.domains

pub run_rounds-rounds-requires-clause-team : goal.run_rounds-rounds-requires-clause-team
run_rounds-rounds-requires-clause-team g c κs within = first_team g.C.Component.stepped c.args.plan.now c.args.prepared.domains.items c.args.prepared.team c.requires.prepared.domains c.requires.prepared.team
