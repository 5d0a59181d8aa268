-- The shares go to threads with the domains, and come back.
use Rattle.weave_run.proofs.AtWork.{all_back, all_ran, all_sent}
use Rattle.weave_run.proofs.at_work.work_all.Goals as goal

pub run_in_threads-requires-clause-can : goal.run_in_threads-requires-clause-can
run_in_threads-requires-clause-can g c κs within =
    all_sent c.args.plan.now c.args.crossings.now c.args.crews.now c.exchange.new.crews c.args.shares.now.items c.exchange.new.shares.items c.requires.shares c.exchange.ensures g.C.Component.serves g.C.Component.floor g.C.Component.stepped
    g.C.Component.greatest c.requires.can c.requires.crews

pub returns-clause-shares : goal.returns-clause-shares
returns-clause-shares g c =
    all_back c.args.plan.now c.args.crossings.now c.args.crews.now c.exchange.new.crews c.args.shares.now.items c.exchange.new.shares.items c.requires.shares c.exchange.ensures g.C.Component.stepped c.run_in_threads.new.shares.items
    c.exchange-2.new.shares.items c.exchange-2.new.crews c.run_in_threads.ensures c.exchange-2.ensures

pub returns-clause-worked : goal.returns-clause-worked
returns-clause-worked g c =
    all_ran c.args.plan.now c.args.crossings.now c.args.crews.now c.exchange.new.crews c.args.shares.now.items c.exchange.new.shares.items c.requires.shares c.exchange.ensures g.C.Component.stepped c.run_in_threads.new.shares.items
    c.exchange-2.new.shares.items c.exchange-2.new.crews c.run_in_threads.ensures c.exchange-2.ensures
