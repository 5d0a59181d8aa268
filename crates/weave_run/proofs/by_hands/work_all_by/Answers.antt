-- The shares go to the hands with the domains, and come back.
use Rattle.std.proofs.Common.{◌≡◌, length, ◌∙◌, arith}
use Rattle.component.specs.ComponentStep.{comp_step}
use Rattle.component.specs.Greatest.{comp_greatest}
use Rattle.component.specs.Serving.{comp_latency, comp_serves}
use Rattle.weave_run.proofs.AtWork.{all_back, all_ran, all_sent}
use Rattle.weave_run.proofs.by_hands.work_all_by.Goals as goal

pub run_all-requires : goal.run_all-requires
run_all-requires g c =
    let size : length c.exchange.new.shares.items ≡ length c.args.crews.now = c.exchange.ensures.shares_are ∙ c.requires.shares.count_is in
    let can = all_sent c.args.plan.now c.args.crossings.now c.args.crews.now c.exchange.new.crews c.args.shares.now.items c.exchange.new.shares.items c.requires.shares c.exchange.ensures comp_serves comp_latency comp_step comp_greatest
    c.requires.can c.requires.crews in
    (c.requires.runs _ _ (c.requires.ready, (let s = c.requires.several in omega (arith, s, size)), (let f = c.requires.few in omega (arith, f, size)), can)).0

pub exchange-requires-2 : goal.exchange-requires-2
exchange-requires-2 g c =
    let size : length c.exchange.new.shares.items ≡ length c.args.crews.now = c.exchange.ensures.shares_are ∙ c.requires.shares.count_is in
    let can = all_sent c.args.plan.now c.args.crossings.now c.args.crews.now c.exchange.new.crews c.args.shares.now.items c.exchange.new.shares.items c.requires.shares c.exchange.ensures comp_serves comp_latency comp_step comp_greatest
    c.requires.can c.requires.crews in
    let did = (c.requires.runs _ _ (c.requires.ready, (let s = c.requires.several in omega (arith, s, size)), (let f = c.requires.few in omega (arith, f, size)), can)).1 _ _ _ c.run_all.ensures in
    let count = did.1.count in
    let crews = c.exchange.ensures.crews_are in
    omega (arith, count, size, crews)

pub returns-clause-hands : goal.returns-clause-hands
returns-clause-hands g c =
    let size : length c.exchange.new.shares.items ≡ length c.args.crews.now = c.exchange.ensures.shares_are ∙ c.requires.shares.count_is in
    let can = all_sent c.args.plan.now c.args.crossings.now c.args.crews.now c.exchange.new.crews c.args.shares.now.items c.exchange.new.shares.items c.requires.shares c.exchange.ensures comp_serves comp_latency comp_step comp_greatest
    c.requires.can c.requires.crews in
    ((c.requires.runs _ _ (c.requires.ready, (let s = c.requires.several in omega (arith, s, size)), (let f = c.requires.few in omega (arith, f, size)), can)).1 _ _ _ c.run_all.ensures).0

pub returns-clause-shares : goal.returns-clause-shares
returns-clause-shares g c =
    let size : length c.exchange.new.shares.items ≡ length c.args.crews.now = c.exchange.ensures.shares_are ∙ c.requires.shares.count_is in
    let can = all_sent c.args.plan.now c.args.crossings.now c.args.crews.now c.exchange.new.crews c.args.shares.now.items c.exchange.new.shares.items c.requires.shares c.exchange.ensures comp_serves comp_latency comp_step comp_greatest
    c.requires.can c.requires.crews in
    let did = (c.requires.runs _ _ (c.requires.ready, (let s = c.requires.several in omega (arith, s, size)), (let f = c.requires.few in omega (arith, f, size)), can)).1 _ _ _ c.run_all.ensures in
    all_back c.args.plan.now c.args.crossings.now c.args.crews.now c.exchange.new.crews c.args.shares.now.items c.exchange.new.shares.items c.requires.shares c.exchange.ensures comp_step c.run_all.new.arg3.items
    c.exchange-2.new.shares.items c.exchange-2.new.crews did.1 c.exchange-2.ensures

pub returns-clause-worked : goal.returns-clause-worked
returns-clause-worked g c =
    let size : length c.exchange.new.shares.items ≡ length c.args.crews.now = c.exchange.ensures.shares_are ∙ c.requires.shares.count_is in
    let can = all_sent c.args.plan.now c.args.crossings.now c.args.crews.now c.exchange.new.crews c.args.shares.now.items c.exchange.new.shares.items c.requires.shares c.exchange.ensures comp_serves comp_latency comp_step comp_greatest
    c.requires.can c.requires.crews in
    let did = (c.requires.runs _ _ (c.requires.ready, (let s = c.requires.several in omega (arith, s, size)), (let f = c.requires.few in omega (arith, f, size)), can)).1 _ _ _ c.run_all.ensures in
    all_ran c.args.plan.now c.args.crossings.now c.args.crews.now c.exchange.new.crews c.args.shares.now.items c.exchange.new.shares.items c.requires.shares c.exchange.ensures comp_step c.run_all.new.arg3.items
    c.exchange-2.new.shares.items c.exchange-2.new.crews did.1 c.exchange-2.ensures
