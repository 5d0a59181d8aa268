use Rattle.std.proofs.Common.{arith}
use Rattle.noc_mesh.specs.declared.stop.Stop.TheVariants.{Core, Bank}
use Rattle.noc_mesh.specs.NetLaws as near
use Rattle.noc_mesh.specs.NetTiming as timing
use Rattle.noc_mesh.proofs.Ways.{near_is, past_is}
use Rattle.noc_mesh.proofs.course.answered.Goals as goal

pub returns-clause-come : goal.returns-clause-come
returns-clause-come c = past_is c.args.path.now c.args.entry.now (timing.looked_up c.args.path.now c.args.entry.now c.args.others) Bank Core c.looked_up-looked_up.result c.past.result (c.looked_up-looked_up.ensures.come) c.past.ensures

pub returns-clause-few : goal.returns-clause-few
returns-clause-few c = (near_is (timing.answered c.args.path.now c.args.entry.now c.args.others) c.past.result 29 203776 (past_is c.args.path.now c.args.entry.now (timing.looked_up c.args.path.now c.args.entry.now c.args.others) Bank Core c.looked_up-looked_up.result c.past.result (c.looked_up-looked_up.ensures.come) c.past.ensures) (near.answered_near c.args.path.now c.requires c.args.entry.now c.args.others) (omega arith) (omega arith)).0

pub returns-clause-soon : goal.returns-clause-soon
returns-clause-soon c = (near_is (timing.answered c.args.path.now c.args.entry.now c.args.others) c.past.result 29 203776 (past_is c.args.path.now c.args.entry.now (timing.looked_up c.args.path.now c.args.entry.now c.args.others) Bank Core c.looked_up-looked_up.result c.past.result (c.looked_up-looked_up.ensures.come) c.past.ensures) (near.answered_near c.args.path.now c.requires c.args.entry.now c.args.others) (omega arith) (omega arith)).1
