use Rattle.std.proofs.Common.{arith}
use Rattle.noc_mesh.specs.NetLaws as near
use Rattle.noc_mesh.specs.NetTiming as timing
use Rattle.noc_mesh.proofs.Ways.{near_is, goes_is}
use Rattle.noc_mesh.proofs.course.looked_up.Goals as goal

pub returns-clause-few : goal.returns-clause-few
returns-clause-few c = (near_is (timing.looked_up c.args.path.now c.args.entry.now c.args.others) c.behind.result 15 200192 (goes_is (timing.reached c.args.path.now c.args.entry.now) (timing.looks_up c.args.path.now c.args.entry.now c.args.others) c.reached.result c.behind.result c.look_up_time.result c.reached.ensures.come c.look_up_time.ensures c.behind.ensures) (near.looked_near c.args.path.now c.requires c.args.entry.now c.args.others) (omega arith) (omega arith)).0

pub returns-clause-soon : goal.returns-clause-soon
returns-clause-soon c = (near_is (timing.looked_up c.args.path.now c.args.entry.now c.args.others) c.behind.result 15 200192 (goes_is (timing.reached c.args.path.now c.args.entry.now) (timing.looks_up c.args.path.now c.args.entry.now c.args.others) c.reached.result c.behind.result c.look_up_time.result c.reached.ensures.come c.look_up_time.ensures c.behind.ensures) (near.looked_near c.args.path.now c.requires c.args.entry.now c.args.others) (omega arith) (omega arith)).1
