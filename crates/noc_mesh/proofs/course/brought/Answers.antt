use Rattle.std.proofs.Common.{arith}
use Rattle.noc_mesh.specs.declared.stop.Stop.TheVariants.{Bank, Controller}
use Rattle.noc_mesh.specs.NetLaws as near
use Rattle.noc_mesh.specs.NetTiming as timing
use Rattle.noc_mesh.proofs.Ways.{near_is, past_is}
use Rattle.noc_mesh.proofs.course.brought.Goals as goal

pub returns-clause-come : goal.returns-clause-come
returns-clause-come c = past_is c.args.path.now c.args.entry.now (timing.read_in c.args.path.now c.args.entry.now c.args.dirty) Controller Bank c.read_in-read_in.result c.past.result (c.read_in-read_in.ensures.come) c.past.ensures

pub returns-clause-few : goal.returns-clause-few
returns-clause-few c = (near_is (timing.brought c.args.path.now c.args.entry.now c.args.dirty) c.past.result 45 272896 (past_is c.args.path.now c.args.entry.now (timing.read_in c.args.path.now c.args.entry.now c.args.dirty) Controller Bank c.read_in-read_in.result c.past.result (c.read_in-read_in.ensures.come) c.past.ensures) (near.brought_near c.args.path.now c.requires c.args.entry.now c.args.dirty) (omega arith) (omega arith)).0

pub returns-clause-soon : goal.returns-clause-soon
returns-clause-soon c = (near_is (timing.brought c.args.path.now c.args.entry.now c.args.dirty) c.past.result 45 272896 (past_is c.args.path.now c.args.entry.now (timing.read_in c.args.path.now c.args.entry.now c.args.dirty) Controller Bank c.read_in-read_in.result c.past.result (c.read_in-read_in.ensures.come) c.past.ensures) (near.brought_near c.args.path.now c.requires c.args.entry.now c.args.dirty) (omega arith) (omega arith)).1
