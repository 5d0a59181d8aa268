use Rattle.std.proofs.Common.{arith}
use Rattle.noc_mesh.specs.declared.stop.Stop.TheVariants.{Core, Bank}
use Rattle.zs_num.specs.declared.entry.Outcome.TheVariants.{Miss}
use Rattle.noc_mesh.specs.NetLaws as near
use Rattle.noc_mesh.specs.NetTiming as timing
use Rattle.noc_mesh.proofs.Ways.{near_is, past_is}
use Rattle.noc_mesh.proofs.course.returned.Goals as goal

pub returns-clause-come : goal.returns-clause-come
returns-clause-come c = past_is c.args.path.now c.args.entry.now (timing.filled c.args.path.now c.args.entry.now c.args.dirty) Bank Core c.filled-filled.result c.past.result (c.filled-filled.ensures.come) c.past.ensures

pub returns-clause-few : goal.returns-clause-few
returns-clause-few c = (near_is (timing.passage c.args.path.now c.args.entry.now (Miss c.args.dirty)) c.past.result 60 342016 (past_is c.args.path.now c.args.entry.now (timing.filled c.args.path.now c.args.entry.now c.args.dirty) Bank Core c.filled-filled.result c.past.result (c.filled-filled.ensures.come) c.past.ensures) (near.passage_near c.args.path.now c.requires c.args.entry.now (Miss c.args.dirty)) (omega arith) (omega arith)).0

pub returns-clause-soon : goal.returns-clause-soon
returns-clause-soon c = (near_is (timing.passage c.args.path.now c.args.entry.now (Miss c.args.dirty)) c.past.result 60 342016 (past_is c.args.path.now c.args.entry.now (timing.filled c.args.path.now c.args.entry.now c.args.dirty) Bank Core c.filled-filled.result c.past.result (c.filled-filled.ensures.come) c.past.ensures) (near.passage_near c.args.path.now c.requires c.args.entry.now (Miss c.args.dirty)) (omega arith) (omega arith)).1
