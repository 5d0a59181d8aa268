use Rattle.std.proofs.Common.{◌∙◌, ap, arith}
use Rattle.noc_mesh.specs.declared.stop.Stop.TheVariants.{Core, Bank}
use Rattle.event_graph.specs.AccessPaths.{head_time}
use Rattle.noc_mesh.specs.NetLaws as near
use Rattle.noc_mesh.specs.NetTiming as timing
use Rattle.noc_mesh.specs.Passages.{begun}
use Rattle.noc_mesh.specs.Standings as standings
use Rattle.noc_mesh.proofs.Ways.{near_is, past_is}
use Rattle.noc_mesh.proofs.course.reached.Goals as goal

pub returns-clause-come : goal.returns-clause-come
returns-clause-come c = past_is c.args.path.now c.args.entry.now (begun (head_time c.args.path.now c.args.entry.now.request)) Core Bank c.begun-begun.result c.past.result (c.begun-begun.ensures ∙ ap standings.begun c.head.ensures) c.past.ensures

pub returns-clause-few : goal.returns-clause-few
returns-clause-few c = (near_is (timing.reached c.args.path.now c.args.entry.now) c.past.result 14 69120 (past_is c.args.path.now c.args.entry.now (begun (head_time c.args.path.now c.args.entry.now.request)) Core Bank c.begun-begun.result c.past.result (c.begun-begun.ensures ∙ ap standings.begun c.head.ensures) c.past.ensures) (near.reached_near c.args.path.now c.requires c.args.entry.now) (omega arith) (omega arith)).0

pub returns-clause-soon : goal.returns-clause-soon
returns-clause-soon c = (near_is (timing.reached c.args.path.now c.args.entry.now) c.past.result 14 69120 (past_is c.args.path.now c.args.entry.now (begun (head_time c.args.path.now c.args.entry.now.request)) Core Bank c.begun-begun.result c.past.result (c.begun-begun.ensures ∙ ap standings.begun c.head.ensures) c.past.ensures) (near.reached_near c.args.path.now c.requires c.args.entry.now) (omega arith) (omega arith)).1
