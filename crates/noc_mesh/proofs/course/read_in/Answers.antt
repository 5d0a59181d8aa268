use Rattle.std.proofs.Common.{ap, arith}
use Rattle.std.specs.Prelude.{true, false}
use Rattle.noc_mesh.specs.declared.stage.Stage.{Stage}
use Rattle.noc_mesh.specs.NetLaws as near
use Rattle.noc_mesh.specs.NetTiming as timing
use Rattle.noc_mesh.proofs.Ways.{near_is, goes_is, beside_is}
use Rattle.noc_mesh.proofs.course.read_in.Goals as goal

pub beside-requires : goal.beside-requires
beside-requires c = (near_is (timing.read_in c.args.path.now c.args.entry.now false) c.behind-read.result 31 269312 (goes_is (timing.missed c.args.path.now c.args.entry.now) (timing.reads c.args.path.now c.args.entry.now) c.missed.result c.behind-read.result c.reads.result.time c.missed.ensures.come (ap (λ (z : Stage). z.time) c.reads.ensures) c.behind-read.ensures) (near.read_near c.args.path.now c.requires c.args.entry.now false) (omega arith) (omega arith)).0

pub returns-then-dirty-clause-few : goal.returns-then-dirty-clause-few
returns-then-dirty-clause-few c = (near_is (timing.read_in c.args.path.now c.args.entry.now true) c.beside.result 31 269312 (beside_is c.args.path.now c.args.entry.now c.behind-read.result c.beside.result (goes_is (timing.missed c.args.path.now c.args.entry.now) (timing.reads c.args.path.now c.args.entry.now) c.missed.result c.behind-read.result c.reads.result.time c.missed.ensures.come (ap (λ (z : Stage). z.time) c.reads.ensures) c.behind-read.ensures) c.beside.ensures) (near.read_near c.args.path.now c.requires c.args.entry.now true) (omega arith) (omega arith)).0

pub returns-then-dirty-clause-soon : goal.returns-then-dirty-clause-soon
returns-then-dirty-clause-soon c = (near_is (timing.read_in c.args.path.now c.args.entry.now true) c.beside.result 31 269312 (beside_is c.args.path.now c.args.entry.now c.behind-read.result c.beside.result (goes_is (timing.missed c.args.path.now c.args.entry.now) (timing.reads c.args.path.now c.args.entry.now) c.missed.result c.behind-read.result c.reads.result.time c.missed.ensures.come (ap (λ (z : Stage). z.time) c.reads.ensures) c.behind-read.ensures) c.beside.ensures) (near.read_near c.args.path.now c.requires c.args.entry.now true) (omega arith) (omega arith)).1

pub returns-else-dirty-clause-few : goal.returns-else-dirty-clause-few
returns-else-dirty-clause-few c = (near_is (timing.read_in c.args.path.now c.args.entry.now false) c.behind-read.result 31 269312 (goes_is (timing.missed c.args.path.now c.args.entry.now) (timing.reads c.args.path.now c.args.entry.now) c.missed.result c.behind-read.result c.reads.result.time c.missed.ensures.come (ap (λ (z : Stage). z.time) c.reads.ensures) c.behind-read.ensures) (near.read_near c.args.path.now c.requires c.args.entry.now false) (omega arith) (omega arith)).0

pub returns-else-dirty-clause-soon : goal.returns-else-dirty-clause-soon
returns-else-dirty-clause-soon c = (near_is (timing.read_in c.args.path.now c.args.entry.now false) c.behind-read.result 31 269312 (goes_is (timing.missed c.args.path.now c.args.entry.now) (timing.reads c.args.path.now c.args.entry.now) c.missed.result c.behind-read.result c.reads.result.time c.missed.ensures.come (ap (λ (z : Stage). z.time) c.reads.ensures) c.behind-read.ensures) (near.read_near c.args.path.now c.requires c.args.entry.now false) (omega arith) (omega arith)).1
