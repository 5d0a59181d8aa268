use Rattle.std.proofs.Common.{Some, None}
use Rattle.home.specs.Rows.{line_in}
use Rattle.shard.specs.BankSteps.{bank_with}
use Rattle.shard.proofs.ShardSeen.{dirty_here}
use Rattle.shard.proofs.shard.Shard.l2_dirty.Goals as goal

pub returns-in-Some : goal.returns-in-Some
returns-in-Some c = dirty_here (bank_with c.self.inside.home c.self.inside.l1s.items) c.self.inside.last c.args.self.now c.self.invariant.parts c.self.view_is c.args.line (Some (line_in c.in-Some.row)) c.in-Some.ensures

pub returns-in-None : goal.returns-in-None
returns-in-None c = dirty_here (bank_with c.self.inside.home c.self.inside.l1s.items) c.self.inside.last c.args.self.now c.self.invariant.parts c.self.view_is c.args.line None c.in-None.ensures
