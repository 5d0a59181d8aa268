use Rattle.std.proofs.Common.{◌≡◌, arith, rules}
use Rattle.pipe_core.specs.Pace.{issues_at}
use Rattle.pipe_core.proofs.Written.{writes-behind}
use Rattle.pipe_core.proofs.pace.Pace.issue.Goals as goal

pub returns-clause-pace : goal.returns-clause-pace
returns-clause-pace c =
    let same : c.max-issue.result ≡ issues_at c.args.self.now c.args.i c.args.clock = first_of (search rules, cc, omega (arith, c.max-issue.ensures, c.waits_until.ensures)) in
    writes-behind c.args.self.now c.penalty-penalty.new.self c.write.new.self c.args.i c.args.pc c.args.taken c.max-issue.result (issues_at c.args.self.now c.args.i c.args.clock) c.penalty-penalty.ensures.counters same c.write.ensures
